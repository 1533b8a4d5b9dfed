-- The tokens of a guest tree break no rule.
use Rattle.std.proofs.Common.{◌≡◌, ℕ, zero, suc, ◌+◌, ◌≤◌, Bool, true, false, not, ltb, List, [], ◌∷◌, ◌++◌, map, length, Option, Some, None, refl, sym, ap, ◌∙◌, arith, append_assoc, append-nil}
use Rattle.std.specs.Prelude.{codes, find, ◌||◌}
use Rattle.std.specs.List.{flat_map, range_with_len}
use Rattle.std.specs.Str.{bytes_eq}
use Rattle.std.proofs.lemmas.Bool.{and_parts}
use Rattle.std.proofs.lemmas.Fmt.{decimal_digit}
use Rattle.hv_config.specs.declared.form.Kind.{Kind}
use Rattle.hv_config.specs.declared.form.Kind.TheVariants.{Channel, Send, Receive, Manage}
use Rattle.hv_config.specs.declared.config.HandleDef.{HandleDef}
use Rattle.hv_config.specs.declared.config.PartDef.{PartDef}
use Rattle.hv_config.specs.declared.config.Config.{Config}
use Rattle.hv_config.specs.Plain.{handle_names}
use Rattle.machine_desc.specs.declared.desc.Desc.{Desc}
use Rattle.dt_model.specs.declared.tree.Property.{Property}
use Rattle.dt_model.specs.Name.{is_name_of, is_node_name, has, SameNames}
use Rattle.dt_model.specs.Kept.{are_apart}
use Rattle.dt_model.specs.Token.{Token, BeginNode, EndNode, Finish}
use Rattle.dt_model.specs.Node.{property_token}
use Rattle.dt_model.specs.Rule.{first_broken, broken_by_begin}
use Rattle.config_descs.specs.Desc.{interrupts_of, desc_of}
use Rattle.guest_tree.specs.Properties.{root_properties, cpus_properties, cpu_properties, memory_properties, pic_properties, hypervisor_properties, kind_properties, handle_properties, bootargs_properties, stdout_properties, is_channel, chosen_properties}
use Rattle.dt_make.specs.Nodes.{node}
use Rattle.guest_tree.specs.Tokens.{cpu_tokens, cpus_tokens, memory_tokens, pic_tokens, handle_tokens, hypervisor_tokens, chosen_tokens, children_tokens, guest_tokens}
use Rattle.guest_tree.proofs.Checked.{Open, is_some_open, empty, with_child, passes, passing, root-holds, passes-append}

-- what stands beside the root
abbrev bottom : Open
bottom = with_child empty []

-- ---- nodes

-- a node whose name may come, when its properties pass and then what is in it
node-passes : (here : Open) (outer : List Open) (name : List ℕ) (properties : List Property) (inner : Open) (children : List Token)
    → is_node_name name ≡ true → is_some_open outer ≡ true → ltb (length outer) 32 ≡ true → has here.children name ≡ false
    → passes (empty ∷ with_child here name ∷ outer) (map property_token properties ++ children) ≡ Some (inner ∷ with_child here name ∷ outer)
    → passes (here ∷ outer) (node name properties children) ≡ Some (with_child here name ∷ outer)
node-passes here outer name properties inner children legal inside shallow new e =
    let end : passes (inner ∷ with_child here name ∷ outer) (EndNode ∷ []) ≡ Some (with_child here name ∷ outer) = refl in
    let all = passes-append (empty ∷ with_child here name ∷ outer) (inner ∷ with_child here name ∷ outer) (with_child here name ∷ outer) (map property_token properties ++ children) (EndNode ∷ []) e end in
    rw (legal, inside, shallow, new) (ap (passes (empty ∷ with_child here name ∷ outer)) (sym (append_assoc (map property_token properties) children (EndNode ∷ []))) ∙ all)

leaf-passes : (here : Open) (outer : List Open) (name : List ℕ) (properties : List Property) (inner : Open)
    → is_node_name name ≡ true → is_some_open outer ≡ true → ltb (length outer) 32 ≡ true → has here.children name ≡ false
    → passes (empty ∷ with_child here name ∷ outer) (map property_token properties) ≡ Some (inner ∷ with_child here name ∷ outer)
    → passes (here ∷ outer) (node name properties []) ≡ Some (with_child here name ∷ outer)
leaf-passes here outer name properties inner legal inside shallow new e =
    node-passes here outer name properties inner [] legal inside shallow new (ap (passes (empty ∷ with_child here name ∷ outer)) (append-nil (map property_token properties)) ∙ e)

-- ---- properties

-- these pass where a node began, whatever is around it
abbrev Pass : List Property → Type 0
Pass properties = (here : Open) (outer : List Open) → (inner : Open) × (passes (empty ∷ here ∷ outer) (map property_token properties) ≡ Some (inner ∷ here ∷ outer))

root-passes : (part : PartDef) → Pass (root_properties part)
unfolding is_name_of
root-passes part here outer = (_, refl)

memory-passes : (config : Config) (part : PartDef) → Pass (memory_properties config part)
unfolding is_name_of
memory-passes config part here outer = (_, refl)

pic-passes : Pass pic_properties
unfolding is_name_of
pic-passes here outer = (_, refl)

hypervisor-passes : Pass hypervisor_properties
unfolding is_name_of
hypervisor-passes here outer = (_, refl)

kind-passes : (number next : ℕ) (kind : Kind) (target : List ℕ) → Pass (kind_properties number next kind target)
unfolding is_name_of
kind-passes number next Channel target here outer = (_, refl)
kind-passes number next Send target here outer = (_, refl)
kind-passes number next Receive target here outer = (_, refl)
kind-passes number next Manage target here outer = (_, refl)

handle-passes : (number next : ℕ) (handle : HandleDef) → Pass (handle_properties number next handle)
unfolding handle_properties
handle-passes number next handle = kind-passes number next handle.kind handle.target

parts-pass : (bootargs : Option (List ℕ)) (handle : Option HandleDef) → Pass (bootargs_properties bootargs ++ stdout_properties handle)
unfolding is_name_of
parts-pass None None here outer = (_, refl)
parts-pass None (Some handle) here outer = (_, refl)
parts-pass (Some bootargs) None here outer = (_, refl)
parts-pass (Some bootargs) (Some handle) here outer = (_, refl)

chosen-passes : (part : PartDef) → Pass (chosen_properties part)
unfolding chosen_properties
chosen-passes part = parts-pass part.bootargs (find is_channel part.handles)

-- ---- cores

-- a core whose number has one digit
abbrev digit_tokens : Desc → ℕ → List Token
digit_tokens desc core = node (codes "cpu@" ++ (48 + core) ∷ []) (cpu_properties desc core) []

digits-are : (desc : Desc) (first count : ℕ) → first + count ≤ 8 → flat_map (cpu_tokens desc) (range_with_len first count) ≡ flat_map (digit_tokens desc) (range_with_len first count)
digits-are desc first zero few = refl
digits-are desc first (suc count) few =
    ap (λ (digits : List ℕ). node (codes "cpu@" ++ digits) (cpu_properties desc first) [] ++ flat_map (cpu_tokens desc) (range_with_len (first + 1) count)) (decimal_digit first (omega (arith, few)))
    ∙ ap (λ (tokens : List Token). digit_tokens desc first ++ tokens) (digits-are desc (first + 1) count (omega (arith, few)))

abbrev CoresPass : Desc → ℕ → Type 0
CoresPass desc count = (root : Open)
    → (inner : Open) × (passes (empty ∷ root ∷ bottom ∷ []) (map property_token cpus_properties ++ flat_map (digit_tokens desc) (range_with_len 0 count)) ≡ Some (inner ∷ root ∷ bottom ∷ []))

digits-pass : (desc : Desc) (count : ℕ) → count ≤ 8 → CoresPass desc count
unfolding is_name_of cpu_properties
digits-pass desc zero few root = (_, refl)
digits-pass desc (suc zero) few root = (_, refl)
digits-pass desc (suc (suc zero)) few root = (_, refl)
digits-pass desc (suc (suc (suc zero))) few root = (_, refl)
digits-pass desc (suc (suc (suc (suc zero)))) few root = (_, refl)
digits-pass desc (suc (suc (suc (suc (suc zero))))) few root = (_, refl)
digits-pass desc (suc (suc (suc (suc (suc (suc zero)))))) few root = (_, refl)
digits-pass desc (suc (suc (suc (suc (suc (suc (suc zero))))))) few root = (_, refl)
digits-pass desc (suc (suc (suc (suc (suc (suc (suc (suc zero)))))))) few root = (_, refl)
digits-pass desc (suc (suc (suc (suc (suc (suc (suc (suc (suc count))))))))) few root = absurd (omega (arith, few))

cores-pass : (desc : Desc) (count : ℕ) → count ≤ 8 → (root : Open)
    → (inner : Open) × (passes (empty ∷ root ∷ bottom ∷ []) (map property_token cpus_properties ++ flat_map (cpu_tokens desc) (range_with_len 0 count)) ≡ Some (inner ∷ root ∷ bottom ∷ []))
cores-pass desc count few root =
    let inner = digits-pass desc count few root in
    (inner.0, ap (λ (tokens : List Token). passes (empty ∷ root ∷ bottom ∷ []) (map property_token cpus_properties ++ tokens)) (digits-are desc 0 count (omega (arith, few))) ∙ inner.1)

-- ---- handles

or-comm : (a b : Bool) → (a || b) ≡ (b || a)
or-comm true true = refl
or-comm true false = refl
or-comm false true = refl
or-comm false false = refl

or-assoc : (a b c : Bool) → (a || (b || c)) ≡ ((a || b) || c)
or-assoc true b c = refl
or-assoc false b c = refl

has-push : (names : List (List ℕ)) (new name : List ℕ) → has (names ++ new ∷ []) name ≡ has (new ∷ names) name
has-push [] new name = refl
has-push (first ∷ names) new name =
    ap (λ b. bytes_eq first name || b) (has-push names new name)
    ∙ or-assoc (bytes_eq first name) (bytes_eq new name) (has names name)
    ∙ ap (λ b. b || has names name) (or-comm (bytes_eq first name) (bytes_eq new name))
    ∙ sym (or-assoc (bytes_eq new name) (bytes_eq first name) (has names name))

is-not : (b : Bool) → not b ≡ true → b ≡ false
is-not false e = refl
is-not true e = absurd cc

abbrev among : List (List ℕ) → Open
among names = record { properties = []; children = names }

-- those whose names are apart pass behind others
handles-pass : (number next : ℕ) (handles : List HandleDef) (earlier children : List (List ℕ)) (outer : List Open) → is_some_open outer ≡ true → ltb (length outer) 32 ≡ true
    → SameNames earlier children → are_apart earlier (handle_names handles) ≡ true
    → (after : Open) × (passes (among children ∷ outer) (handle_tokens number next handles) ≡ Some (after ∷ outer))
handles-pass number next [] earlier children outer inside shallow same apart = (among children, refl)
handles-pass number next (handle ∷ handles) earlier children outer inside shallow same apart =
    let all = and_parts _ _ apart in
    let first = and_parts _ _ all.0 in
    let new : has children handle.name ≡ false = sym (same handle.name) ∙ is-not (has earlier handle.name) first.1 in
    let properties = handle-passes number next handle (among (handle.name ∷ children)) outer in
    let here = leaf-passes (among children) outer handle.name (handle_properties number next handle) properties.0 first.0 inside shallow new properties.1 in
    let others = handles-pass (number + 1) (next + interrupts_of handle.kind) handles (earlier ++ handle.name ∷ []) (handle.name ∷ children) outer inside shallow
    (λ name. has-push earlier handle.name name ∙ ap (λ b. bytes_eq handle.name name || b) (same name)) all.1 in (
      others.0,
      passes-append (among children ∷ outer) (among (handle.name ∷ children) ∷ outer) (others.0 ∷ outer) (node handle.name (handle_properties number next handle) [])
          (handle_tokens (number + 1) (next + interrupts_of handle.kind) handles) here others.1,
    )

-- ---- the root's children

abbrev Goes : Open → List Token → List ℕ → Type 0
Goes root tokens name = passes (root ∷ bottom ∷ []) tokens ≡ Some (with_child root name ∷ bottom ∷ [])

cpus-go : (root : Open) (desc : Desc) → length desc.cores ≤ 8 → has root.children (codes "cpus") ≡ false → Goes root (cpus_tokens desc) (codes "cpus")
unfolding cpus_tokens is_name_of
cpus-go root desc few new =
    let cores = cores-pass desc (length desc.cores) few (with_child root (codes "cpus")) in
    node-passes root (bottom ∷ []) (codes "cpus") cpus_properties cores.0 (flat_map (cpu_tokens desc) (range_with_len 0 (length desc.cores))) refl refl refl new cores.1

leaf-goes : (root : Open) (name : List ℕ) (properties : List Property) → is_node_name name ≡ true → Pass properties → has root.children name ≡ false → Goes root (node name properties []) name
leaf-goes root name properties legal pass new =
    let inner = pass (with_child root name) (bottom ∷ []) in
    leaf-passes root (bottom ∷ []) name properties inner.0 legal refl refl new inner.1

hypervisor-goes : (root : Open) (part : PartDef) → are_apart [] (handle_names part.handles) ≡ true → has root.children (codes "hypervisor") ≡ false → Goes root (hypervisor_tokens part) (codes "hypervisor")
unfolding hypervisor_tokens is_name_of hypervisor-passes
hypervisor-goes root part apart new =
    let outer = with_child root (codes "hypervisor") ∷ bottom ∷ [] in
    let properties = hypervisor-passes (with_child root (codes "hypervisor")) (bottom ∷ []) in
    let here = with_child properties.0 (codes "handles") in
    let handles = handles-pass 1 0 part.handles [] [] (here ∷ outer) refl refl (λ name. refl) apart in
    let none : has properties.0.children (codes "handles") ≡ false = refl in
    let inner = node-passes properties.0 outer (codes "handles") [] handles.0 (handle_tokens 1 0 part.handles) refl refl refl none handles.1 in
    let all = passes-append (empty ∷ outer) (properties.0 ∷ outer) (here ∷ outer) (map property_token hypervisor_properties) (node (codes "handles") [] (handle_tokens 1 0 part.handles)) properties.1 inner in
    node-passes root (bottom ∷ []) (codes "hypervisor") hypervisor_properties here (node (codes "handles") [] (handle_tokens 1 0 part.handles)) refl refl refl new all

legal-names : (is_node_name (codes "memory") ≡ true) × (is_node_name (codes "pic") ≡ true) × (is_node_name (codes "chosen") ≡ true)
unfolding is_name_of
legal-names = (refl, refl, refl)

-- ---- the whole

-- the tokens behind the root's beginning
abbrev pub rest : Config → PartDef → List Token
rest config part =
    (map property_token (root_properties part)
    ++ ((cpus_tokens (desc_of config part) ++ (memory_tokens config part ++ (pic_tokens ++ (hypervisor_tokens part ++ chosen_tokens part)))) ++ EndNode ∷ []))
    ++ Finish ∷ []

rest-passes : (config : Config) (part : PartDef) → length (desc_of config part).cores ≤ 8 → are_apart [] (handle_names part.handles) ≡ true
    → (after : List Open) × (passes (empty ∷ bottom ∷ []) (rest config part) ≡ Some after)
unfolding root-passes
rest-passes config part few apart =
    let properties = root-passes part bottom [] in
    let r0 = properties.0 in
    let r1 = with_child r0 (codes "cpus") in
    let r2 = with_child r1 (codes "memory") in
    let r3 = with_child r2 (codes "pic") in
    let r4 = with_child r3 (codes "hypervisor") in
    let r5 = with_child r4 (codes "chosen") in
    let chosen = leaf-goes r4 (codes "chosen") (chosen_properties part) legal-names.2 (chosen-passes part) refl in
    let hypervisor = hypervisor-goes r3 part apart refl in
    let pic = leaf-goes r2 (codes "pic") pic_properties legal-names.1 pic-passes refl in
    let memory = leaf-goes r1 (codes "memory") (memory_properties config part) legal-names.0 (memory-passes config part) refl in
    let cpus = cpus-go r0 (desc_of config part) few refl in
    let a = passes-append (r3 ∷ bottom ∷ []) (r4 ∷ bottom ∷ []) (r5 ∷ bottom ∷ []) (hypervisor_tokens part) (chosen_tokens part) hypervisor chosen in
    let b = passes-append (r2 ∷ bottom ∷ []) (r3 ∷ bottom ∷ []) (r5 ∷ bottom ∷ []) pic_tokens (hypervisor_tokens part ++ chosen_tokens part) pic a in
    let c = passes-append (r1 ∷ bottom ∷ []) (r2 ∷ bottom ∷ []) (r5 ∷ bottom ∷ []) (memory_tokens config part) (pic_tokens ++ (hypervisor_tokens part ++ chosen_tokens part)) memory b in
    let children = memory_tokens config part ++ (pic_tokens ++ (hypervisor_tokens part ++ chosen_tokens part)) in
    let d = passes-append (r0 ∷ bottom ∷ []) (r1 ∷ bottom ∷ []) (r5 ∷ bottom ∷ []) (cpus_tokens (desc_of config part)) children cpus c in
    let inside = cpus_tokens (desc_of config part) ++ children in
    let ended = passes-append (r0 ∷ bottom ∷ []) (r5 ∷ bottom ∷ []) (bottom ∷ []) inside (EndNode ∷ []) d refl in
    let whole = passes-append (empty ∷ bottom ∷ []) (r0 ∷ bottom ∷ []) (bottom ∷ []) (map property_token (root_properties part)) (inside ++ EndNode ∷ []) properties.1 ended in
    (bottom ∷ [], passes-append (empty ∷ bottom ∷ []) (bottom ∷ []) (bottom ∷ []) (map property_token (root_properties part) ++ (inside ++ EndNode ∷ [])) (Finish ∷ []) whole refl)

root-begins : broken_by_begin [] [] ≡ None
unfolding broken_by_begin
root-begins = refl

tokens-are : (config : Config) (part : PartDef) → guest_tokens config part ≡ BeginNode [] ∷ rest config part
unfolding guest_tokens children_tokens
tokens-are config part = refl

pub guest-fits : (config : Config) (part : PartDef) → length (desc_of config part).cores ≤ 8 → are_apart [] (handle_names part.handles) ≡ true → length (guest_tokens config part) ≤ 65535
    → first_broken [] (guest_tokens config part) ≡ None
guest-fits config part few apart short =
    let all = rest-passes config part few apart in
    let is = tokens-are config part in
    let bound = ap length is in
    rw (is, root-begins) (passing (rest config part) (empty ∷ bottom ∷ []) (BeginNode [] ∷ []) all.0 root-holds (omega arith) (omega (arith, bound, short)) all.1)
