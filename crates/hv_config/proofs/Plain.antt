-- What a tree that fits and breaks no rule says is plain.
use Rattle.std.proofs.Common.{◌≡◌, ℕ, ◌*◌, ◌/◌, Bool, true, false, ◌||◌, not, cond, ltb, List, [], ◌∷◌, ◌++◌, map, length, drop, Option, Some, None, refl, sym, ap, subst, ◌∙◌, arith}
use Rattle.std.specs.Prelude.{find, codes, is_some, is_none, unwrap_or, option_and_then}
use Rattle.std.specs.Option.{option_map, option_map_or, option_or}
use Rattle.std.specs.List.{list_all, list_any}
use Rattle.std.specs.Str.{bytes_eq}
use Rattle.std.proofs.lemmas.Bool.{and_parts, and_from}
use Rattle.std.proofs.lemmas.Slice.Eq.{bytes_eq-Decides}
use Rattle.std.proofs.lemmas.List.FromFn.{length-map-range_with_len}
use Rattle.byteorder.specs.Endian.{big_number}
use Rattle.dt_model.specs.declared.tree.Node.{Node}
use Rattle.dt_model.specs.declared.tree.Node.TheViews.{out-Node}
use Rattle.dt_model.specs.declared.tree.Property.{Property}
use Rattle.dt_model.specs.declared.tree.Tree.{Tree}
use Rattle.dt_model.specs.Node.{name_of, value_of, properties_of, child_path}
use Rattle.dt_model.specs.Value.{is_text, text_in}
use Rattle.dt_model.specs.Kept.{are_apart, has_kept, KeepsNames}
use Rattle.hv_config.specs.declared.form.Form.TheVariants.{Cores, Text}
use Rattle.hv_config.specs.declared.role.Role.{Role}
use Rattle.hv_config.specs.declared.role.Role.TheVariants.{Root, Partitions, Partition, GuestAreas, GuestArea, Handles, Handle}
use Rattle.hv_config.specs.Role.{child_role, is_stranger}
use Rattle.hv_config.specs.Form.{form_of, has_form, cores_in}
use Rattle.hv_config.specs.Seat.{Seat, seats_of, seats_below, child_seat}
use Rattle.hv_config.specs.Rule.{first_broken, first_broken_among, first_breach, breach, is_incomplete, has_bad_value, is_bad_value}
use Rattle.hv_config.specs.Meaning.{is_named, children_of, list_in, config_in, config_of, area_def, channel_def, bell_def, part_def, guest_area_def, handle_def, text_at, text_or_none, cores_at}
use Rattle.hv_config.specs.Plain.{area_names, channel_names, bell_names, part_names, guest_names, handle_names, is_plain_channel, is_plain_guest, is_plain_handle, is_plain_part, IsPlain}
use Rattle.hv_config.proofs.Seats.{all_below, children_below}

-- ---- names

-- the law of trees that fit
abbrev pub NamesStay : Type 0
NamesStay = (node : Node) → has_kept node ≡ true → KeepsNames (out-Node node).children.items

found_keeps : {X : Type 0} (p q : X → Bool) (xs : List X) (x : X) → list_all p xs ≡ true → find q xs ≡ Some x → p x ≡ true
found_keeps p q [] x all e = absurd cc
found_keeps {X} p q (y ∷ ys) x all e =
    let both = and_parts (p y) (list_all p ys) all in
    elim (q y) as (λ b. cond b (Some y) (find q ys) ≡ Some x → p x ≡ true) [
      | true ↦ λ e. let same : y ≡ x = cc in subst (λ (z : X). p z ≡ true) same both.0
      | false ↦ λ e. found_keeps p q ys x both.1 e
    ] e

-- where all children of a node are kept, so are those of a list in it
list_keeps : NamesStay → (node : Node) (name : List ℕ) → has_kept node ≡ true → KeepsNames (list_in node name)
unfolding list_in
list_keeps law node name kept =
    let cases : (o : Option Node) → find (is_named name) (children_of node) ≡ o → KeepsNames (option_map_or children_of o []) =
    λ o. elim o as (λ o. find (is_named name) (children_of node) ≡ o → KeepsNames (option_map_or children_of o [])) [
      | None ↦ λ e. record { here = refl; below = refl }
      | Some child ↦ λ e. law child (found_keeps has_kept (is_named name) (children_of node) child (law node kept).below e)
    ] in
    cases (find (is_named name) (children_of node)) refl

names-areas : (nodes : List Node) → area_names (map area_def nodes) ≡ map name_of nodes
unfolding area_def
names-areas [] = refl
names-areas (node ∷ nodes) = ap (λ (names : List (List ℕ)). name_of node ∷ names) (names-areas nodes)

names-guests : (nodes : List Node) → guest_names (map guest_area_def nodes) ≡ map name_of nodes
unfolding guest_area_def
names-guests [] = refl
names-guests (node ∷ nodes) = ap (λ (names : List (List ℕ)). name_of node ∷ names) (names-guests nodes)

names-handles : (nodes : List Node) → handle_names (map handle_def nodes) ≡ map name_of nodes
unfolding handle_def
names-handles [] = refl
names-handles (node ∷ nodes) = ap (λ (names : List (List ℕ)). name_of node ∷ names) (names-handles nodes)

names-channels : (nodes : List Node) → channel_names (map channel_def nodes) ≡ map name_of nodes
unfolding channel_def
names-channels [] = refl
names-channels (node ∷ nodes) = ap (λ (names : List (List ℕ)). name_of node ∷ names) (names-channels nodes)

names-bells : (nodes : List Node) → bell_names (map bell_def nodes) ≡ map name_of nodes
unfolding bell_def
names-bells [] = refl
names-bells (node ∷ nodes) = ap (λ (names : List (List ℕ)). name_of node ∷ names) (names-bells nodes)

names-parts : (nodes : List Node) → part_names (map part_def nodes) ≡ map name_of nodes
unfolding part_def
names-parts [] = refl
names-parts (node ∷ nodes) = ap (λ (names : List (List ℕ)). name_of node ∷ names) (names-parts nodes)

-- ---- nodes that break no rule

find-here : {X : Type 0} (test : X → Bool) (x : X) (xs : List X) → find test (x ∷ xs) ≡ None → (test x ≡ false) × (find test xs ≡ None)
find-here {X} test x xs e =
    let cases : (b : Bool) → test x ≡ b → cond b (Some x) (find test xs) ≡ None → (test x ≡ false) × (find test xs ≡ None) =
    λ b. elim b as (λ b. test x ≡ b → cond b (Some x) (find test xs) ≡ None → (test x ≡ false) × (find test xs ≡ None))
    [ true ↦ λ t e. absurd cc | false ↦ λ t e. (t, e) ] in
    cases (test x) refl e

find-both : {X : Type 0} (test : X → Bool) (xs ys : List X) → find test (xs ++ ys) ≡ None → (find test xs ≡ None) × (find test ys ≡ None)
find-both test [] ys e = (refl, e)
find-both test (x ∷ xs) ys e =
    let first = find-here test x (xs ++ ys) e in
    let others = find-both test xs ys first.1 in
    (rw first.0 others.0, others.1)

-- no seat at the node or below it passes
record Clear (test : Seat → Bool) (role : Role) (before : List ℕ) (node : Node) : Type 0 where
  here : test (record { role = role; before = before; node = node }) ≡ false
  below : find test (seats_below node role before) ≡ None

abbrev AllClear : (Seat → Bool) → Role → List ℕ → List Node → Type 0
AllClear test role before [] = Unit {0}
AllClear test role before (child ∷ children) = Clear test (child_role role (name_of child)) (child_path before child) child × AllClear test role before children

all_clear : (test : Seat → Bool) (role : Role) (before : List ℕ) (nodes : List Node) → find test (all_below role before nodes) ≡ None → AllClear test role before nodes
all_clear test role before [] e = tt
all_clear test role before (child ∷ children) e =
    let r = child_role role (name_of child) in
    let path = child_path before child in
    let both = find-both test (child_seat role before child ∷ seats_below child r path) (all_below role before children) e in
    let first = find-here test (child_seat role before child) (seats_below child r path) both.0 in
    (record { here = first.0; below = first.1 }, all_clear test role before children both.1)

found_clear : (test : Seat → Bool) (role : Role) (before : List ℕ) (name : List ℕ) (nodes : List Node) (child : Node) → AllClear test role before nodes → find (is_named name) nodes ≡ Some child
    → Clear test (child_role role (name_of child)) (child_path before child) child
found_clear test role before name [] child all e = absurd cc
found_clear test role before name (node ∷ nodes) child all e =
    elim (is_named name node) as (λ b. cond b (Some node) (find (is_named name) nodes) ≡ Some child → Clear test (child_role role (name_of child)) (child_path before child) child) [
      | true ↦ λ e. let same : node ≡ child = cc in subst (λ (z : Node). Clear test (child_role role (name_of z)) (child_path before z) z) same all.0
      | false ↦ λ e. found_clear test role before name nodes child all.1 e
    ] e

-- ---- values

or-false : (a b : Bool) → (a || b) ≡ false → (a ≡ false) × (b ≡ false)
or-false true b e = absurd cc
or-false false b e = (refl, e)

not-true : (b : Bool) → not b ≡ false → b ≡ true
not-true true e = refl
not-true false e = absurd cc

there : {X : Type 0} (o : Option X) → is_none o ≡ false → (x : X) × (o ≡ Some x)
there None e = absurd cc
there (Some x) e = (x, refl)

some-is : {X : Type 0} (o : Option X) → is_some o ≡ true → (x : X) × (o ≡ Some x)
some-is None e = absurd cc
some-is (Some x) e = (x, refl)

good_value : (role : Role) (name value : List ℕ) (ps : List Property) → list_any (λ property. is_bad_value role property.name property.value) ps ≡ false
    → option_map (λ property. property.value) (find (λ property. bytes_eq property.name name) ps) ≡ Some value → is_bad_value role name value ≡ false
good_value role name value [] good e = absurd cc
good_value role name value (p ∷ ps) good e =
    let both = or-false (is_bad_value role p.name p.value) (list_any (λ (q : Property). is_bad_value role q.name q.value) ps) good in
    let cases : (b : Bool) → bytes_eq p.name name ≡ b → option_map (λ (q : Property). q.value) (cond b (Some p) (find (λ (q : Property). bytes_eq q.name name) ps)) ≡ Some value → is_bad_value role name value ≡ false =
    λ b. elim b as (λ b. bytes_eq p.name name ≡ b → option_map (λ (q : Property). q.value) (cond b (Some p) (find (λ (q : Property). bytes_eq q.name name) ps)) ≡ Some value → is_bad_value role name value ≡ false) [
      | true ↦ λ t e.
          let name_is : p.name ≡ name = (bytes_eq-Decides p.name name).0 t in
          let value_is : p.value ≡ value = cc in
          subst (λ (n : List ℕ). is_bad_value role n value ≡ false) name_is (subst (λ (v : List ℕ). is_bad_value role p.name v ≡ false) value_is both.0)
      | false ↦ λ t e. good_value role name value ps both.1 e
    ] in
    cases (bytes_eq p.name name) refl e

text_in-text : (value text : List ℕ) → text_in value ≡ Some text → is_text text ≡ true
unfolding text_in
text_in-text value text e = grind arith

cores_there : (value : List ℕ) → has_form Cores value ≡ true → ltb 0 (length (cores_in value)) ≡ true
unfolding has_form cores_in
cores_there value e = rw (length-map-range_with_len (λ k. big_number 4 (drop (k * 4) value)) 0 (length value / 4)) (grind arith)

text_there : (value : List ℕ) → has_form Text value ≡ true → (text : List ℕ) × (text_in value ≡ Some text)
unfolding has_form
text_there value e = some-is (text_in value) e

-- a text that has to be there, in a node whose values are good
text_here : (role : Role) (node : Node) (name : List ℕ) → form_of role name ≡ Some Text → is_none (value_of node name) ≡ false
    → list_any (λ property. is_bad_value role property.name property.value) (properties_of node) ≡ false → is_text (text_or_none node name) ≡ true
text_here role node name form some good =
    let value = there (value_of node name) some in
    let good_here = good_value role name value.0 (properties_of node) good value.1 in
    let has : has_form Text value.0 ≡ true = not-true _ (ap (λ o. option_map_or (λ f. not (has_form f value.0)) o false) (sym form) ∙ good_here) in
    let text = text_there value.0 has in
    ap (λ (o : Option (List ℕ)). is_text (unwrap_or (option_and_then text_in o) [])) value.1 ∙ ap (λ (o : Option (List ℕ)). is_text (unwrap_or o [])) text.1
    ∙ text_in-text value.0 text.0 text.1

-- a text that may be absent
text_if_any : (node : Node) (name : List ℕ) → option_map_or is_text (text_at node name) true ≡ true
text_if_any node name =
    let cases : (o : Option (List ℕ)) → option_map_or is_text (option_and_then text_in o) true ≡ true =
    λ o. elim o as (λ o. option_map_or is_text (option_and_then text_in o) true ≡ true) [
      | None ↦ refl
      | Some value ↦
          let inner : (t : Option (List ℕ)) → text_in value ≡ t → option_map_or is_text t true ≡ true =
          λ t. elim t as (λ t. text_in value ≡ t → option_map_or is_text t true ≡ true)
          [ None ↦ λ e. refl | Some text ↦ λ e. text_in-text value text e ] in
          inner (text_in value) refl
    ] in
    cases (value_of node name)

channels_plain : (nodes : List Node) → list_all is_plain_channel (map channel_def nodes) ≡ true
unfolding channel_def
channels_plain [] = refl
channels_plain (node ∷ nodes) = and_from _ _ (text_if_any node (codes "console")) (channels_plain nodes)

plain_guest : (before : List ℕ) (node : Node) → is_incomplete (record { role = GuestArea; before = before; node = node }) ≡ false
    → has_bad_value (record { role = GuestArea; before = before; node = node }) ≡ false → is_plain_guest (guest_area_def node) ≡ true
unfolding guest_area_def form_of
plain_guest before node whole good =
    let lack = or-false _ _ whole in
    text_here GuestArea node (codes "area") refl lack.0 good

guests_plain : (before : List ℕ) (nodes : List Node) → AllClear is_incomplete GuestAreas before nodes → AllClear has_bad_value GuestAreas before nodes
    → list_all is_plain_guest (map guest_area_def nodes) ≡ true
guests_plain before [] whole good = refl
guests_plain before (node ∷ nodes) whole good =
    and_from (is_plain_guest (guest_area_def node)) (list_all is_plain_guest (map guest_area_def nodes))
    (plain_guest (child_path before node) node whole.0.here good.0.here) (guests_plain before nodes whole.1 good.1)

plain_handle : (before : List ℕ) (node : Node) → is_incomplete (record { role = Handle; before = before; node = node }) ≡ false
    → has_bad_value (record { role = Handle; before = before; node = node }) ≡ false → is_plain_handle (handle_def node) ≡ true
unfolding handle_def form_of
plain_handle before node whole good =
    let lack = or-false _ _ whole in
    text_here Handle node (codes "target") refl lack.1 good

handles_plain : (before : List ℕ) (nodes : List Node) → AllClear is_incomplete Handles before nodes → AllClear has_bad_value Handles before nodes
    → list_all is_plain_handle (map handle_def nodes) ≡ true
handles_plain before [] whole good = refl
handles_plain before (node ∷ nodes) whole good =
    and_from (is_plain_handle (handle_def node)) (list_all is_plain_handle (map handle_def nodes))
    (plain_handle (child_path before node) node whole.0.here good.0.here) (handles_plain before nodes whole.1 good.1)

found_passes : {X : Type 0} (q : X → Bool) (xs : List X) (x : X) → find q xs ≡ Some x → q x ≡ true
found_passes q [] x e = absurd cc
found_passes {X} q (y ∷ ys) x e =
    let cases : (b : Bool) → q y ≡ b → cond b (Some y) (find q ys) ≡ Some x → q x ≡ true =
    λ b. elim b as (λ b. q y ≡ b → cond b (Some y) (find q ys) ≡ Some x → q x ≡ true)
    [ true ↦ λ t e. let same : y ≡ x = cc in subst (λ (z : X). q z ≡ true) same t | false ↦ λ t e. found_passes q ys x e ] in
    cases (q y) refl e

-- ---- lists below a node

-- the children of a list are clear where all below the node is
list_clear : (test : Seat → Bool) (role list : Role) (before : List ℕ) (name : List ℕ) (node child : Node) → child_role role name ≡ list
    → ((n : Node) (b : List ℕ) → find test (seats_below n list b) ≡ None → find test (all_below list b (children_of n)) ≡ None)
    → AllClear test role before (children_of node) → find (is_named name) (children_of node) ≡ Some child
    → AllClear test list (child_path before child) (children_of child)
list_clear test role list before name node child is enter clear found =
    let here = found_clear test role before name (children_of node) child clear found in
    let named : name_of child ≡ name = (bytes_eq-Decides (name_of child) name).0 (found_passes (is_named name) (children_of node) child found) in
    let list_is : child_role role (name_of child) ≡ list = ap (child_role role) named ∙ is in
    let below : find test (seats_below child list (child_path before child)) ≡ None =
    ap (λ (r : Role). find test (seats_below child r (child_path before child))) (sym list_is) ∙ here.below in
    all_clear test list (child_path before child) (children_of child) (enter child (child_path before child) below)

opened : (test : Seat → Bool) (role : Role) (node : Node) (before : List ℕ) → is_stranger role ≡ false → find test (seats_below node role before) ≡ None
    → AllClear test role before (children_of node)
opened test role node before known e = all_clear test role before (children_of node) (ap (find test) (sym (children_below node role before known)) ∙ e)

guests_in : (before : List ℕ) (node : Node) → find is_incomplete (seats_below node Partition before) ≡ None → find has_bad_value (seats_below node Partition before) ≡ None
    → list_all is_plain_guest (map guest_area_def (list_in node (codes "areas"))) ≡ true
unfolding list_in
guests_in before node whole good =
    let cases : (o : Option Node) → find (is_named (codes "areas")) (children_of node) ≡ o → list_all is_plain_guest (map guest_area_def (option_map_or children_of o [])) ≡ true =
    λ o. elim o as (λ o. find (is_named (codes "areas")) (children_of node) ≡ o → list_all is_plain_guest (map guest_area_def (option_map_or children_of o [])) ≡ true) [
      | None ↦ λ e. refl
      | Some child ↦ λ e. guests_plain (child_path before child) (children_of child)
          (list_clear is_incomplete Partition GuestAreas before (codes "areas") node child refl (λ n b f. ap (find is_incomplete) (sym (children_below n GuestAreas b refl)) ∙ f) (opened is_incomplete Partition node before refl whole) e)
          (list_clear has_bad_value Partition GuestAreas before (codes "areas") node child refl (λ n b f. ap (find has_bad_value) (sym (children_below n GuestAreas b refl)) ∙ f) (opened has_bad_value Partition node before refl good) e)
    ] in
    cases (find (is_named (codes "areas")) (children_of node)) refl

handles_in : (before : List ℕ) (node : Node) → find is_incomplete (seats_below node Partition before) ≡ None → find has_bad_value (seats_below node Partition before) ≡ None
    → list_all is_plain_handle (map handle_def (list_in node (codes "handles"))) ≡ true
unfolding list_in
handles_in before node whole good =
    let cases : (o : Option Node) → find (is_named (codes "handles")) (children_of node) ≡ o → list_all is_plain_handle (map handle_def (option_map_or children_of o [])) ≡ true =
    λ o. elim o as (λ o. find (is_named (codes "handles")) (children_of node) ≡ o → list_all is_plain_handle (map handle_def (option_map_or children_of o [])) ≡ true) [
      | None ↦ λ e. refl
      | Some child ↦ λ e. handles_plain (child_path before child) (children_of child)
          (list_clear is_incomplete Partition Handles before (codes "handles") node child refl (λ n b f. ap (find is_incomplete) (sym (children_below n Handles b refl)) ∙ f) (opened is_incomplete Partition node before refl whole) e)
          (list_clear has_bad_value Partition Handles before (codes "handles") node child refl (λ n b f. ap (find has_bad_value) (sym (children_below n Handles b refl)) ∙ f) (opened has_bad_value Partition node before refl good) e)
    ] in
    cases (find (is_named (codes "handles")) (children_of node)) refl

-- ---- a partition

plain_part : NamesStay → (before : List ℕ) (node : Node) → has_kept node ≡ true → Clear is_incomplete Partition before node → Clear has_bad_value Partition before node
    → is_plain_part (part_def node) ≡ true
unfolding part_def form_of
plain_part law before node kept whole good =
    let lack_e = or-false _ _ whole.here in
    let lack_d = or-false _ _ lack_e.0 in
    let lack_c = or-false _ _ lack_d.0 in
    let lack_b = or-false _ _ lack_c.0 in
    let cpus = there (value_of node (codes "cpus")) lack_b.0 in
    let cpus_good : has_form Cores cpus.0 ≡ true = not-true _ (good_value Partition (codes "cpus") cpus.0 (properties_of node) good.here cpus.1) in
    let cores : ltb 0 (length (cores_at node (codes "cpus"))) ≡ true = ap (λ (o : Option (List ℕ)). ltb 0 (length (option_map_or cores_in o []))) cpus.1 ∙ cores_there cpus.0 cpus_good in
    let image = text_here Partition node (codes "image") refl lack_b.1 good.here in
    let bootargs = text_if_any node (codes "bootargs") in
    let guest_names : are_apart [] (guest_names (map guest_area_def (list_in node (codes "areas")))) ≡ true = ap (are_apart []) (names-guests (list_in node (codes "areas"))) ∙ (list_keeps law node (codes "areas") kept).here in
    let guests = guests_in before node whole.below good.below in
    let handle_names : are_apart [] (handle_names (map handle_def (list_in node (codes "handles")))) ≡ true = ap (are_apart []) (names-handles (list_in node (codes "handles"))) ∙ (list_keeps law node (codes "handles") kept).here in
    let handles = handles_in before node whole.below good.below in
    and_from _ _ (and_from _ _ (and_from _ _ (and_from _ _ (and_from _ _ (and_from _ _ cores image) bootargs) guest_names) guests) handle_names) handles

parts_plain : NamesStay → (before : List ℕ) (nodes : List Node) → list_all has_kept nodes ≡ true → AllClear is_incomplete Partitions before nodes → AllClear has_bad_value Partitions before nodes
    → list_all is_plain_part (map part_def nodes) ≡ true
parts_plain law before [] kept whole good = refl
parts_plain law before (node ∷ nodes) kept whole good =
    let both = and_parts (has_kept node) (list_all has_kept nodes) kept in
    and_from (is_plain_part (part_def node)) (list_all is_plain_part (map part_def nodes))
    (plain_part law (child_path before node) node both.0 whole.0 good.0) (parts_plain law before nodes both.1 whole.1 good.1)

-- ---- the whole tree

breach-none : (number : ℕ) (test : Seat → Bool) (seats : List Seat) → first_breach number test seats ≡ None → find test seats ≡ None
breach-none number test seats e =
    elim (find test seats) as (λ o. option_map (breach number) o ≡ None → o ≡ None) [ None ↦ λ e. refl | Some seat ↦ λ e. absurd cc ] e

option_or-none : {X : Type 0} (a b : Option X) → option_or a b ≡ None → (a ≡ None) × (b ≡ None)
option_or-none None b e = (refl, e)
option_or-none (Some x) b e = absurd cc

root_clear : (test : Seat → Bool) (tree : Tree) → find test (seats_of tree) ≡ None → AllClear test Root [] (children_of tree.root)
root_clear test tree e =
    let below = (find-here test _ _ e).1 in
    all_clear test Root [] (children_of tree.root) (ap (find test) (sym (children_below tree.root Root [] refl)) ∙ below)

partitions_plain : NamesStay → (tree : Tree) → has_kept tree.root ≡ true → find is_incomplete (seats_of tree) ≡ None → find has_bad_value (seats_of tree) ≡ None
    → list_all is_plain_part (map part_def (list_in tree.root (codes "partitions"))) ≡ true
unfolding list_in
partitions_plain law tree kept whole good =
    let cases : (o : Option Node) → find (is_named (codes "partitions")) (children_of tree.root) ≡ o → list_all is_plain_part (map part_def (option_map_or children_of o [])) ≡ true =
    λ o. elim o as (λ o. find (is_named (codes "partitions")) (children_of tree.root) ≡ o → list_all is_plain_part (map part_def (option_map_or children_of o [])) ≡ true) [
      | None ↦ λ e. refl
      | Some child ↦ λ e. parts_plain law (child_path [] child) (children_of child)
          (law child (found_keeps has_kept (is_named (codes "partitions")) (children_of tree.root) child (law tree.root kept).below e)).below
          (list_clear is_incomplete Root Partitions [] (codes "partitions") tree.root child refl (λ n b f. ap (find is_incomplete) (sym (children_below n Partitions b refl)) ∙ f) (root_clear is_incomplete tree whole) e)
          (list_clear has_bad_value Root Partitions [] (codes "partitions") tree.root child refl (λ n b f. ap (find has_bad_value) (sym (children_below n Partitions b refl)) ∙ f) (root_clear has_bad_value tree good) e)
    ] in
    cases (find (is_named (codes "partitions")) (children_of tree.root)) refl

pub config_plain : NamesStay → (tree : Tree) → has_kept tree.root ≡ true → first_broken tree ≡ None → IsPlain (config_of tree)
unfolding first_broken_among config_in
config_plain law tree kept e =
    let two = option_or-none _ _ e in
    let three = option_or-none _ _ two.1 in
    let four = option_or-none _ _ three.1 in
    let whole = breach-none 3 is_incomplete (seats_of tree) four.0 in
    let good = breach-none 4 has_bad_value (seats_of tree) four.1 in
    record {
      areas = ap (are_apart []) (names-areas (list_in tree.root (codes "areas"))) ∙ (list_keeps law tree.root (codes "areas") kept).here;
      channels = ap (are_apart []) (names-channels (list_in tree.root (codes "channels"))) ∙ (list_keeps law tree.root (codes "channels") kept).here;
      consoles = channels_plain (list_in tree.root (codes "channels"));
      bells = ap (are_apart []) (names-bells (list_in tree.root (codes "doorbells"))) ∙ (list_keeps law tree.root (codes "doorbells") kept).here;
      parts = ap (are_apart []) (names-parts (list_in tree.root (codes "partitions"))) ∙ (list_keeps law tree.root (codes "partitions") kept).here;
      plain_parts = partitions_plain law tree kept whole good;
    }
