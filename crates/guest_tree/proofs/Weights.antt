-- The tokens of a guest tree are few and small.
use Rattle.std.proofs.Common.{◌≡◌, ℕ, zero, suc, ◌+◌, ◌*◌, ◌<◌, ◌≤◌, true, ◌&&◌, List, [], ◌∷◌, ◌++◌, map, length, Option, Some, None, refl, ap, ◌∙◌, subst, cond, not, false, arith, length-append}
use Rattle.std.specs.Prelude.{codes, find, nat_le, ◌==◌}
use Rattle.std.specs.List.{flat_map, range_with_len, list_all}
use Rattle.std.specs.Option.{option_map_or}
use Rattle.std.proofs.lemmas.Bool.{and_parts, leb-true}
use Rattle.std.proofs.lemmas.List.{map-append}
use Rattle.std.proofs.lemmas.Fmt.{length-decimal-le_succ}
use Rattle.hv_config.specs.declared.form.Kind.{Kind}
use Rattle.hv_config.specs.declared.form.Kind.TheVariants.{Channel, Send, Receive, Manage}
use Rattle.hv_config.specs.declared.config.GuestAreaDef.{GuestAreaDef}
use Rattle.hv_config.specs.declared.config.HandleDef.{HandleDef}
use Rattle.hv_config.specs.declared.config.PartDef.{PartDef}
use Rattle.hv_config.specs.declared.config.Config.{Config}
use Rattle.hv_config.specs.Plain.{handle_names, is_plain_handle}
use Rattle.machine_desc.specs.declared.desc.Desc.{Desc}
use Rattle.dt_model.specs.declared.tree.Property.{Property}
use Rattle.dt_model.specs.Name.{is_name_of, is_node_name, has}
use Rattle.dt_model.specs.Kept.{are_apart}
use Rattle.dt_model.specs.Value.{is_text}
use Rattle.dt_model.specs.Token.{Token, EndNode, Finish}
use Rattle.dt_model.specs.Node.{property_token}
use Rattle.config_descs.specs.Desc.{interrupts_of, desc_of}
use Rattle.guest_tree.specs.Properties.{root_properties, cpus_properties, cpu_name, start_properties, spin_properties, cpu_properties, range_of, hypervisor_properties, kind_properties, handle_properties, handle_path, bootargs_properties, stdout_properties, is_channel, chosen_properties}
use Rattle.dt_make.specs.Nodes.{node}
use Rattle.guest_tree.specs.Tokens.{cpu_tokens, cpus_tokens, memory_tokens, pic_tokens, handle_tokens, hypervisor_tokens, chosen_tokens, children_tokens, guest_tokens}
use Rattle.guest_tree.proofs.Sizes.{weights, weights-append}

abbrev property_weights : List Property → ℕ
property_weights properties = weights (map property_token properties)

node-weights : (name : List ℕ) (properties : List Property) (children : List Token)
    → weights (node name properties children) ≡ length name + property_weights properties + weights children + 12
node-weights name properties children =
    omega (arith, weights-append (map property_token properties) (children ++ EndNode ∷ []), weights-append children (EndNode ∷ []))

length-text : (bytes : List ℕ) → length (bytes ++ 0 ∷ []) ≡ length bytes + 1
length-text bytes = length-append bytes (0 ∷ [])

-- ---- names and texts are short

pub short-name : (name : List ℕ) → is_node_name name ≡ true → length name ≤ 255
unfolding is_name_of
short-name name e =
    let a = and_parts _ _ e in
    let b = and_parts _ _ a.0 in
    let c = and_parts (nat_le 1 (length name)) (nat_le (length name) 255) b.0 in
    leb-true (length name) 255 c.1

short-text : (text : List ℕ) → is_text text ≡ true → length text ≤ 255
short-text text e =
    let a = and_parts _ _ e in
    let b = and_parts (nat_le 1 (length text)) (nat_le (length text) 255) a.0 in
    leb-true (length text) 255 b.1

-- ---- the nodes without children

root-weights : (part : PartDef) → length part.name ≤ 255 → property_weights (root_properties part) ≤ 500
root-weights part short = omega (arith, length-text part.name, short)

pic-weights : weights pic_tokens ≤ 300
pic-weights = omega arith

hypervisor-weights : property_weights hypervisor_properties ≤ 300
hypervisor-weights = omega arith

length-ranges : (config : Config) (guests : List GuestAreaDef) → length (flat_map (range_of config) guests) ≡ 16 * length guests
length-ranges config [] = refl
length-ranges config (guest ∷ guests) = omega (arith, length-append (range_of config guest) (flat_map (range_of config) guests), length-ranges config guests)

memory-weights : (config : Config) (part : PartDef) → length part.areas ≤ 16 → weights (memory_tokens config part) ≤ 500
memory-weights config part few = omega (arith, length-ranges config part.areas, few)

-- ---- cores

core-weights : (desc : Desc) (core : ℕ) → core < 8 → weights (cpu_tokens desc core) ≤ 500
unfolding cpu_properties
core-weights desc core few =
    let digits = length-decimal-le_succ core (omega (arith, few)) in
    let okay = start_properties (codes "okay") core in
    let spins = start_properties (codes "disabled") core ++ spin_properties desc core in
    elim (core == 0) as (λ b. weights (node (cpu_name core) (cond b okay spins) []) ≤ 500) [ true ↦ omega (arith, few, digits) | false ↦ omega (arith, few, digits) ]

cores-weights : (desc : Desc) (first count : ℕ) → first + count ≤ 8 → weights (flat_map (cpu_tokens desc) (range_with_len first count)) ≤ 500 * count
cores-weights desc first zero few = omega arith
cores-weights desc first (suc count) few =
    omega (arith, few, weights-append (cpu_tokens desc first) (flat_map (cpu_tokens desc) (range_with_len (first + 1) count)), core-weights desc first (omega (arith, few)), cores-weights desc (first + 1) count (omega (arith, few)))

cpus-weights : (desc : Desc) → length desc.cores ≤ 8 → weights (cpus_tokens desc) ≤ 4200
unfolding cpus_tokens
cpus-weights desc few =
    omega (arith, few, node-weights (codes "cpus") cpus_properties (flat_map (cpu_tokens desc) (range_with_len 0 (length desc.cores))), cores-weights desc 0 (length desc.cores) (omega (arith, few)))

-- ---- handles

kind-weights : (number next : ℕ) (kind : Kind) (target : List ℕ) → length target ≤ 255 → property_weights (kind_properties number next kind target) ≤ 400
kind-weights number next Channel target short = omega arith
kind-weights number next Send target short = omega arith
kind-weights number next Receive target short = omega arith
kind-weights number next Manage target short = omega (arith, short, length-text target)

handle-weights : (number next : ℕ) (handle : HandleDef) → length handle.target ≤ 255 → property_weights (handle_properties number next handle) ≤ 400
unfolding handle_properties
handle-weights number next handle short = kind-weights number next handle.kind handle.target short

handles-weights : (number next : ℕ) (handles : List HandleDef) (earlier : List (List ℕ)) → are_apart earlier (handle_names handles) ≡ true → list_all is_plain_handle handles ≡ true
    → weights (handle_tokens number next handles) ≤ 700 * length handles
handles-weights number next [] earlier apart plain = omega arith
handles-weights number next (handle ∷ handles) earlier apart plain =
    let all = and_parts _ _ apart in
    let name = short-name handle.name (and_parts _ _ all.0).0 in
    let both = and_parts (is_plain_handle handle) (list_all is_plain_handle handles) plain in
    let target = short-text handle.target both.0 in
    let properties = handle_properties number next handle in
    omega (
      arith,
      name,
      weights-append (node handle.name properties []) (handle_tokens (number + 1) (next + interrupts_of handle.kind) handles),
      node-weights handle.name properties [],
      handle-weights number next handle target,
      handles-weights (number + 1) (next + interrupts_of handle.kind) handles (earlier ++ handle.name ∷ []) all.1 both.1,
    )

hypervisors-weights : (part : PartDef) → length part.handles ≤ 64 → are_apart [] (handle_names part.handles) ≡ true → list_all is_plain_handle part.handles ≡ true → weights (hypervisor_tokens part) ≤ 45300
unfolding hypervisor_tokens
hypervisors-weights part few apart plain =
    let handles = handle_tokens 1 0 part.handles in
    omega (arith, few, node-weights (codes "hypervisor") hypervisor_properties (node (codes "handles") [] handles), node-weights (codes "handles") [] handles, hypervisor-weights, handles-weights 1 0 part.handles [] apart plain)

-- ---- what is chosen

first-name : (handles : List HandleDef) (earlier : List (List ℕ)) (handle : HandleDef) → are_apart earlier (handle_names handles) ≡ true → find is_channel handles ≡ Some handle → length handle.name ≤ 255
first-name [] earlier handle apart e = absurd cc
first-name (first ∷ handles) earlier handle apart e =
    let all = and_parts (is_node_name first.name && not (has earlier first.name)) (are_apart (earlier ++ first.name ∷ []) (handle_names handles)) apart in
    elim (is_channel first) as (λ b. cond b (Some first) (find is_channel handles) ≡ Some handle → length handle.name ≤ 255) [
      | true ↦ λ e. let same : first ≡ handle = cc in subst (λ (h : HandleDef). length h.name ≤ 255) same (short-name first.name (and_parts _ _ all.0).0)
      | false ↦ λ e. first-name handles (earlier ++ first.name ∷ []) handle all.1 e
    ] e

bootargs-weights : (bootargs : Option (List ℕ)) → option_map_or is_text bootargs true ≡ true → property_weights (bootargs_properties bootargs) ≤ 300
bootargs-weights None plain = omega arith
bootargs-weights (Some bootargs) plain = omega (arith, length-text bootargs, short-text bootargs plain)

stdout-weights : (handle : Option HandleDef) → ((h : HandleDef) → handle ≡ Some h → length h.name ≤ 255) → property_weights (stdout_properties handle) ≤ 350
stdout-weights None short = omega arith
stdout-weights (Some handle) short = omega (arith, length-text (handle_path handle), length-append (codes "/hypervisor/handles/") handle.name, short handle refl)

chosen-weights : (part : PartDef) → are_apart [] (handle_names part.handles) ≡ true → option_map_or is_text part.bootargs true ≡ true → property_weights (chosen_properties part) ≤ 650
unfolding chosen_properties
chosen-weights part apart plain =
    let bootargs = bootargs_properties part.bootargs in
    let stdout = stdout_properties (find is_channel part.handles) in
    let parts : property_weights (bootargs ++ stdout) ≡ property_weights bootargs + property_weights stdout = ap weights (map-append property_token bootargs stdout) ∙ weights-append (map property_token bootargs) (map property_token stdout) in
    omega (arith, parts, bootargs-weights part.bootargs plain, stdout-weights (find is_channel part.handles) (λ h e. first-name part.handles [] h apart e))

-- ---- the whole

-- what is asked of a partition
pub record IsFair (part : PartDef) : Type 0 where
  pub name : length part.name ≤ 255
  pub areas : length part.areas ≤ 16
  pub cores : length part.cpus ≤ 8
  pub handles : length part.handles ≤ 64
  pub apart : are_apart [] (handle_names part.handles) ≡ true
  pub targets : list_all is_plain_handle part.handles ≡ true
  pub bootargs : option_map_or is_text part.bootargs true ≡ true

pub same-cores : (config : Config) (part : PartDef) → (desc_of config part).cores ≡ part.cpus
unfolding desc_of
same-cores config part = refl

pub guest-weights : (config : Config) (part : PartDef) → IsFair part → weights (guest_tokens config part) ≤ 52500
unfolding guest_tokens children_tokens
guest-weights config part fair =
    let desc = desc_of config part in
    let cores : length desc.cores ≤ 8 = rw (same-cores config part) fair.cores in
    let chosen = chosen_tokens part in
    let hypervisor = hypervisor_tokens part ++ chosen in
    let pic = pic_tokens ++ hypervisor in
    let memory = memory_tokens config part ++ pic in
    let inside = cpus_tokens desc ++ memory in
    omega (
      arith,
      weights-append (node [] (root_properties part) inside) (Finish ∷ []),
      node-weights [] (root_properties part) inside,
      root-weights part fair.name,
      weights-append (cpus_tokens desc) memory,
      cpus-weights desc cores,
      weights-append (memory_tokens config part) pic,
      memory-weights config part fair.areas,
      weights-append pic_tokens hypervisor,
      pic-weights,
      weights-append (hypervisor_tokens part) chosen,
      hypervisors-weights part fair.handles fair.apart fair.targets,
      node-weights (codes "chosen") (chosen_properties part) [],
      chosen-weights part fair.apart fair.bootargs,
    )
