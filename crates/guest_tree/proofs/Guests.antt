-- Guest trees of accepted configurations.
use Rattle.std.proofs.Common.{◌≡◌, ℕ, zero, suc, ◌<◌, ◌≤◌, Bool, true, not, ◌&&◌, nat_lt, List, [], ◌∷◌, ◌++◌, map, length, None, refl, sym, ap, subst, ◌+◌, ◌∙◌, arith}
use Rattle.std.specs.Prelude.{nat_le, slice_index_or}
use Rattle.std.specs.List.{list_all, flat_map}
use Rattle.std.specs.Option.{option_map_or}
use Rattle.std.proofs.lemmas.Bool.{and_parts, leb-true}
use Rattle.std.proofs.lemmas.List.Folds.{list_all-map}
use Rattle.hv_config.specs.declared.config.PartDef.{PartDef}
use Rattle.hv_config.specs.declared.config.Config.{Config}
use Rattle.hv_config.specs.Plain.{part_names, guest_names, handle_names, is_plain_guest, is_plain_handle, is_plain_part}
use Rattle.machine_desc.specs.Limits.{most_regions, most_handles, most_cores, mapped_end, spin_room}
use Rattle.machine_desc.specs.Private.{is_private_range}
use Rattle.dt_model.specs.declared.tree.Reserve.{Reserve}
use Rattle.dt_model.specs.declared.tree.Node.{Node}
use Rattle.dt_model.specs.declared.tree.Tree.{Tree}
use Rattle.dt_model.specs.Kept.{are_apart}
use Rattle.dt_model.specs.Name.{is_node_name, has}
use Rattle.dt_model.specs.Value.{is_text}
use Rattle.dt_model.specs.Token.{Token, Finish}
use Rattle.dt_model.specs.Node.{node_tokens, tokens_of, rows_of, rows_in}
use Rattle.dt_model.specs.Fit.{Fits}
use Rattle.dt_model.specs.Rule.{first_broken}
use Rattle.dt_model.specs.Canonical.{canonical, blob_saying}
use Rattle.config_descs.specs.Desc.{region_of, desc_of}
use Rattle.config_rules.specs.Accepted.{IsAccepted}
use Rattle.config_rules.specs.Parts.{is_small, has_window}
use Rattle.config_rules.specs.Laws.{AcceptedKeepParts}
use Rattle.guest_tree.specs.Properties.{root_properties}
use Rattle.dt_make.specs.Nodes.{node}
use Rattle.guest_tree.specs.Tokens.{cpus_tokens, memory_tokens, pic_tokens, hypervisor_tokens, chosen_tokens, children_tokens, guest_tokens}
use Rattle.guest_tree.specs.Guest.{HasSpinRoom, IsGuestTree, guest_blob}
use Rattle.guest_tree.specs.Laws.{largest_blob}
use Rattle.guest_tree.proofs.Made.{five-nodes}
use Rattle.guest_tree.proofs.Sizes.{length-weights, length-blob}
use Rattle.guest_tree.proofs.Weights.{IsFair, short-name, same-cores, guest-weights}
use Rattle.guest_tree.proofs.Rows.{rows-guest}
use Rattle.guest_tree.proofs.Fit.{guest-fits}

pub blob-is : (config : Config) (part : PartDef) (tree : Tree) → IsGuestTree config part tree → canonical tree ≡ guest_blob config part
unfolding canonical guest_blob
blob-is config part tree is =
    ap (λ (cpu : ℕ). blob_saying cpu tree.reserve.items (tokens_of tree)) is.boot_cpu
    ∙ ap (λ (entries : List Reserve). blob_saying 0 entries (tokens_of tree)) is.reserve
    ∙ ap (λ (tokens : List Token). blob_saying 0 [] tokens) is.tokens

-- ---- a partition of an accepted configuration

pub all-there : {X : Type 0} (p : X → Bool) (xs : List X) (i : ℕ) (d : X) → list_all p xs ≡ true → i < length xs → p (slice_index_or xs i d) ≡ true
all-there p [] i d all few = absurd (omega (arith, few))
all-there p (x ∷ xs) zero d all few = (and_parts (p x) (list_all p xs) all).0
all-there p (x ∷ xs) (suc i) d all few = all-there p xs i d (and_parts (p x) (list_all p xs) all).1 (omega (arith, few))

name-there : (parts : List PartDef) (earlier : List (List ℕ)) (i : ℕ) (d : PartDef) → are_apart earlier (part_names parts) ≡ true → i < length parts → is_node_name (slice_index_or parts i d).name ≡ true
name-there [] earlier i d apart few = absurd (omega (arith, few))
name-there (part ∷ parts) earlier zero d apart few =
    let all = and_parts (is_node_name part.name && not (has earlier part.name)) (are_apart (earlier ++ part.name ∷ []) (part_names parts)) apart in
    (and_parts (is_node_name part.name) (not (has earlier part.name)) all.0).0
name-there (part ∷ parts) earlier (suc i) d apart few =
    let all = and_parts (is_node_name part.name && not (has earlier part.name)) (are_apart (earlier ++ part.name ∷ []) (part_names parts)) apart in
    name-there parts (earlier ++ part.name ∷ []) i d all.1 (omega (arith, few))

record Plain (part : PartDef) : Type 0 where
  bootargs : option_map_or is_text part.bootargs true ≡ true
  apart : are_apart [] (handle_names part.handles) ≡ true
  targets : list_all is_plain_handle part.handles ≡ true

plain : (part : PartDef) → is_plain_part part ≡ true → Plain part
plain part e =
    let image = nat_lt 0 (length part.cpus) && is_text part.image in
    let bootargs = option_map_or is_text part.bootargs true in
    let guests = are_apart [] (guest_names part.areas) in
    let areas = list_all is_plain_guest part.areas in
    let apart = are_apart [] (handle_names part.handles) in
    let a = and_parts (image && bootargs && guests && areas && apart) (list_all is_plain_handle part.handles) e in
    let b = and_parts (image && bootargs && guests && areas) apart a.0 in
    let c = and_parts (image && bootargs && guests) areas b.0 in
    let d = and_parts (image && bootargs) guests c.0 in
    record { bootargs = (and_parts image bootargs d.0).1; apart = b.1; targets = a.1 }

fair : AcceptedKeepParts → (config : Config) → IsAccepted config → (i : ℕ) → i < length config.parts → (d : PartDef) → IsFair (slice_index_or config.parts i d)
fair law config accepted i few d =
    let part = slice_index_or config.parts i d in
    let kept = law config accepted in
    let small = all-there is_small config.parts i d kept.small few in
    let a = and_parts (nat_le (length part.areas) most_regions && nat_le (length part.handles) most_handles) (nat_le (length part.cpus) most_cores) small in
    let b = and_parts (nat_le (length part.areas) most_regions) (nat_le (length part.handles) most_handles) a.0 in
    let p = plain part (all-there is_plain_part config.parts i d accepted.plain.plain_parts few) in
    record {
      name = short-name part.name (name-there config.parts [] i d accepted.plain.parts few);
      areas = leb-true (length part.areas) most_regions b.0;
      cores = leb-true (length part.cpus) most_cores a.1;
      handles = leb-true (length part.handles) most_handles b.1;
      apart = p.apart;
      targets = p.targets;
      bootargs = p.bootargs;
    }

fits-by : (tree : Tree) → tree.reserve.items ≡ [] → first_broken [] (tokens_of tree) ≡ None → Fits tree
fits-by tree none whole = record {
  few_entries = rw none (omega arith);
  entries = rw none refl;
  tokens = whole;
}

pub tree-fits : AcceptedKeepParts → (config : Config) → IsAccepted config → (i : ℕ) → i < length config.parts → (d : PartDef) → (tree : Tree)
    → IsGuestTree config (slice_index_or config.parts i d) tree → Fits tree
tree-fits law config accepted i few d tree is =
    let part = slice_index_or config.parts i d in
    let f = fair law config accepted i few d in
    let cores : length (desc_of config part).cores ≤ 8 = rw (same-cores config part) f.cores in
    let short : length (guest_tokens config part) ≤ 65535 = omega (arith, length-weights (guest_tokens config part), guest-weights config part f) in
    fits-by tree is.reserve (ap (first_broken []) is.tokens ∙ guest-fits config part cores f.apart short)

pub blob-small : AcceptedKeepParts → (config : Config) → IsAccepted config → (i : ℕ) → i < length config.parts → (d : PartDef)
    → length (guest_blob config (slice_index_or config.parts i d)) ≤ largest_blob
unfolding guest_blob
blob-small law config accepted i few d =
    let part = slice_index_or config.parts i d in
    omega (arith, length-blob 0 (guest_tokens config part), guest-weights config part (fair law config accepted i few d))

-- ---- making it

pub children-are : (config : Config) (part : PartDef) (cpus memory pic hypervisor chosen : Node) → node_tokens cpus ≡ cpus_tokens (desc_of config part) → node_tokens memory ≡ memory_tokens config part
    → node_tokens pic ≡ pic_tokens → node_tokens hypervisor ≡ hypervisor_tokens part → node_tokens chosen ≡ chosen_tokens part
    → flat_map node_tokens (cpus ∷ memory ∷ pic ∷ hypervisor ∷ chosen ∷ []) ≡ children_tokens config part
unfolding children_tokens
children-are config part cpus memory pic hypervisor chosen a b c d e = five-nodes cpus memory pic hypervisor chosen ∙ rw (a, b, c, d, e) refl

pub whole-tree : (config : Config) (part : PartDef) (tree : Tree) → ((t : Tree) → rows_of t ≡ rows_in (tokens_of t)) → tree.reserve.items ≡ [] → tree.boot_cpu ≡ 0
    → node_tokens tree.root ≡ node [] (root_properties part) (children_tokens config part) → IsGuestTree config part tree
unfolding guest_tokens
whole-tree config part tree law none first root =
    let tokens : tokens_of tree ≡ guest_tokens config part = ap (λ (tokens : List Token). tokens ++ Finish ∷ []) root in
    record { reserve = none; boot_cpu = first; rows = law tree ∙ ap rows_in tokens ∙ rows-guest config part; tokens = tokens }

room : (config : Config) (part : PartDef) → has_window (desc_of config part) ≡ true → HasSpinRoom part
unfolding has_window desc_of
room config part e =
    let a = and_parts (is_private_range (map (region_of config) part.areas) part.tree_at part.tree_size && nat_le (part.tree_at + part.tree_size) mapped_end) (nat_le spin_room part.tree_size) e in
    let b = and_parts (is_private_range (map (region_of config) part.areas) part.tree_at part.tree_size) (nat_le (part.tree_at + part.tree_size) mapped_end) a.0 in
    record { room = leb-true spin_room part.tree_size a.1; mapped = leb-true (part.tree_at + part.tree_size) mapped_end b.1 }

-- what `tree_of` asks of a partition of an accepted configuration
pub record IsAsked (part : PartDef) : Type 0 where
  pub room : HasSpinRoom part
  pub cores : length part.cpus ≤ most_cores
  pub handles : length part.handles ≤ most_handles

pub asked : AcceptedKeepParts → (config : Config) → IsAccepted config → (i : ℕ) → i < length config.parts → (part : PartDef) → part ≡ slice_index_or config.parts i part → IsAsked part
asked law config accepted i few part is =
    let f = fair law config accepted i few part in
    let windows : list_all (λ (p : PartDef). has_window (desc_of config p)) config.parts ≡ true = sym (list_all-map has_window (desc_of config) config.parts) ∙ (law config accepted).windows in
    let window = all-there (λ (p : PartDef). has_window (desc_of config p)) config.parts i part windows few in
    subst (λ (p : PartDef). IsAsked p) (sym is) (record { room = room config (slice_index_or config.parts i part) window; cores = f.cores; handles = f.handles })
