-- The description of each partition of a configuration that breaks no rule is sound.
use Rattle.std.proofs.Common.{◌≡◌, ℕ, suc, ◌+◌, ◌%◌, Bool, true, false, ◌||◌, not, ltb, ◌==◌, List, [], ◌∷◌, map, length, refl, sym, ap, ◌∙◌, arith}
use Rattle.std.specs.Prelude.{nat_lt, nat_le}
use Rattle.std.specs.List.{list_all, flat_map}
use Rattle.std.proofs.lemmas.Bool.{and_parts, and_from}
use Rattle.std.proofs.lemmas.Bool.Decides.{Decides-eqb}
use Rattle.std.proofs.lemmas.List.Folds.{list_all-map}
use Rattle.hv_config.specs.declared.form.Kind.TheVariants as kind
use Rattle.hv_config.specs.declared.config.AreaDef.{AreaDef}
use Rattle.hv_config.specs.declared.config.GuestAreaDef.{GuestAreaDef}
use Rattle.hv_config.specs.declared.config.HandleDef.{HandleDef}
use Rattle.hv_config.specs.declared.config.PartDef.{PartDef}
use Rattle.hv_config.specs.declared.config.Config.{Config}
use Rattle.machine_desc.specs.declared.desc.Region.{Region}
use Rattle.machine_desc.specs.Limits.{most_regions, most_handles, page_size, address_end, mapped_end}
use Rattle.machine_desc.specs.Ranges.{none_meets}
use Rattle.machine_desc.specs.Sound.{is_aligned, has_bytes, is_within, have_address, have_extent, are_regions_sound, are_counts_kept, interrupts_of as port_interrupts, counts_up, are_numbered, is_start_mapped, are_spin_entries_private, is_private_piece, is_sound}
use Rattle.config_checks.specs.Found.{is_area, has_area, size_of}
use Rattle.config_checks.specs.Areas.{is_ragged, is_high}
use Rattle.config_checks.specs.Guests.{is_misplaced, guests_meet, same_area}
use Rattle.config_checks.specs.Cores.{is_miscounted}
use Rattle.config_checks.specs.Window.{is_windowless}
use Rattle.config_descs.specs.Numbered.{extent_of}
use Rattle.config_descs.specs.Desc.{region_of, manage_port, interrupts_of, kind_port, ports_from, desc_of, descs_of}
use Rattle.config_rules.proofs.Lists.{length-map, all-both, all-found, none_meets-map, none_meets-mono, all-at, all-places}
use Rattle.config_rules.proofs.Names.{found, size-found, base-found, extents-names, number-itself}
use Rattle.config_rules.proofs.Kept.{Kept, guests_named, guests_placed, guests_apart, areas_differ, few_in}
use Rattle.config_rules.proofs.Numbers.{not_false}

-- ---- regions

three : (a b c : Bool) → not (not a || not b || c) ≡ true → (a ≡ true) × (b ≡ true) × (c ≡ false)
three true true false e = (refl, refl, refl)
three true true true e = absurd cc
three true false c e = absurd cc
three false b c e = absurd cc

two : (a b : Bool) → not (not a || b) ≡ true → (a ≡ true) × (b ≡ false)
two true false e = (refl, refl)
two true true e = absurd cc
two false b e = absurd cc

above_none : (n : ℕ) → (n == 0) ≡ false → nat_lt 0 n ≡ true
above_none n e = grind arith

within : (n end : ℕ) → ltb end n ≡ false → nat_le n end ≡ true
within n end e = grind arith

record Stands (region : Region) : Type 0 where
  aligned : is_aligned region ≡ true
  bytes : has_bytes region ≡ true
  within : is_within region ≡ true

stands : (config : Config) → Kept config → (guest : GuestAreaDef) → has_area config.areas guest.area ≡ true → not (is_misplaced config.areas guest) ≡ true → Stands (region_of config guest)
unfolding region_of
stands config kept guest has placed =
    let area = found (is_area guest.area) config.areas has in
    let size = size-found config.areas guest.area area in
    let base = base-found config.areas guest.area area in
    let whole = three (area.element.base % page_size == 0) (area.element.size % page_size == 0) (area.element.size == 0)
    (all-found (λ (area : AreaDef). not (is_ragged area)) (is_area guest.area) config.areas area.element kept.whole area.first).0 in
    let low = not_false (is_high area.element) (all-found (λ (area : AreaDef). not (is_high area)) (is_area guest.area) config.areas area.element kept.low area.first).0 in
    let here = two (guest.at % page_size == 0) (nat_lt address_end (guest.at + size_of config.areas guest.area)) placed in
    record {
      aligned = and_from _ _ (and_from _ _ here.0 (rw base whole.0)) (rw size whole.1);
      bytes = rw size (above_none area.element.size whole.2);
      within = and_from _ _ (within (guest.at + size_of config.areas guest.area) address_end here.1) (rw (base, size) (within (area.element.base + area.element.size) address_end low));
    }

all-stand : (config : Config) → Kept config → (p : Region → Bool) → ((region : Region) → Stands region → p region ≡ true) → (guests : List GuestAreaDef)
    → list_all (λ (guest : GuestAreaDef). has_area config.areas guest.area) guests ≡ true → list_all (λ (guest : GuestAreaDef). not (is_misplaced config.areas guest)) guests ≡ true
    → list_all p (map (region_of config) guests) ≡ true
all-stand config kept p passes guests named placed =
    rw (list_all-map p (region_of config) guests)
    (all-both (λ (guest : GuestAreaDef). has_area config.areas guest.area) (λ (guest : GuestAreaDef). not (is_misplaced config.areas guest)) (λ (guest : GuestAreaDef). p (region_of config guest))
    (λ guest h k. passes (region_of config guest) (stands config kept guest h k)) guests named placed)

addresses-apart : (config : Config) (guests : List GuestAreaDef) → none_meets (guests_meet config.areas) [] guests ≡ true → none_meets have_address [] (map (region_of config) guests) ≡ true
unfolding region_of
addresses-apart config guests e = none_meets-map (region_of config) have_address [] guests ∙ e

extents-apart : (config : Config) (guests : List GuestAreaDef) → list_all (λ (guest : GuestAreaDef). has_area config.areas guest.area) guests ≡ true
    → none_meets same_area [] guests ≡ true → none_meets have_extent [] (map (region_of config) guests) ≡ true
unfolding region_of
extents-apart config guests named e =
    none_meets-map (region_of config) have_extent [] guests
    ∙ none_meets-mono same_area (λ (x y : GuestAreaDef). extent_of config.areas x.area == extent_of config.areas y.area) (λ (guest : GuestAreaDef). has_area config.areas guest.area)
    (λ x y hx hy same. sym (extents-names config.areas x.area y.area hx hy) ∙ same) [] guests refl named e

record PartKept (config : Config) (part : PartDef) : Type 0 where
  named : guests_named config part ≡ true
  few : few_in part ≡ true
  placed : guests_placed config part ≡ true
  apart : guests_apart config part ≡ true
  different : areas_differ part ≡ true
  counted : not (is_miscounted part) ≡ true
  window : not (is_windowless config part) ≡ true

regions-sound : (config : Config) → Kept config → (part : PartDef) → PartKept config part → are_regions_sound (map (region_of config) part.areas) ≡ true
unfolding are_regions_sound
regions-sound config kept part here =
    let aligned = all-stand config kept is_aligned (λ region s. s.aligned) part.areas here.named here.placed in
    let bytes = all-stand config kept has_bytes (λ region s. s.bytes) part.areas here.named here.placed in
    let within = all-stand config kept is_within (λ region s. s.within) part.areas here.named here.placed in
    let apart = addresses-apart config part.areas here.apart in
    let different = extents-apart config part.areas here.named here.different in
    and_from _ _ (and_from _ _ (and_from _ _ (and_from _ _ aligned bytes) within) apart) different

-- ---- counts

length-ports : (config : Config) (next : ℕ) (handles : List HandleDef) → length (ports_from config next handles) ≡ length handles
length-ports config next [] = refl
length-ports config next (handle ∷ handles) = ap suc (length-ports config (next + interrupts_of handle.kind) handles)

pub one_core : (part : PartDef) → not (is_miscounted part) ≡ true → length part.cpus ≡ 1
one_core part e =
    let yes : (length part.cpus == 1) ≡ true = elim (length part.cpus == 1) as (λ b. not (not b) ≡ true → b ≡ true) [ true ↦ λ e. refl | false ↦ λ e. absurd cc ] e in
    (Decides-eqb (length part.cpus) 1).0 yes

counts-kept : (config : Config) (part : PartDef) → PartKept config part → are_counts_kept (desc_of config part) ≡ true
unfolding desc_of are_counts_kept
counts-kept config part here =
    let few = and_parts (nat_le (length part.areas) most_regions) (nat_le (length part.handles) most_handles) here.few in
    rw (length-map (region_of config) part.areas, length-ports config 0 part.handles, one_core part here.counted)
    (and_from _ _ (and_from _ _ (and_from _ _ few.0 few.1) refl) refl)

-- ---- interrupts

numbered-from : (config : Config) (next : ℕ) (handles : List HandleDef) → counts_up next (flat_map port_interrupts (ports_from config next handles)) ≡ true
unfolding manage_port
numbered-from config next [] = refl
numbered-from config next (handle ∷ handles) =
    let below : (k : ℕ) → counts_up k (flat_map port_interrupts (ports_from config k handles)) ≡ true = λ k. numbered-from config k handles in
    elim handle.kind as (λ k. counts_up next (flat_map port_interrupts (kind_port config next k handle.target ∷ ports_from config (next + interrupts_of k) handles)) ≡ true) [
      | kind.Channel ↦
          let same : (next + 1) + 1 ≡ next + 2 = omega arith in
          rw (number-itself next, number-itself (next + 1), same) (below (next + 2))
      | kind.Send ↦ let same : next + 0 ≡ next = omega arith in rw same (below next)
      | kind.Receive ↦ rw (number-itself next) (below (next + 1))
      | kind.Manage ↦ let same : next + 0 ≡ next = omega arith in rw same (below next)
    ]

ports-numbered : (config : Config) (handles : List HandleDef) → are_numbered (ports_from config 0 handles) ≡ true
unfolding are_numbered
ports-numbered config handles = numbered-from config 0 handles

-- ---- the start

window-parts : (a b c d e f : Bool) → not (not a || not b || c || d || e || not f) ≡ true → (c ≡ false) × (e ≡ false)
window-parts true true false false false f h = (refl, refl)
window-parts true true false false true f h = absurd cc
window-parts true true false true e f h = absurd cc
window-parts true true true d e f h = absurd cc
window-parts true false c d e f h = absurd cc
window-parts false b c d e f h = absurd cc

below_end : (at size end : ℕ) → (size == 0) ≡ false → ltb end (at + size) ≡ false → nat_lt at end ≡ true
below_end at size end e f = grind arith

start-mapped : (config : Config) (part : PartDef) → not (is_windowless config part) ≡ true → is_start_mapped (desc_of config part) ≡ true
unfolding desc_of is_start_mapped
start-mapped config part e =
    let parts = window-parts _ _ _ _ _ _ e in
    and_from _ _ (and_from _ _ (below_end part.tree_at part.tree_size mapped_end parts.0 parts.1) refl) refl

spins-private : (config : Config) (part : PartDef) → not (is_miscounted part) ≡ true → are_spin_entries_private (desc_of config part) ≡ true
unfolding desc_of are_spin_entries_private
spins-private config part e = rw (one_core part e) refl

-- ---- all of it

part-regions : (config : Config) → Kept config → (part : PartDef) → PartKept config part → are_regions_sound (desc_of config part).regions ≡ true
unfolding desc_of
part-regions config kept part here = regions-sound config kept part here

part-numbered : (config : Config) (part : PartDef) → are_numbered (desc_of config part).ports ≡ true
unfolding desc_of
part-numbered config part = ports-numbered config part.handles

no-pieces : (config : Config) (part : PartDef) → list_all (is_private_piece (desc_of config part).regions) (desc_of config part).pieces ≡ true
unfolding desc_of
no-pieces config part = refl

part-sound : (config : Config) → Kept config → (part : PartDef) → PartKept config part → is_sound (desc_of config part) ≡ true
unfolding is_sound
part-sound config kept part here =
    let regions = part-regions config kept part here in
    let counts = counts-kept config part here in
    let numbers = part-numbered config part in
    let start = start-mapped config part here.window in
    let spins = spins-private config part here.counted in
    and_from _ _ (and_from _ _ (and_from _ _ (and_from _ _ (and_from _ _ regions counts) numbers) start) spins) (no-pieces config part)

pub descs-sound : (config : Config) → Kept config → list_all is_sound (descs_of config) ≡ true
descs-sound config kept =
    rw (list_all-map is_sound (desc_of config) config.parts)
    (all-places (λ (part : PartDef). is_sound (desc_of config part)) config.parts (λ i part at. part-sound config kept part (record {
      named = all-at (guests_named config) config.parts i part kept.guests_named at;
      few = all-at few_in config.parts i part kept.few at;
      placed = all-at (guests_placed config) config.parts i part kept.guests_placed at;
      apart = all-at (guests_apart config) config.parts i part kept.guests_apart at;
      different = all-at areas_differ config.parts i part kept.areas_differ at;
      counted = all-at (λ (part : PartDef). not (is_miscounted part)) config.parts i part kept.counted at;
      window = all-at (λ (part : PartDef). not (is_windowless config part)) config.parts i part kept.windows at;
    })))
