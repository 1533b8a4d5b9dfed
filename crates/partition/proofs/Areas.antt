-- The regions of a description, as its machine knows them and in real memory.
use Rattle.std.proofs.Common.{◌≡◌, ℕ, suc, ◌+◌, ◌%◌, ◌<◌, ◌≤◌, ◌^◌, Bool, true, false, not, ◌&&◌, ◌==◌, nat_lt, cond, List, [], ◌∷◌, length, map, filter, slice_index_or, Option, Some, None, IfSome, IsTrue, refl, sym, ap, subst, ◌∙◌, arith}
use Rattle.std.specs.List.{position, prefix_len, slice_get, list_any}
use Rattle.std.proofs.lemmas.Bool.{and_parts, or_from, eqb-true, leb-true, eq-eqb}
use Rattle.std.proofs.lemmas.List.{length-map}
use Rattle.std.proofs.lemmas.List.Folds.{list_any_at}
use Rattle.std.proofs.lemmas.List.Quantifiers.{position-Some}
use Rattle.std.proofs.lemmas.Option.{slice_get-get_or}
use Rattle.std.proofs.Math.ListN.{get_or-map}
use Rattle.machine_desc.specs.declared.desc.Desc.{Desc}
use Rattle.machine_desc.specs.declared.desc.Region.{Region}
use Rattle.machine_desc.specs.Ranges.{none_meets}
use Rattle.machine_desc.specs.Sound.{IsSound, is_aligned, is_within, have_extent}
use Rattle.machine_desc.proofs.Apart.{one_place}
use Rattle.machine_desc.proofs.Parts.{regions_parts, sound_regions, HasParts}
use Rattle.memory_areas.proofs.Found.{all_at}
use Rattle.fresh_load.specs.Placed.{ArePlaced, is_placed, extents_of}
use Rattle.fresh_load.proofs.Places.{there}
use Rattle.ground.specs.Extents.{extent_at}
use Rattle.ground.specs.Own.{AreExtents, name_of, own_of}
use Rattle.core_step.specs.declared.answer.Wrote.{Wrote}
use Rattle.core_step.specs.Laws.{AreBelow, range_in}
use Rattle.partition.specs.Regions.{Area, area_at, area_of, areas_of, area_with, covers, blank}
use Rattle.partition.specs.Step.{shared_ranges}
use Rattle.partition.specs.Lending.{is_shared_extent}

abbrev no_region : Region
no_region = record { logical = 0; size = 0; extent = 0; real = 0; private = false }

-- ---- the region of an address

same_prefix : (q : Area → Bool) (regions : List Region) → prefix_len q (areas_of regions) ≡ prefix_len (λ region. q (area_of region)) regions
same_prefix q [] = refl
same_prefix q (region ∷ regions) = let rest : prefix_len q (areas_of regions) ≡ prefix_len (λ region. q (area_of region)) regions = same_prefix q regions in cc

pub same_position : (regions : List Region) (logical : ℕ) → position (covers logical) (areas_of regions) ≡ position (λ region. covers logical (area_of region)) regions
same_position regions logical =
    ap (λ (n : ℕ). cond (nat_lt n (length (areas_of regions))) (Some n) None) (same_prefix (λ area. not (covers logical area)) regions)
    ∙ ap (λ (n : ℕ). cond (nat_lt (prefix_len (λ region. not (covers logical (area_of region))) regions) n) (Some (prefix_len (λ region. not (covers logical (area_of region))) regions)) None) (length-map regions area_of)

pub position_covers : (areas : List Area) (logical : ℕ) (found : Option ℕ) → found ≡ area_with areas logical → IfSome found (λ k. IsTrue (covers logical (area_at areas k)))
position_covers areas logical None e = tt
position_covers areas logical (Some k) e = let is = position-Some (covers logical) areas k blank (sym e) in is.1

pub same_area : (regions : List Region) (k : ℕ) → area_at (areas_of regions) k ≡ area_of (slice_index_or regions k no_region)
same_area regions k = get_or-map area_of regions k no_region

pub same_name : (regions : List Region) (k : ℕ) → slice_index_or (extents_of regions) k 0 ≡ (slice_index_or regions k no_region).extent
same_name regions k = get_or-map (λ (region : Region). region.extent) regions k no_region

-- ---- whole pages

pub record IsWhole (area : Area) : Type 0 where
  pub logical : area.logical % 4096 ≡ 0
  pub size : area.size % 4096 ≡ 0
  pub end : area.logical + area.size ≤ 2 ^ 36

abbrev pub AreWhole : List Area → Type 0
AreWhole areas = (k : ℕ) → k < length areas → IsWhole (area_at areas k)

aligned_parts : (region : Region) → is_aligned region ≡ true → (region.logical % 4096 ≡ 0) × (region.size % 4096 ≡ 0)
aligned_parts region h =
    let two = and_parts (region.logical % 4096 == 0 && region.real % 4096 == 0) (region.size % 4096 == 0) h in
    let one = and_parts (region.logical % 4096 == 0) (region.real % 4096 == 0) two.0 in
    (eqb-true (region.logical % 4096) 0 one.0, eqb-true (region.size % 4096) 0 two.1)

within_part : (region : Region) → is_within region ≡ true → region.logical + region.size ≤ 2 ^ 36
within_part region h = let parts = and_parts _ _ h in leb-true (region.logical + region.size) 68719476736 parts.0

whole_region : (region : Region) → is_aligned region ≡ true → is_within region ≡ true → IsWhole (area_of region)
whole_region region aligned within =
    let pages = aligned_parts region aligned in record { logical = pages.0; size = pages.1; end = within_part region within }

pub sound_whole : (desc : Desc) → IsSound desc → AreWhole (areas_of desc.regions)
sound_whole desc sound k below =
    let parts : HasParts desc.regions = regions_parts desc.regions (sound_regions desc sound) in
    let few : k < length desc.regions = omega (arith, below, length-map desc.regions area_of) in
    let region : Region = slice_index_or desc.regions k no_region in
    let at : slice_get desc.regions k ≡ Some region = slice_get-get_or desc.regions k no_region few in
    subst IsWhole (sym (same_area desc.regions k))
    (whole_region region (all_at is_aligned desc.regions k region parts.aligned at) (all_at is_within desc.regions k region parts.within at))

-- ---- their extents

region_at : (regions : List Region) (k : ℕ) → k < length (extents_of regions) → slice_get regions k ≡ Some (slice_index_or regions k no_region)
region_at regions k below = slice_get-get_or regions k no_region (omega (arith, below, length-map regions (λ (region : Region). region.extent)))

exists : (regions : List Region) (memory : List (List ℕ)) (k : ℕ) → ArePlaced memory regions → k < length (extents_of regions) → name_of (extents_of regions) k < length memory
exists regions memory k placed below =
    let region : Region = slice_index_or regions k no_region in
    let is = there memory region (all_at (is_placed memory) regions k region placed (region_at regions k below)) in
    subst (λ (extent : ℕ). extent < length memory) (sym (same_name regions k)) is.exists

differ : (regions : List Region) (i j : ℕ) → none_meets have_extent [] regions ≡ true → i < length (extents_of regions) → j < length (extents_of regions)
    → name_of (extents_of regions) i ≡ name_of (extents_of regions) j → i ≡ j
differ regions i j apart one other same =
    let x : Region = slice_index_or regions i no_region in
    let y : Region = slice_index_or regions j no_region in
    let meet : x.extent ≡ y.extent = sym (same_name regions i) ∙ same ∙ same_name regions j in
    one_place have_extent regions i j x y apart (region_at regions i one) (region_at regions j other) (eq-eqb x.extent y.extent meet) (eq-eqb y.extent x.extent (sym meet))

pub placed_extents : (desc : Desc) (memory : List (List ℕ)) → IsSound desc → ArePlaced memory desc.regions → AreExtents (extents_of desc.regions) memory
placed_extents desc memory sound placed =
    let parts : HasParts desc.regions = regions_parts desc.regions (sound_regions desc sound) in
    record { exist = λ k below. exists desc.regions memory k placed below; differ = λ i j one other same. differ desc.regions i j parts.extents one other same }

sizes : (regions : List Region) (memory : List (List ℕ)) → ArePlaced memory regions → map length (own_of (extents_of regions) memory) ≡ map (λ (area : Area). area.size) (areas_of regions)
sizes [] memory placed = refl
sizes (region ∷ regions) memory placed =
    let parts = and_parts _ _ placed in
    let head : length (extent_at memory region.extent) ≡ region.size = (there memory region parts.0).size in
    let tail : map length (own_of (extents_of regions) memory) ≡ map (λ (area : Area). area.size) (areas_of regions) = sizes regions memory parts.1 in
    cc

pub placed_sizes : (desc : Desc) (memory : List (List ℕ)) → ArePlaced memory desc.regions → map length (own_of (extents_of desc.regions) memory) ≡ map (λ (area : Area). area.size) (areas_of desc.regions)
placed_sizes desc memory placed = sizes desc.regions memory placed

pub count : (regions : List Region) → length (extents_of regions) ≡ length (areas_of regions)
count regions = length-map regions (λ (region : Region). region.extent) ∙ sym (length-map regions area_of)

-- ---- shared ones

none_passes : {X : Type 0} (test : X → Bool) (xs : List X) → ((i : ℕ) (x : X) → slice_get xs i ≡ Some x → test x ≡ false) → list_any test xs ≡ false
none_passes test [] h = refl
none_passes test (x ∷ xs) h = or_from _ _ (h 0 x refl) (none_passes test xs (λ i y e. h (suc i) y e))

private_alone : (regions : List Region) (k : ℕ) (region : Region) → none_meets have_extent [] regions ≡ true → slice_get regions k ≡ Some region → region.private ≡ true
    → is_shared_extent regions region.extent ≡ false
private_alone regions k region apart at private =
    none_passes (λ (other : Region). not other.private && other.extent == region.extent) regions (λ j other e. alone j other e (other.extent == region.extent) refl)
  where
    alone : (j : ℕ) (other : Region) → slice_get regions j ≡ Some other → (b : Bool) → (other.extent == region.extent) ≡ b → (not other.private && b) ≡ false
    alone j other e true t =
        let same : other.extent ≡ region.extent = eqb-true other.extent region.extent t in
        let one : j ≡ k = one_place have_extent regions j k other region apart e at t (eq-eqb region.extent other.extent (sym same)) in
        let its : Some other ≡ Some region = sym e ∙ (ap (slice_get regions) one ∙ at) in
        let is : other ≡ region = cc in
        ap (λ (b : Bool). not b && true) (ap (λ (r : Region). r.private) is ∙ private)
    alone j other e false t = elim other.private as (λ b. (not b && false) ≡ false) [ true ↦ refl | false ↦ refl ]

shared_one : (regions : List Region) (k : ℕ) → k < length regions → (slice_index_or regions k no_region).private ≡ false → is_shared_extent regions (slice_index_or regions k no_region).extent ≡ true
shared_one regions k few shared =
    let region : Region = slice_index_or regions k no_region in
    list_any_at (λ (other : Region). not other.private && other.extent == region.extent) regions k no_region few
    (ap (λ (b : Bool). not b && region.extent == region.extent) shared ∙ eq-eqb region.extent region.extent refl)

told : (desc : Desc) (k : ℕ) → IsSound desc → k < length (extents_of desc.regions) → is_shared_extent desc.regions (name_of (extents_of desc.regions) k) ≡ not (area_at (areas_of desc.regions) k).private
told desc k sound below =
    let regions = desc.regions in
    let parts : HasParts regions = regions_parts regions (sound_regions desc sound) in
    let region : Region = slice_index_or regions k no_region in
    let few : k < length regions = omega (arith, below, length-map regions (λ (region : Region). region.extent)) in
    let by_private : (b : Bool) → region.private ≡ b → is_shared_extent regions region.extent ≡ not b =
    λ b. elim b as (λ b. region.private ≡ b → is_shared_extent regions region.extent ≡ not b) [
      | true ↦ λ e. private_alone regions k region parts.extents (region_at regions k below) e
      | false ↦ λ e. shared_one regions k few e
    ] in
    ap (is_shared_extent regions) (same_name regions k) ∙ by_private region.private refl ∙ ap (λ (area : Area). not area.private) (sym (same_area regions k))

-- the program's ranges of shared extents are the defined ones of shared regions
pub shared_in : (desc : Desc) (ranges : List Wrote) → IsSound desc → AreBelow (length (extents_of desc.regions)) ranges
    → filter (λ (range : Wrote). is_shared_extent desc.regions range.extent) (map (range_in (extents_of desc.regions)) ranges) ≡ map (range_in (extents_of desc.regions)) (shared_ranges (areas_of desc.regions) ranges)
shared_in desc [] sound below = refl
shared_in desc (range ∷ ranges) sound below =
    let names = extents_of desc.regions in
    let rest = shared_in desc ranges sound below.1 in
    let keeps = λ (b : Bool) (others : List Wrote). cond b (range_in names range ∷ others) others in
    let same : is_shared_extent desc.regions (name_of names range.extent) ≡ not (area_at (areas_of desc.regions) range.extent).private = told desc range.extent sound below.0 in
    ap (λ (b : Bool). keeps b (filter (λ (range : Wrote). is_shared_extent desc.regions range.extent) (map (range_in names) ranges))) same
    ∙ ap (keeps (not (area_at (areas_of desc.regions) range.extent).private)) rest
    ∙ moved (not (area_at (areas_of desc.regions) range.extent).private)
  where
    moved : (b : Bool) → cond b (range_in (extents_of desc.regions) range ∷ map (range_in (extents_of desc.regions)) (shared_ranges (areas_of desc.regions) ranges)) (map (range_in (extents_of desc.regions)) (shared_ranges (areas_of desc.regions) ranges))
        ≡ map (range_in (extents_of desc.regions)) (cond b (range ∷ shared_ranges (areas_of desc.regions) ranges) (shared_ranges (areas_of desc.regions) ranges))
    moved true = refl
    moved false = refl
