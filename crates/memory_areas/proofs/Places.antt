-- The places of addresses in sound descriptions.
use Rattle.std.proofs.Common.{◌≡◌, ◌↔◌, ◌&&◌, length, ℕ, ◌+◌, ◌-◌, ◌<◌, ◌≤◌, true, ltb, leb, List, Option, Some, None, refl, sym, ap, subst, ◌∙◌, arith}
use Rattle.std.specs.List.{find, slice_get, Contains}
use Rattle.std.specs.Option.{option_map}
use Rattle.std.proofs.lemmas.Bool.{and_parts}
use Rattle.std.proofs.lemmas.Option.{none-some, slice_get_within, get_or_from_slice_get, slice_get_read}
use Rattle.machine_desc.specs.declared.desc.Region.{Region}
use Rattle.machine_desc.specs.Private.{region_end, holds_privately, is_private_address, is_private_range}
use Rattle.machine_desc.specs.Sound.{have_address, have_extent, are_regions_sound}
use Rattle.machine_desc.proofs.Apart.{one_place}
use Rattle.machine_desc.proofs.Parts.{regions_parts}
use Rattle.memory_areas.specs.declared.place.Place.{Place}
use Rattle.memory_areas.specs.Place.{has_address, place_of, place_in, place_behind}
use Rattle.memory_areas.specs.Laws.{HasIt, OneRegionHasIt, ItsRegionGivesThePlace, PlacesAreOfRegions, RunsHaveBytes, RunsGoOn, OneAddressIsAtAByte, OrderIsFree, PrivateBytesAreInRegions}
use Rattle.memory_areas.proofs.Found.{found_at, some_found, all_in_range, some_holds}

-- ---- one region

pub has_both : (logical : ℕ) (region : Region) → has_address logical region ≡ true → (region.logical ≤ logical) × (logical < region_end region)
has_both logical region h = grind arith

pub has_by : (logical : ℕ) (region : Region) → region.logical ≤ logical → logical < region_end region → has_address logical region ≡ true
has_by logical region low high = grind arith

-- two regions that have an address meet
share_address : (logical : ℕ) (region other : Region) → has_address logical region ≡ true → has_address logical other ≡ true → have_address region other ≡ true
share_address logical region other h k =
    let one = has_both logical region h in
    let two = has_both logical other k in
    grind arith

pub one_region_has_it : OneRegionHasIt
one_region_has_it regions logical i j region other sound h k =
    one_place have_address regions i j region other (regions_parts regions sound).apart h.there k.there
    (share_address logical region other h.has k.has) (share_address logical other region k.has h.has)

-- ---- what is found

found_place : (logical : ℕ) (place : Place) (o : Option Region) → option_map (place_of logical) o ≡ Some place → (region : Region) × ((o ≡ Some region) × (place ≡ place_of logical region))
found_place logical place None e = absurd cc
found_place logical place (Some region) e = (region, (refl, cc))

pub places_are_of_regions : PlacesAreOfRegions
unfolding place_in
places_are_of_regions regions logical place e =
    let found = found_place logical place (find (has_address logical) regions) e in
    let at = found_at (has_address logical) regions found.0 found.1.0 in
    (at.1.0, found.0, record { there = at.1.1; has = at.0 }, found.1.1)

-- the same element stands at the same place
same_there : (regions : List Region) (i j : ℕ) (region other : Region) → i ≡ j → slice_get regions i ≡ Some region → slice_get regions j ≡ Some other → region ≡ other
same_there regions i j region other e h k =
    let at : Some region ≡ Some other = sym h ∙ ap (slice_get regions) e ∙ k in cc

pub its_region_gives_the_place : ItsRegionGivesThePlace
unfolding place_in
its_region_gives_the_place regions logical number region sound h =
    let found = some_found (has_address logical) regions number region h.there h.has in
    let at = found_at (has_address logical) regions found.0 found.1 in
    let one : number ≡ at.1.0 = one_region_has_it regions logical number at.1.0 region found.0 sound h (record { there = at.1.1; has = at.0 }) in
    let same : found.0 ≡ region = sym (same_there regions number at.1.0 region found.0 one h.there at.1.1) in
    ap (option_map (place_of logical)) found.1 ∙ ap (λ (r : Region). Some (place_of logical r)) same

-- ---- order

contained : (regions : List Region) (number : ℕ) (region : Region) → slice_get regions number ≡ Some region → Contains regions region
contained regions number region e = (number, slice_get_within regions number region e, get_or_from_slice_get regions number region region e)

number_of : (regions : List Region) (region : Region) → Contains regions region → (number : ℕ) × (slice_get regions number ≡ Some region)
number_of regions region h = (h.0, slice_get_read regions (length regions) h.0 region refl h.1 (sym h.2))

-- an address without a place is in no region
has_a_place : (regions : List Region) (logical number : ℕ) (region : Region) → HasIt regions logical number region → place_in regions logical ≡ None → ⊥
unfolding place_in
has_a_place regions logical number region h e =
    let found = some_found (has_address logical) regions number region h.there h.has in
    none-some (place_of logical found.0) (sym e ∙ ap (option_map (place_of logical)) found.1)

same_places : (regions others : List Region) (logical : ℕ) (o r : Option Place) → are_regions_sound regions ≡ true
    → ((region : Region) → Contains regions region ↔ Contains others region) → place_in others logical ≡ o → place_in regions logical ≡ r → o ≡ r
same_places regions others logical None None sound same e f = refl
same_places regions others logical None (Some place) sound same e f =
    let of = places_are_of_regions regions logical place f in
    let there = number_of others of.1 ((same of.1).0 (contained regions of.0 of.1 of.2.there)) in
    absurd (has_a_place others logical there.0 of.1 (record { there = there.1; has = of.2.has }) e)
same_places regions others logical (Some place) r sound same e f =
    let of = places_are_of_regions others logical place e in
    let there = number_of regions of.1 ((same of.1).1 (contained others of.0 of.1 of.2.there)) in
    ap (λ (p : Place). Some p) of.3 ∙ sym (its_region_gives_the_place regions logical there.0 of.1 sound (record { there = there.1; has = of.2.has })) ∙ f

pub order_is_free : OrderIsFree
order_is_free regions others logical sound same = same_places regions others logical (place_in others logical) (place_in regions logical) sound same refl refl

-- ---- runs

pub runs_have_bytes : RunsHaveBytes
runs_have_bytes regions logical place e =
    let of = places_are_of_regions regions logical place e in
    let both = has_both logical of.1 of.2.has in
    let run : place.run ≡ region_end of.1 - logical = ap (λ (p : Place). p.run) of.3 in
    omega arith

run_on : (logical more : ℕ) (region : Region) → has_address logical region ≡ true → more < region_end region - logical
    → (has_address (logical + more) region ≡ true) × (place_of (logical + more) region ≡ place_behind (place_of logical region) more)
run_on logical more region h below =
    let both = has_both logical region h in
    let at : logical + more - region.logical ≡ logical - region.logical + more = omega arith in
    let run : region_end region - (logical + more) ≡ region_end region - logical - more = omega arith in
    let real : region.real + (logical + more - region.logical) ≡ region.real + (logical - region.logical) + more = omega arith in
    (has_by (logical + more) region (omega arith) (omega arith), cc)

pub runs_go_on : RunsGoOn
runs_go_on regions logical more place sound e below =
    let of = places_are_of_regions regions logical place e in
    let run : place.run ≡ region_end of.1 - logical = ap (λ (p : Place). p.run) of.3 in
    let on = run_on logical more of.1 of.2.has (subst (λ n. more < n) run below) in
    its_region_gives_the_place regions (logical + more) of.0 of.1 sound (record { there = of.2.there; has = on.0 })
    ∙ ap (λ (p : Place). Some p) (on.1 ∙ ap (λ (p : Place). place_behind p more) (sym of.3))

-- ---- bytes

-- two regions of one extent are one
one_extent : (regions : List Region) (i j : ℕ) (region other : Region) → are_regions_sound regions ≡ true → slice_get regions i ≡ Some region
    → slice_get regions j ≡ Some other → region.extent ≡ other.extent → region ≡ other
one_extent regions i j region other sound h k same =
    let there : have_extent region other ≡ true = grind (arith, same) in
    let back : have_extent other region ≡ true = grind (arith, same) in
    let one : i ≡ j = one_place have_extent regions i j region other (regions_parts regions sound).extents h k there back in
    same_there regions i j region other one h k

pub one_address_is_at_a_byte : OneAddressIsAtAByte
one_address_is_at_a_byte regions logical other place found sound e f extents at =
    let of = places_are_of_regions regions logical place e in
    let og = places_are_of_regions regions other found f in
    let extent : of.1.extent ≡ og.1.extent = sym (ap (λ (p : Place). p.extent) of.3) ∙ extents ∙ ap (λ (p : Place). p.extent) og.3 in
    let region : of.1 ≡ og.1 = one_extent regions of.0 og.0 of.1 og.1 sound of.2.there og.2.there extent in
    let start : of.1.logical ≡ og.1.logical = ap (λ (r : Region). r.logical) region in
    let offset : logical - of.1.logical ≡ other - og.1.logical = sym (ap (λ (p : Place). p.at) of.3) ∙ at ∙ ap (λ (p : Place). p.at) og.3 in
    let low : of.1.logical ≤ logical = (has_both logical of.1 of.2.has).0 in
    let least : og.1.logical ≤ other = (has_both other og.1 og.2.has).0 in
    omega arith

-- ---- private ranges

pub private_bytes_are_in_regions : PrivateBytesAreInRegions
unfolding is_private_range
private_bytes_are_in_regions regions logical size more h below =
    let held = some_holds (holds_privately (logical + more)) regions (all_in_range (is_private_address regions) size logical more h below) in
    let region : Region = held.1 in
    let parts = and_parts (region.private && leb region.logical (logical + more)) (ltb (logical + more) (region_end region)) held.3 in
    let front = and_parts region.private (leb region.logical (logical + more)) parts.0 in
    (held.0, region, record { there = held.2; has = rw (front.1, parts.1) refl }, front.0)
