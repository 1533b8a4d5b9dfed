-- Where private bytes lie.
use Rattle.std.proofs.Common.{◌≡◌, ℕ, zero, suc, ◌+◌, ◌-◌, ◌^◌, ◌<◌, ◌≤◌, min, Bool, true, ltb, leb, List, Some, refl, sym, subst, arith}
use Rattle.std.specs.List.{list_all, range_with_len}
use Rattle.std.proofs.lemmas.Bool.{and_parts, and_from, leb-true}
use Rattle.machine_desc.specs.declared.desc.Region.{Region}
use Rattle.machine_desc.specs.Limits.{address_end}
use Rattle.machine_desc.specs.Private.{region_end, is_private_address, is_private_range}
use Rattle.machine_desc.specs.Sound.{is_within}
use Rattle.memory_areas.specs.declared.place.Place.{Place}
use Rattle.memory_areas.specs.Place.{place_in}
use Rattle.memory_areas.specs.Kept.{AreWithin}
use Rattle.memory_areas.proofs.Found.{all_at, all_in_range}
use Rattle.memory_areas.proofs.Places.{has_both, places_are_of_regions, private_bytes_are_in_regions}
use Rattle.ground.specs.Extents.{HasRange}
use Rattle.fresh_load.specs.Placed.{is_placed, ArePlaced}
use Rattle.fresh_load.proofs.Places.{there}
use Rattle.copy_lists.specs.Lists.{most_bytes}

-- ---- sums that stand still at the end of their type

pub over : (count : ℕ) → ltb most_bytes (min count (2 ^ 64 - 1)) ≡ ltb most_bytes count
over count = grind arith

-- ---- places

-- the run of a place lies in its extent
pub run_there : (regions : List Region) (memory : List (List ℕ)) (logical : ℕ) (place : Place) → ArePlaced memory regions → place_in regions logical ≡ Some place
    → HasRange memory place.extent place.at place.run
run_there regions memory logical place placed e =
    let of = places_are_of_regions regions logical place e in
    let region : Region = of.1 in
    let is = there memory region (all_at (is_placed memory) regions of.0 region placed of.2.there) in
    let both = has_both logical region of.2.has in
    subst (λ (p : Place). HasRange memory p.extent p.at p.run) (sym of.3) (is.exists, omega (arith, is.size, both.0, both.1))

-- ---- private ranges

-- a private byte has an address below the end of all addresses
pub private_below : (regions : List Region) (at size more : ℕ) → AreWithin regions → is_private_range regions at size ≡ true → more < size → at + more < address_end
private_below regions at size more within h below =
    let held = private_bytes_are_in_regions regions at size more h below in
    let region : Region = held.1 in
    let its = and_parts (leb (region.logical + region.size) address_end) _ (all_at is_within regions held.0 region within held.2.there) in
    let end : region.logical + region.size ≤ address_end = leb-true (region.logical + region.size) address_end its.0 in
    let below : at + more < region_end region = (has_both (at + more) region held.2.has).1 in
    omega arith

-- a private range ends where numbers of 64 bits do, or before
pub private_ends : (regions : List Region) (at size : ℕ) → AreWithin regions → is_private_range regions at size ≡ true → at < 2 ^ 64 → at + size ≤ 2 ^ 64
private_ends regions at zero within h small = omega arith
private_ends regions at (suc size) within h small = omega (arith, private_below regions at (suc size) size within h (omega arith))

all_from : (test : ℕ → Bool) (at size : ℕ) → ((more : ℕ) → more < size → test (at + more) ≡ true) → list_all test (range_with_len at size) ≡ true
all_from test at zero each = refl
all_from test at (suc size) each =
    let here : at + 0 ≡ at = omega arith in
    and_from _ _ (subst (λ (n : ℕ). test n ≡ true) here (each 0 (omega arith))) (
    all_from test (at + 1) size (
    λ more below.
    let next : at + suc more ≡ (at + 1) + more = omega arith in
    subst (λ (n : ℕ). test n ≡ true) next (each (suc more) (omega arith))
    )
    )

-- a part of a private range is private
pub private_part : (regions : List Region) (at size done left : ℕ) → is_private_range regions at size ≡ true → done + left ≤ size → is_private_range regions (at + done) left ≡ true
unfolding is_private_range
private_part regions at size done left h fits =
    all_from (is_private_address regions) (at + done) left (
    λ more below.
    let same : at + (done + more) ≡ (at + done) + more = omega arith in
    subst (λ (n : ℕ). is_private_address regions n ≡ true) same (all_in_range (is_private_address regions) size at (done + more) h (omega arith))
    )
