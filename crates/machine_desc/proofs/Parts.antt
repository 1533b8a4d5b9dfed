-- The parts of soundness.
use Rattle.std.proofs.Common.{◌≡◌, Bool, true, ◌&&◌, List, []}
use Rattle.std.specs.List.{list_all}
use Rattle.std.proofs.lemmas.Bool.{and_parts}
use Rattle.machine_desc.specs.declared.desc.Region.{Region}
use Rattle.machine_desc.specs.declared.desc.Desc.{Desc}
use Rattle.machine_desc.specs.Ranges.{none_meets}
use Rattle.machine_desc.specs.Sound.{is_aligned, has_bytes, is_within, have_address, have_extent, are_regions_sound, is_sound, IsSound}

-- what holds of sound regions
pub record HasParts (regions : List Region) : Type 0 where
  pub aligned : list_all is_aligned regions ≡ true
  pub bytes : list_all has_bytes regions ≡ true
  pub within : list_all is_within regions ≡ true
  pub apart : none_meets have_address [] regions ≡ true
  pub extents : none_meets have_extent [] regions ≡ true

pub regions_parts : (regions : List Region) → are_regions_sound regions ≡ true → HasParts regions
unfolding are_regions_sound
regions_parts regions h =
    let four = and_parts (list_all is_aligned regions && list_all has_bytes regions && list_all is_within regions && none_meets have_address [] regions) (none_meets have_extent [] regions) h in
    let three = and_parts (list_all is_aligned regions && list_all has_bytes regions && list_all is_within regions) (none_meets have_address [] regions) four.0 in
    let two = and_parts (list_all is_aligned regions && list_all has_bytes regions) (list_all is_within regions) three.0 in
    let one = and_parts (list_all is_aligned regions) (list_all has_bytes regions) two.0 in
    record { aligned = one.0; bytes = one.1; within = two.1; apart = three.1; extents = four.1 }

first_of_six : (a b c d e f : Bool) → (a && b && c && d && e && f) ≡ true → a ≡ true
first_of_six a b c d e f h = (and_parts a b (and_parts _ c (and_parts _ d (and_parts _ e (and_parts _ f h).0).0).0).0).0

-- the regions of a sound description are sound
pub sound_regions : (desc : Desc) → IsSound desc → are_regions_sound desc.regions ≡ true
unfolding is_sound
sound_regions desc h = first_of_six (are_regions_sound desc.regions) _ _ _ _ _ h
