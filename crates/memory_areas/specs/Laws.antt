-- What the definitions mean over all regions and addresses.
use Rattle.std.specs.Prelude.{◌≡◌, ◌↔◌, ℕ, ◌+◌, ◌<◌, ◌≤◌, List, Some, IsTrue, Contains, slice_get}
use Rattle.machine_desc.specs.declared.desc.Region.{Region}
use Rattle.machine_desc.specs.Private.{is_private_range}
use Rattle.machine_desc.specs.Sound.{are_regions_sound}
use Rattle.memory_areas.specs.declared.place.Place.{Place}
use Rattle.memory_areas.specs.Place.{has_address, place_of, place_in, place_behind}

-- this one of the regions has the address
pub record HasIt (regions : List Region) (logical number : ℕ) (region : Region) : Type 0 where
  pub there : slice_get regions number ≡ Some region
  pub has : IsTrue (has_address logical region)

-- In a sound description at most one region has an address.
abbrev pub OneRegionHasIt : Type 0
OneRegionHasIt =
    (regions : List Region) (logical i j : ℕ) (region other : Region) → IsTrue (are_regions_sound regions) →
    HasIt regions logical i region → HasIt regions logical j other → i ≡ j

-- So whichever region has an address, its place is in that one.
abbrev pub ItsRegionGivesThePlace : Type 0
ItsRegionGivesThePlace =
    (regions : List Region) (logical number : ℕ) (region : Region) → IsTrue (are_regions_sound regions) →
    HasIt regions logical number region → place_in regions logical ≡ Some (place_of logical region)

-- The order of the regions doesn't matter.
abbrev pub OrderIsFree : Type 0
OrderIsFree =
    (regions others : List Region) (logical : ℕ) → IsTrue (are_regions_sound regions) →
    ((region : Region) → Contains regions region ↔ Contains others region) → place_in others logical ≡ place_in regions logical

-- The place of an address is that in one of the regions that have it.
abbrev pub PlacesAreOfRegions : Type 0
PlacesAreOfRegions =
    (regions : List Region) (logical : ℕ) (place : Place) → place_in regions logical ≡ Some place →
    (number : ℕ) × (region : Region) × HasIt regions logical number region × (place ≡ place_of logical region)

-- A run has at least one byte.
abbrev pub RunsHaveBytes : Type 0
RunsHaveBytes = (regions : List Region) (logical : ℕ) (place : Place) → place_in regions logical ≡ Some place → 1 ≤ place.run

-- The addresses of a run have their places in its extent, one after another.
abbrev pub RunsGoOn : Type 0
RunsGoOn =
    (regions : List Region) (logical more : ℕ) (place : Place) → IsTrue (are_regions_sound regions) →
    place_in regions logical ≡ Some place → more < place.run → place_in regions (logical + more) ≡ Some (place_behind place more)

-- No two addresses of a sound description have their places at one byte.
abbrev pub OneAddressIsAtAByte : Type 0
OneAddressIsAtAByte =
    (regions : List Region) (logical other : ℕ) (place found : Place) → IsTrue (are_regions_sound regions) →
    place_in regions logical ≡ Some place → place_in regions other ≡ Some found → place.extent ≡ found.extent → place.at ≡ found.at →
    logical ≡ other

-- Each byte of a private range is in a private region.
abbrev pub PrivateBytesAreInRegions : Type 0
PrivateBytesAreInRegions =
    (regions : List Region) (logical size more : ℕ) → IsTrue (is_private_range regions logical size) → more < size →
    (number : ℕ) × (region : Region) × HasIt regions (logical + more) number region × IsTrue region.private
