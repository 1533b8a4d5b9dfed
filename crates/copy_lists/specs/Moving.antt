-- Bytes of partitions in real memory, read and written by their logical addresses.
use Rattle.std.specs.Prelude.{◌≡◌, ℕ, ◌+◌, ◌-◌, true, false, ◌&&◌, cond, nat_le, nat_lt, ◌==◌, List, [], ◌∷◌, length, map, find, slice_index, Option, Some, None}
use Rattle.std.specs.List.{list_all, range_with_len}
use Rattle.std.specs.Option.{option_map_or}
use Rattle.machine_desc.specs.declared.desc.Region.{Region}
use Rattle.machine_desc.specs.Private.{is_private_range}
use Rattle.memory_areas.specs.declared.place.Place.{Place}
use Rattle.memory_areas.specs.Place.{place_in}
use Rattle.ground.specs.Extents.{extent_at}
use Rattle.machine_desc.specs.Sound.{are_regions_sound}
use Rattle.fresh_load.specs.Placed.{ArePlaced, is_private_extent}
use Rattle.copy_lists.specs.declared.list.SgEntry.{SgEntry}
use Rattle.copy_lists.specs.Lists.{is_entry_private}

-- ---- reading

abbrev pub byte_of : List (List ℕ) → Place → ℕ
byte_of memory place = slice_index (extent_at memory place.extent) place.at

-- the byte at a logical address, by the region that has it; 0 where none has
unfoldable pub byte_in : List Region → List (List ℕ) → ℕ → ℕ
byte_in regions memory at = option_map_or (byte_of memory) (place_in regions at) 0

-- so many bytes from a logical address on
abbrev pub bytes_in : List Region → List (List ℕ) → ℕ → ℕ → List ℕ
bytes_in regions memory at size = map (byte_in regions memory) (range_with_len at size)

-- ---- writing

-- the byte at an address, once these bytes stand at the addresses from `at` on
abbrev pub byte_put : ℕ → List ℕ → ℕ → ℕ → ℕ
byte_put at bytes address old = cond (nat_le at address && nat_lt address (at + length bytes)) (slice_index bytes (address - at)) old

-- the bytes of an extent, once these bytes stand at the addresses from `at` on of the private region that has it
abbrev pub extent_put : ℕ → List ℕ → Option Region → List ℕ → List ℕ
extent_put at bytes None old = old
extent_put at bytes (Some region) old = map (λ n. byte_put at bytes (region.logical + n) (slice_index old n)) (range_with_len 0 (length old))

-- the private region that has the extent
abbrev pub region_over : List Region → ℕ → Option Region
region_over regions extent = find (λ (region : Region). region.private && region.extent == extent) regions

-- The memory, once these bytes stand at the addresses from `at` on in the private regions. No other byte changes.
unfoldable pub put : List Region → List (List ℕ) → ℕ → List ℕ → List (List ℕ)
put regions memory at bytes =
    map (λ extent. extent_put at bytes (region_over regions extent) (extent_at memory extent)) (range_with_len 0 (length memory))

-- ---- copying

-- the memory after the bytes of an entry were copied
abbrev pub entry_copied : List Region → List Region → List (List ℕ) → SgEntry → List (List ℕ)
entry_copied from to memory entry = put to memory entry.target (bytes_in from memory entry.source entry.size)

-- the memory after the entries were copied, each as those before it left the bytes
abbrev pub copied : List Region → List Region → List SgEntry → List (List ℕ) → List (List ℕ)
copied from to [] memory = memory
copied from to (entry ∷ entries) memory = copied from to entries (entry_copied from to memory entry)

-- no private region of the one has an extent of a private region of the other
abbrev pub AreApart : List Region → List Region → Type 0
AreApart from to = (extent : ℕ) → is_private_extent from extent ≡ true → is_private_extent to extent ≡ false

-- each entry reads private bytes of the one, and writes private bytes of the other
abbrev pub AreCopiable : List Region → List Region → List SgEntry → Type 0
AreCopiable from to entries = list_all (is_entry_private (is_private_range from) (is_private_range to)) entries ≡ true

-- What must hold of the regions of both partitions: each partition's own are sound and in memory, and no byte is private to both.
pub record AreasFit (from to : List Region) (memory : List (List ℕ)) : Type 0 where
  pub from_sound : are_regions_sound from ≡ true
  pub to_sound : are_regions_sound to ≡ true
  pub from_placed : ArePlaced memory from
  pub to_placed : ArePlaced memory to
  pub apart : AreApart from to
