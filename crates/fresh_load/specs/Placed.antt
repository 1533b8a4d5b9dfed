-- Regions in real memory.
use Rattle.std.specs.Prelude.{◌≡◌, ℕ, Bool, true, false, ◌&&◌, nat_lt, ◌==◌, List, length, map, replicate}
use Rattle.std.specs.List.{list_all, list_any, All}
use Rattle.machine_desc.specs.declared.desc.Region.{Region}
use Rattle.ground.specs.Extents.{extent_at}

-- the region's extent is there, and has the region's size
abbrev pub is_placed : List (List ℕ) → Region → Bool
is_placed memory region = nat_lt region.extent (length memory) && length (extent_at memory region.extent) == region.size

abbrev pub ArePlaced : List (List ℕ) → List Region → Type 0
ArePlaced memory regions = list_all (is_placed memory) regions ≡ true

-- how many bytes each extent has
abbrev pub sizes_of : List (List ℕ) → List ℕ
sizes_of memory = map length memory

-- a private region has the extent
abbrev pub is_private_extent : List Region → ℕ → Bool
is_private_extent regions extent = list_any (λ (region : Region). region.private && region.extent == extent) regions

-- the extents of the regions, in their order
abbrev pub extents_of : List Region → List ℕ
extents_of regions = map (λ (region : Region). region.extent) regions

-- the shared regions have zeros
abbrev pub AreSharedZero : List (List ℕ) → List Region → Type 0
AreSharedZero memory regions = All (λ (region : Region). region.private ≡ false → extent_at memory region.extent ≡ replicate region.size 0) regions
