-- What is private to a partition.
use Rattle.std.specs.Prelude.{ℕ, ◌+◌, Bool, ◌&&◌, nat_le, nat_lt, List}
use Rattle.std.specs.List.{list_any, list_all, range_with_len}
use Rattle.machine_desc.specs.declared.desc.Region.{Region}

-- the first address behind the region
abbrev pub region_end : Region → ℕ
region_end region = region.logical + region.size

-- the address is in the region, which is private
abbrev pub holds_privately : ℕ → Region → Bool
holds_privately address region = region.private && nat_le region.logical address && nat_lt address (region_end region)

-- the address is in some private region
abbrev pub is_private_address : List Region → ℕ → Bool
is_private_address regions address = list_any (holds_privately address) regions

-- Each of so many addresses from this one on is in a private region, in the same one or not. A range without addresses is private.
unfoldable pub is_private_range : List Region → ℕ → ℕ → Bool
is_private_range regions at size = list_all (is_private_address regions) (range_with_len at size)
