-- The regions of a partition as its machine knows them: where they lie in its logical memory, and nothing of real memory.
use Rattle.std.specs.Prelude.{ℕ, ◌-◌, Bool, false, ◌&&◌, nat_le, nat_lt, List, map, Option, slice_index_or}
use Rattle.std.specs.List.{position}
use Rattle.machine_desc.specs.declared.desc.Region.{Region}

pub record Area : Type 0 where
  -- the logical address of its first byte
  pub logical : ℕ
  -- in bytes
  pub size : ℕ
  -- whether no other partition has it
  pub private : Bool

-- no region, for where a list has none
abbrev pub blank : Area
blank = record { logical = 0; size = 0; private = false }

abbrev pub area_at : List Area → ℕ → Area
area_at areas place = slice_index_or areas place blank

abbrev pub covers : ℕ → Area → Bool
covers logical area = nat_le area.logical logical && nat_lt (logical - area.logical) area.size

-- the region that has a logical address, by its place among the regions
abbrev pub area_with : List Area → ℕ → Option ℕ
area_with areas logical = position (covers logical) areas

-- a described region, without its extent and its real address
abbrev pub area_of : Region → Area
area_of region = record { logical = region.logical; size = region.size; private = region.private }

abbrev pub areas_of : List Region → List Area
areas_of regions = map area_of regions
