-- Where a logical address lies in real memory.
use Rattle.std.specs.Prelude.{ℕ, ◌+◌, ◌-◌, ◌^◌, ◌<◌, ◌≤◌, Bool, ◌&&◌, nat_le, nat_lt, List, Option, find}
use Rattle.std.specs.Option.{option_map}
use Rattle.machine_desc.specs.declared.desc.Region.{Region}
use Rattle.machine_desc.specs.Limits.{address_end}
use Rattle.machine_desc.specs.Private.{region_end}
use Rattle.memory_areas.specs.declared.place.Place.{Place}

-- the region has the address
abbrev pub has_address : ℕ → Region → Bool
has_address logical region = nat_le region.logical logical && nat_lt logical (region_end region)

-- The place of an address in its region: as far from the start of the region's extent as the address is from the start of the
-- region, with as many bytes from there on as there are to the region's end.
abbrev pub place_of : ℕ → Region → Place
place_of logical region =
    record {
      extent = region.extent;
      at = logical - region.logical;
      run = region_end region - logical;
      real = region.real + (logical - region.logical);
    }

-- the place in the first region that has the address, and none where no region has it
unfoldable pub place_in : List Region → ℕ → Option Place
place_in regions logical = option_map (place_of logical) (find (has_address logical) regions)

-- the place of the byte that lies so many bytes behind
abbrev pub place_behind : Place → ℕ → Place
place_behind place more =
    record { extent = place.extent; at = place.at + more; run = place.run - more; real = place.real + more }

-- What is sure of the place of an address: some bytes are there, all their addresses, logical and real, are below the end of
-- all addresses, and their offsets below 2^32.
pub record IsBounded (logical : ℕ) (place : Place) : Type 0 where
  pub some : 1 ≤ place.run
  pub logical_end : logical + place.run ≤ address_end
  pub real_end : place.real + place.run ≤ address_end
  pub offset_end : place.at + place.run < 2 ^ 32
