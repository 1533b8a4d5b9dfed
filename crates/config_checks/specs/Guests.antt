-- C12 to C14: areas in the memory of a partition.
use Rattle.std.specs.Prelude.{◌+◌, ◌%◌, Bool, ◌||◌, not, nat_lt, ◌==◌, List, [], find, Option}
use Rattle.std.specs.Option.{option_map}
use Rattle.std.specs.Str.{bytes_eq}
use Rattle.hv_config.specs.declared.config.AreaDef.{AreaDef}
use Rattle.hv_config.specs.declared.config.GuestAreaDef.{GuestAreaDef}
use Rattle.hv_config.specs.declared.config.PartDef.{PartDef}
use Rattle.hv_config.specs.declared.config.Config.{Config}
use Rattle.machine_desc.specs.Limits.{page_size, address_end}
use Rattle.machine_desc.specs.Ranges.{ranges_meet}
use Rattle.config_checks.specs.Spot.{Spot, guest_spot}
use Rattle.config_checks.specs.First.{first_meeting, first_from}
use Rattle.config_checks.specs.Found.{size_of}

-- C12: it doesn't begin at a page, or goes past the end of all addresses
abbrev pub is_misplaced : List AreaDef → GuestAreaDef → Bool
is_misplaced areas guest = not (guest.at % page_size == 0) || nat_lt address_end (guest.at + size_of areas guest.area)

abbrev pub misplaced_in : List AreaDef → List PartDef → PartDef → Option Spot
misplaced_in areas before part = option_map (guest_spot part) (find (is_misplaced areas) part.areas)

unfoldable pub misplaced_guest : Config → Option Spot
misplaced_guest config = first_from (misplaced_in config.areas) [] config.parts

abbrev pub guests_meet : List AreaDef → GuestAreaDef → GuestAreaDef → Bool
guests_meet areas guest other = ranges_meet guest.at (size_of areas guest.area) other.at (size_of areas other.area)

-- C13: it has an address of an earlier one of the partition
abbrev pub overlapping_in : List AreaDef → List PartDef → PartDef → Option Spot
overlapping_in areas before part = option_map (guest_spot part) (first_meeting (guests_meet areas) [] part.areas)

unfoldable pub overlapping_guest : Config → Option Spot
overlapping_guest config = first_from (overlapping_in config.areas) [] config.parts

abbrev pub same_area : GuestAreaDef → GuestAreaDef → Bool
same_area guest other = bytes_eq guest.area other.area

-- C14: an earlier one of the partition maps the same area
abbrev pub repeated_in : List PartDef → PartDef → Option Spot
repeated_in before part = option_map (guest_spot part) (first_meeting same_area [] part.areas)

unfoldable pub repeated_guest : List PartDef → Option Spot
repeated_guest parts = first_from repeated_in [] parts
