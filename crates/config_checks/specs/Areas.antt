-- C7 to C11: areas of real memory. Sums are those of whole numbers, which have no end.
use Rattle.std.specs.Prelude.{◌+◌, ◌%◌, Bool, ◌&&◌, ◌||◌, not, nat_lt, nat_le, ◌==◌, List, [], codes, find, Option, sum_by}
use Rattle.std.specs.List.{list_any}
use Rattle.std.specs.Option.{option_map}
use Rattle.hv_config.specs.declared.config.AreaDef.{AreaDef}
use Rattle.hv_config.specs.declared.board.Range.{Range}
use Rattle.machine_desc.specs.Limits.{most_bytes, page_size, address_end}
use Rattle.machine_desc.specs.Ranges.{ranges_meet}
use Rattle.config_checks.specs.Spot.{Spot, area_spot, list_spot}
use Rattle.config_checks.specs.First.{first_meeting, found_if}

-- C7: it isn't made of whole pages, or of none
abbrev pub is_ragged : AreaDef → Bool
is_ragged area = not (area.base % page_size == 0) || not (area.size % page_size == 0) || area.size == 0

unfoldable pub ragged_area : List AreaDef → Option Spot
ragged_area areas = option_map area_spot (find is_ragged areas)

-- C8: it goes past the end of all addresses
abbrev pub is_high : AreaDef → Bool
is_high area = nat_lt address_end (area.base + area.size)

unfoldable pub high_area : List AreaDef → Option Spot
high_area areas = option_map area_spot (find is_high areas)

-- the range has the whole area
abbrev pub has_whole : AreaDef → Range → Bool
has_whole area range = nat_le range.at area.base && nat_le (area.base + area.size) (range.at + range.size)

-- C9: no range of real memory has the whole of it
abbrev pub is_homeless : List Range → AreaDef → Bool
is_homeless memory area = not (list_any (has_whole area) memory)

unfoldable pub homeless_area : List Range → List AreaDef → Option Spot
homeless_area memory areas = option_map area_spot (find (is_homeless memory) areas)

abbrev pub areas_meet : AreaDef → AreaDef → Bool
areas_meet area other = ranges_meet area.base area.size other.base other.size

-- C10: it has an address of an earlier one
unfoldable pub overlapping_area : List AreaDef → Option Spot
overlapping_area areas = option_map area_spot (first_meeting areas_meet [] areas)

-- C11: all together are too large
unfoldable pub large_areas : List AreaDef → Option Spot
large_areas areas = found_if (nat_lt most_bytes (sum_by (λ (area : AreaDef). area.size) areas)) (list_spot 0 (codes "areas"))
