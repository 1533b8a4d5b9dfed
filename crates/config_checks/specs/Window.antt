-- C18: the window for a partition's device tree.
use Rattle.std.specs.Prelude.{◌+◌, ◌%◌, Bool, ◌&&◌, ◌||◌, not, nat_lt, nat_le, ◌==◌, find, Option}
use Rattle.std.specs.List.{list_any}
use Rattle.std.specs.Option.{option_map}
use Rattle.hv_config.specs.declared.config.GuestAreaDef.{GuestAreaDef}
use Rattle.hv_config.specs.declared.config.PartDef.{PartDef}
use Rattle.hv_config.specs.declared.config.Config.{Config}
use Rattle.machine_desc.specs.Limits.{page_size, mapped_end}
use Rattle.config_checks.specs.Limits.{largest_window}
use Rattle.config_checks.specs.Spot.{Spot, part_spot}
use Rattle.config_checks.specs.Found.{size_of, is_private}

-- the whole window is in the guest area, which is private
abbrev pub holds_window : Config → PartDef → GuestAreaDef → Bool
holds_window config part guest =
    nat_le guest.at part.tree_at
    && nat_le (part.tree_at + part.tree_size) (guest.at + size_of config.areas guest.area)
    && is_private config.parts guest.area

-- it isn't made of whole pages, or of none; is too large; ends past the area that is mapped as the partition starts; or
-- is in no private guest area as a whole
abbrev pub is_windowless : Config → PartDef → Bool
is_windowless config part =
    not (part.tree_at % page_size == 0) || not (part.tree_size % page_size == 0) || part.tree_size == 0
    || nat_lt largest_window part.tree_size || nat_lt mapped_end (part.tree_at + part.tree_size)
    || not (list_any (holds_window config part) part.areas)

unfoldable pub windowless_part : Config → Option Spot
windowless_part config = option_map part_spot (find (is_windowless config) config.parts)
