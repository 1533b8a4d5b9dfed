-- C6: lists that are too long.
use Rattle.std.specs.Prelude.{nat_lt, if◌then◌else◌, List, [], length, codes, Option, Some}
use Rattle.hv_config.specs.declared.config.AreaDef.{AreaDef}
use Rattle.hv_config.specs.declared.config.ChannelDef.{ChannelDef}
use Rattle.hv_config.specs.declared.config.BellDef.{BellDef}
use Rattle.hv_config.specs.declared.config.PartDef.{PartDef}
use Rattle.hv_config.specs.declared.config.Config.{Config}
use Rattle.machine_desc.specs.Limits.{most_partitions, most_regions, most_handles}
use Rattle.config_checks.specs.Limits.{most_areas, most_channels, most_bells}
use Rattle.config_checks.specs.Spot.{Spot, list_spot, first_list, earlier, placed}
use Rattle.config_checks.specs.First.{first_from, found_if}

unfoldable pub many_areas : List AreaDef → Option Spot
many_areas areas = found_if (nat_lt most_areas (length areas)) (list_spot 0 (codes "areas"))

unfoldable pub many_channels : List ChannelDef → Option Spot
many_channels channels = found_if (nat_lt most_channels (length channels)) (list_spot 0 (codes "channels"))

unfoldable pub many_bells : List BellDef → Option Spot
many_bells bells = found_if (nat_lt most_bells (length bells)) (list_spot 0 (codes "doorbells"))

-- one of the partition's two lists
abbrev pub many_in : List PartDef → PartDef → Option Spot
many_in before part = first_list part (nat_lt most_regions (length part.areas)) (nat_lt most_handles (length part.handles))

-- the list of partitions itself, or else the first in a partition
unfoldable pub many_parts : List PartDef → Option Spot
many_parts parts = if nat_lt most_partitions (length parts) then Some (list_spot 0 (codes "partitions")) else first_from many_in [] parts

-- ---- the rule

unfoldable pub too_many : Config → Option Spot
too_many config =
    earlier (placed config.areas_at (many_areas config.areas))
    (earlier (placed config.channels_at (many_channels config.channels))
    (earlier (placed config.bells_at (many_bells config.bells)) (placed config.parts_at (many_parts config.parts))))
