-- C5: names that are too long or reserved, or that name nothing.
use Rattle.std.specs.Prelude.{ℕ, Bool, ◌||◌, not, nat_lt, if◌then◌else◌, List, [], length, codes, find, Option, Some}
use Rattle.std.specs.Option.{option_map}
use Rattle.std.specs.Str.{bytes_eq}
use Rattle.hv_config.specs.declared.config.AreaDef.{AreaDef}
use Rattle.hv_config.specs.declared.config.ChannelDef.{ChannelDef}
use Rattle.hv_config.specs.declared.config.BellDef.{BellDef}
use Rattle.hv_config.specs.declared.config.GuestAreaDef.{GuestAreaDef}
use Rattle.hv_config.specs.declared.config.HandleDef.{HandleDef}
use Rattle.hv_config.specs.declared.config.PartDef.{PartDef}
use Rattle.hv_config.specs.declared.config.Config.{Config}
use Rattle.config_checks.specs.Limits.{longest_name}
use Rattle.config_checks.specs.Spot.{Spot, area_spot, channel_spot, bell_spot, part_spot, first_inner, earlier, placed}
use Rattle.config_checks.specs.First.{first_from}
use Rattle.config_checks.specs.Found.{has_area, has_target}

abbrev pub is_long : List ℕ → Bool
is_long name = nat_lt longest_name (length name)

-- words that lines of the program begin with, or that stand for a partition in one
abbrev pub is_reserved : List ℕ → Bool
is_reserved name =
    bytes_eq name (codes "end") || bytes_eq name (codes "console") || bytes_eq name (codes "refused")
    || bytes_eq name (codes "core") || bytes_eq name (codes "page") || bytes_eq name (codes "gen")
    || bytes_eq name (codes "accepted") || bytes_eq name (codes "self")

-- ---- in a partition

abbrev pub is_misnamed_guest : List AreaDef → GuestAreaDef → Bool
is_misnamed_guest areas guest = is_long guest.name || not (has_area areas guest.area)

abbrev pub is_misnamed_handle : Config → HandleDef → Bool
is_misnamed_handle config handle = is_long handle.name || not (has_target config handle.kind handle.target)

abbrev pub is_misnamed_part : PartDef → Bool
is_misnamed_part part = is_long part.name || is_reserved part.name

-- the partition itself, or else the first such node of its two lists
abbrev pub misnamed_in : Config → List PartDef → PartDef → Option Spot
misnamed_in config before part =
    if is_misnamed_part part then Some (part_spot part)
    else first_inner part (find (is_misnamed_guest config.areas) part.areas) (find (is_misnamed_handle config) part.handles)

-- ---- in each list

unfoldable pub misnamed_area : List AreaDef → Option Spot
misnamed_area areas = option_map area_spot (find (λ (area : AreaDef). is_long area.name) areas)

unfoldable pub misnamed_channel : List ChannelDef → Option Spot
misnamed_channel channels = option_map channel_spot (find (λ (channel : ChannelDef). is_long channel.name) channels)

unfoldable pub misnamed_bell : List BellDef → Option Spot
misnamed_bell bells = option_map bell_spot (find (λ (bell : BellDef). is_long bell.name) bells)

unfoldable pub misnamed_part : Config → List PartDef → Option Spot
misnamed_part config parts = first_from (misnamed_in config) [] parts

-- ---- the rule

unfoldable pub misnamed : Config → Option Spot
misnamed config =
    earlier (placed config.areas_at (misnamed_area config.areas))
    (earlier (placed config.channels_at (misnamed_channel config.channels))
    (earlier (placed config.bells_at (misnamed_bell config.bells)) (placed config.parts_at (misnamed_part config config.parts))))
