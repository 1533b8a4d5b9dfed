-- C19 and C20: the ends of channels, and consoles.
use Rattle.std.specs.Prelude.{ℕ, ◌+◌, Bool, true, false, ◌&&◌, ◌||◌, not, nat_le, ◌==◌, is_some, if◌then◌else◌, List, [], count_by, sum_by, find, Option}
use Rattle.std.specs.List.{list_any, list_all}
use Rattle.std.specs.Option.{option_map, option_map_or}
use Rattle.std.specs.Str.{bytes_eq}
use Rattle.hv_config.specs.declared.form.Kind.{Kind}
use Rattle.hv_config.specs.declared.form.Kind.TheVariants.{Channel}
use Rattle.hv_config.specs.declared.config.ChannelDef.{ChannelDef}
use Rattle.hv_config.specs.declared.config.HandleDef.{HandleDef}
use Rattle.hv_config.specs.declared.config.PartDef.{PartDef}
use Rattle.config_checks.specs.Spot.{Spot, channel_spot}
use Rattle.config_checks.specs.First.{first_from, found_if}
use Rattle.config_checks.specs.Names.{is_long}

-- ---- C19

abbrev pub is_channel : Kind → Bool
is_channel Channel = true
is_channel _ = false

-- the handle is an end of the channel with that name
abbrev pub is_end_of : List ℕ → HandleDef → Bool
is_end_of name handle = is_channel handle.kind && bytes_eq handle.target name

-- how many ends the partition has
abbrev pub ends_in : List ℕ → PartDef → ℕ
ends_in name part = count_by (is_end_of name) part.handles

-- how many there are, a console among them
abbrev pub ends_of : List PartDef → ChannelDef → ℕ
ends_of parts channel = sum_by (ends_in channel.name) parts + (if is_some channel.console then 1 else 0)

abbrev pub has_both : List ℕ → PartDef → Bool
has_both name part = ends_in name part == 2

-- it hasn't two ends, or both are in one partition
abbrev pub is_loose : List PartDef → ChannelDef → Bool
is_loose parts channel = not (ends_of parts channel == 2) || list_any (has_both channel.name) parts

unfoldable pub loose_channel : List PartDef → List ChannelDef → Option Spot
loose_channel parts channels = option_map channel_spot (find (is_loose parts) channels)

-- ---- C20

-- a to z, 0 to 9, _ and -
abbrev pub is_console_char : ℕ → Bool
is_console_char byte = (nat_le 0x61 byte && nat_le byte 0x7a) || (nat_le 0x30 byte && nat_le byte 0x39) || byte == 0x5f || byte == 0x2d

abbrev pub has_console : List ℕ → ChannelDef → Bool
has_console name channel = option_map_or (λ console. bytes_eq console name) channel.console false

abbrev pub is_bad_console : List ChannelDef → List ℕ → Bool
is_bad_console before name = is_long name || not (list_all is_console_char name) || list_any (has_console name) before

-- its console's name is too long, has another character, or is that of an earlier channel's console
abbrev pub is_misprinting : List ChannelDef → ChannelDef → Bool
is_misprinting before channel = option_map_or (is_bad_console before) channel.console false

abbrev pub misprinting_at : List ChannelDef → ChannelDef → Option Spot
misprinting_at before channel = found_if (is_misprinting before channel) (channel_spot channel)

unfoldable pub misprinting_channel : List ChannelDef → Option Spot
misprinting_channel channels = first_from misprinting_at [] channels
