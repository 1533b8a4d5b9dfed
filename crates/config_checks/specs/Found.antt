-- What a configuration's names name.
use Rattle.std.specs.Prelude.{ℕ, Bool, ◌==◌, List, count_by, find, Option}
use Rattle.std.specs.List.{list_any}
use Rattle.std.specs.Option.{option_map_or}
use Rattle.std.specs.Str.{bytes_eq}
use Rattle.hv_config.specs.declared.form.Kind.{Kind}
use Rattle.hv_config.specs.declared.form.Kind.TheVariants.{Channel, Send, Receive, Manage}
use Rattle.hv_config.specs.declared.config.AreaDef.{AreaDef}
use Rattle.hv_config.specs.declared.config.ChannelDef.{ChannelDef}
use Rattle.hv_config.specs.declared.config.BellDef.{BellDef}
use Rattle.hv_config.specs.declared.config.GuestAreaDef.{GuestAreaDef}
use Rattle.hv_config.specs.declared.config.PartDef.{PartDef}
use Rattle.hv_config.specs.declared.config.Config.{Config}

-- ---- by name

abbrev pub is_area : List ℕ → AreaDef → Bool
is_area name area = bytes_eq area.name name

abbrev pub has_area : List AreaDef → List ℕ → Bool
has_area areas name = list_any (is_area name) areas

abbrev pub area_named : List AreaDef → List ℕ → Option AreaDef
area_named areas name = find (is_area name) areas

-- the area's size in bytes, and 0 where there is no such area
abbrev pub size_of : List AreaDef → List ℕ → ℕ
size_of areas name = option_map_or (λ (area : AreaDef). area.size) (area_named areas name) 0

abbrev pub has_channel : List ChannelDef → List ℕ → Bool
has_channel channels name = list_any (λ (channel : ChannelDef). bytes_eq channel.name name) channels

abbrev pub has_bell : List BellDef → List ℕ → Bool
has_bell bells name = list_any (λ (bell : BellDef). bytes_eq bell.name name) bells

abbrev pub is_part : List ℕ → PartDef → Bool
is_part name part = bytes_eq part.name name

abbrev pub has_part : List PartDef → List ℕ → Bool
has_part parts name = list_any (is_part name) parts

-- there is something of that name such as a handle of the kind stands for
abbrev pub has_target : Config → Kind → List ℕ → Bool
has_target config Channel name = has_channel config.channels name
has_target config Send name = has_bell config.bells name
has_target config Receive name = has_bell config.bells name
has_target config Manage name = has_part config.parts name

-- ---- who maps an area

abbrev pub is_mapped_by : List ℕ → GuestAreaDef → Bool
is_mapped_by name guest = bytes_eq guest.area name

-- the partition maps the area
abbrev pub maps : List ℕ → PartDef → Bool
maps name part = list_any (is_mapped_by name) part.areas

-- exactly one partition maps it
abbrev pub is_private : List PartDef → List ℕ → Bool
is_private parts name = count_by (maps name) parts == 1
