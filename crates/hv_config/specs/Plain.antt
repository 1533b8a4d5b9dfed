-- Configurations such as a tree that fits and breaks no rule says.
use Rattle.std.specs.Prelude.{◌≡◌, ℕ, Bool, true, ◌&&◌, nat_lt, List, [], map, length}
use Rattle.std.specs.List.{list_all}
use Rattle.std.specs.Option.{option_map_or}
use Rattle.dt_model.specs.Value.{is_text}
use Rattle.dt_model.specs.Kept.{are_apart}
use Rattle.hv_config.specs.declared.config.Config.{Config}
use Rattle.hv_config.specs.declared.config.AreaDef.{AreaDef}
use Rattle.hv_config.specs.declared.config.ChannelDef.{ChannelDef}
use Rattle.hv_config.specs.declared.config.BellDef.{BellDef}
use Rattle.hv_config.specs.declared.config.GuestAreaDef.{GuestAreaDef}
use Rattle.hv_config.specs.declared.config.HandleDef.{HandleDef}
use Rattle.hv_config.specs.declared.config.PartDef.{PartDef}

-- ---- the names of a list

abbrev pub area_names : List AreaDef → List (List ℕ)
area_names areas = map (λ (area : AreaDef). area.name) areas

abbrev pub channel_names : List ChannelDef → List (List ℕ)
channel_names channels = map (λ (channel : ChannelDef). channel.name) channels

abbrev pub bell_names : List BellDef → List (List ℕ)
bell_names bells = map (λ (bell : BellDef). bell.name) bells

abbrev pub part_names : List PartDef → List (List ℕ)
part_names parts = map (λ (part : PartDef). part.name) parts

abbrev pub guest_names : List GuestAreaDef → List (List ℕ)
guest_names guests = map (λ (guest : GuestAreaDef). guest.name) guests

abbrev pub handle_names : List HandleDef → List (List ℕ)
handle_names handles = map (λ (handle : HandleDef). handle.name) handles

-- ---- one definition

-- a console's name is a text, where there is one
abbrev pub is_plain_channel : ChannelDef → Bool
is_plain_channel channel = option_map_or is_text channel.console true

-- the area's name is a text
abbrev pub is_plain_guest : GuestAreaDef → Bool
is_plain_guest guest = is_text guest.area

-- the target's name is a text
abbrev pub is_plain_handle : HandleDef → Bool
is_plain_handle handle = is_text handle.target

-- It has a core, its image's name is a text, its boot arguments are one where it has any, and the names of its guest
-- areas and of its handles are legal and differ.
abbrev pub is_plain_part : PartDef → Bool
is_plain_part part =
    nat_lt 0 (length part.cpus) && is_text part.image && option_map_or is_text part.bootargs true
    && are_apart [] (guest_names part.areas) && list_all is_plain_guest part.areas
    && are_apart [] (handle_names part.handles) && list_all is_plain_handle part.handles

-- ---- the whole

-- In each list the names are legal and differ, and each definition is plain.
pub record IsPlain (config : Config) : Type 0 where
  pub areas : are_apart [] (area_names config.areas) ≡ true
  pub channels : are_apart [] (channel_names config.channels) ≡ true
  pub consoles : list_all is_plain_channel config.channels ≡ true
  pub bells : are_apart [] (bell_names config.bells) ≡ true
  pub parts : are_apart [] (part_names config.parts) ≡ true
  pub plain_parts : list_all is_plain_part config.parts ≡ true
