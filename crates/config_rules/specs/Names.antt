-- What the names of an accepted configuration are, as far as lines of text are concerned.
use Rattle.std.specs.Prelude.{◌≡◌, Bool, true, not}
use Rattle.std.specs.List.{list_all}
use Rattle.std.specs.Option.{option_map_or}
use Rattle.hv_config.specs.declared.config.ChannelDef.{ChannelDef}
use Rattle.hv_config.specs.declared.config.PartDef.{PartDef}
use Rattle.hv_config.specs.declared.config.Config.{Config}
use Rattle.config_checks.specs.Names.{is_reserved}
use Rattle.config_checks.specs.Channels.{is_console_char}

-- no line of the program begins with it
abbrev pub is_free_name : PartDef → Bool
is_free_name part = not (is_reserved part.name)

-- a console's name, where there is one, has few characters to choose from, and no blank among them
abbrev pub has_plain_console : ChannelDef → Bool
has_plain_console channel = option_map_or (list_all is_console_char) channel.console true

pub record KeepsNames (config : Config) : Type 0 where
  pub parts : list_all is_free_name config.parts ≡ true
  pub consoles : list_all has_plain_console config.channels ≡ true
