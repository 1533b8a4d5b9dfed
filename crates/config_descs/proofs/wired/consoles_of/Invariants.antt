use Rattle.std.proofs.Common.{◌≡◌, ◌++◌, drop}
use Rattle.std.specs.List.{filter_map}
use Rattle.hv_config.specs.declared.config.ChannelDef.{ChannelDef}
use Rattle.config_descs.proofs.wired.consoles_of.Given as goal

abbrev pub invariant-loop-channel : goal.invariant-loop-channel
invariant-loop-channel l = l.names ++ filter_map (λ (channel : ChannelDef). channel.console) (drop l.channel-index l.channels) ≡ filter_map (λ (channel : ChannelDef). channel.console) l.channels
