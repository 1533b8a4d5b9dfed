use Rattle.std.proofs.Common.{◌≡◌, replicate}
use Rattle.byte_channel.specs.Waiting.{empty_channel}
use Rattle.system.proofs.wiring.empty_channels.Given as goal

abbrev pub invariant-loop-link : goal.invariant-loop-link
invariant-loop-link l = l.channels.items ≡ replicate l._link empty_channel
