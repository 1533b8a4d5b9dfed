use Rattle.std.proofs.Common.{◌≡◌, take, map}
use Rattle.hv_config.specs.Meaning.{channel_def}
use Rattle.hv_config.proofs.meaning.channels.Given as goal

abbrev pub invariant-loop-node : goal.invariant-loop-node
invariant-loop-node l = l.defs ≡ map channel_def (take l.node-index l.nodes)
