use Rattle.std.proofs.Common.{◌≡◌, take, map}
use Rattle.hv_config.specs.Meaning.{part_def}
use Rattle.hv_config.proofs.meaning.parts.Given as goal

abbrev pub invariant-loop-node : goal.invariant-loop-node
invariant-loop-node l = l.defs ≡ map part_def (take l.node-index l.nodes)
