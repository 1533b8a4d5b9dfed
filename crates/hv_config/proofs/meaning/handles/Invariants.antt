use Rattle.std.proofs.Common.{◌≡◌, take, map}
use Rattle.hv_config.specs.Meaning.{handle_def}
use Rattle.hv_config.proofs.meaning.handles.Given as goal

abbrev pub invariant-loop-node : goal.invariant-loop-node
invariant-loop-node l = l.defs ≡ map handle_def (take l.node-index l.nodes)
