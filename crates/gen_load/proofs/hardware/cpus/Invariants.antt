use Rattle.std.proofs.Common.{◌≡◌}
use Rattle.std.specs.List.{flat_map}
use Rattle.dt_model.specs.Node.{node_tokens}
use Rattle.gen_load.specs.Tokens.{all, cpu_tokens}
use Rattle.gen_load.proofs.hardware.cpus.Given as goal

abbrev pub invariant-loop-number : goal.invariant-loop-number
invariant-loop-number l = flat_map node_tokens l.nodes.items ≡ all cpu_tokens l.number
