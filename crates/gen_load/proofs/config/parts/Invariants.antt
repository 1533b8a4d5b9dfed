use Rattle.std.proofs.Common.{◌≡◌}
use Rattle.std.specs.List.{flat_map}
use Rattle.dt_model.specs.Node.{node_tokens}
use Rattle.gen_load.specs.Tokens.{all, part_tokens}
use Rattle.gen_load.proofs.config.parts.Given as goal

abbrev pub invariant-loop-place : goal.invariant-loop-place
invariant-loop-place l = flat_map node_tokens l.nodes.items ≡ all (part_tokens l.count) l.place
