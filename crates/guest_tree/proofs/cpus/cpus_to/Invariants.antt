use Rattle.std.proofs.Common.{◌≡◌}
use Rattle.std.specs.List.{flat_map, range_with_len}
use Rattle.hv_config.specs.declared.config.Config.{Config}
use Rattle.dt_model.specs.Node.{node_tokens}
use Rattle.config_descs.specs.Desc.{desc_of}
use Rattle.guest_tree.specs.Tokens.{cpu_tokens}
use Rattle.guest_tree.proofs.cpus.cpus_to.Given as goal

abbrev pub invariant-loop-core : goal.invariant-loop-core
invariant-loop-core l = (config : Config) → flat_map node_tokens l.nodes.items ≡ flat_map (cpu_tokens (desc_of config l.part)) (range_with_len 0 l.core)
