use Rattle.std.proofs.Common.{[]}
use Rattle.guest_tree.specs.Tokens.{cpu_tokens}
use Rattle.config_descs.specs.Desc.{desc_of}
use Rattle.dt_make.proofs.Made.{nodes_more}
use Rattle.guest_tree.proofs.cpus.cpus_to.Goals as goal

pub loop-core-preserved : goal.loop-core-preserved
loop-core-preserved c = λ config.
    nodes_more (cpu_tokens (desc_of config c.args.part.now)) [] c.loop-core.nodes.items c.push.new.self.items c.in_ok-cpu.field-0 c.loop-core.core (c.loop-core.invariant config) c.in_ok-push.ensures.items (c.in_ok-cpu.ensures config)
