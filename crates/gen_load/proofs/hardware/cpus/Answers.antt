use Rattle.std.proofs.Common.{[]}
use Rattle.dt_make.proofs.Made.{nodes_more}
use Rattle.gen_load.specs.Tokens.{cpu_tokens}
use Rattle.gen_load.proofs.hardware.cpus.Goals as goal

pub loop-number-preserved : goal.loop-number-preserved
loop-number-preserved c =
    nodes_more cpu_tokens [] c.loop-number.nodes.items c.push.new.self.items c.in_ok-cpu.field-0 c.loop-number.number c.loop-number.invariant
    c.in_ok-push.ensures.items c.in_ok-cpu.ensures
