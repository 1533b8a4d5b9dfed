use Rattle.std.proofs.Common.{length, ap, arith}
use Rattle.partition.proofs.Levels.{few_ports}
use Rattle.partition.proofs.interrupts.interrupt_count.Goals as goal

pub overflow_add-count : goal.overflow_add-count
overflow_add-count c =
    omega (arith, few_ports c.args.desc.now c.requires, ap (λ ports. length ports) c.as_slice-port-items.ensures, c.loop-port.invariant.1, c.loop-port-test.true, c.count_of-count.ensures.few)

pub returns-clause-few : goal.returns-clause-few
returns-clause-few c =
    omega (arith, few_ports c.args.desc.now c.requires, ap (λ ports. length ports) c.as_slice-port-items.ensures, c.loop-port.invariant.1, c.loop-port.auto.port-index-end)
