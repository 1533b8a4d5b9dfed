use Rattle.std.proofs.Common.{◌≡◌, ◌*◌, ◌≤◌, take}
use Rattle.partition.specs.Interrupts.{interrupt_count}
use Rattle.partition.proofs.interrupts.interrupt_count.Given as goal

abbrev pub invariant-loop-port : goal.invariant-loop-port
invariant-loop-port l = (l.count ≡ interrupt_count (take l.port-index l.port-items)) × (l.count ≤ 2 * l.port-index)
