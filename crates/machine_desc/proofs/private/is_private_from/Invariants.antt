use Rattle.std.proofs.Common.{◌≡◌, ◌-◌}
use Rattle.machine_desc.specs.Private.{is_private_range}
use Rattle.machine_desc.proofs.private.is_private_from.Given as goal

abbrev pub invariant-loop-next : goal.invariant-loop-next
invariant-loop-next l = is_private_range l.regions l.next (l.end - l.next) ≡ is_private_range l.regions l.at l.size

abbrev pub decreases-loop-next : goal.decreases-loop-next
decreases-loop-next l = l.end - l.next
