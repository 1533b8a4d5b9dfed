use Rattle.std.proofs.Common.{◌≡◌, ◌+◌, drop}
use Rattle.machine_desc.specs.Joined.{are_handles_joined}
use Rattle.machine_desc.proofs.joint.are_handles_joined.Given as goal

abbrev pub invariant-loop-i : goal.invariant-loop-i
invariant-loop-i l = are_handles_joined l.descs l.wiring l.part (l.i + 1) (drop l.i l.ports) ≡ are_handles_joined l.descs l.wiring l.part 1 l.ports
