use Rattle.std.proofs.Common.{◌≡◌, drop}
use Rattle.machine_desc.specs.Joined.{are_handles_joined_from}
use Rattle.machine_desc.proofs.joint.are_ports_joined.Given as goal

abbrev pub invariant-loop-i : goal.invariant-loop-i
invariant-loop-i l = are_handles_joined_from l.descs l.wiring l.i (drop l.i l.descs) ≡ are_handles_joined_from l.descs l.wiring 0 l.descs
