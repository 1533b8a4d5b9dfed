use Rattle.std.proofs.Common.{◌≡◌, drop}
use Rattle.machine_desc.specs.Joined.{are_managers_right}
use Rattle.machine_desc.proofs.managers.are_managers_right.Given as goal

abbrev pub invariant-loop-i : goal.invariant-loop-i
invariant-loop-i l = are_managers_right l.descs l.i (drop l.i l.managers) ≡ are_managers_right l.descs 0 l.managers
