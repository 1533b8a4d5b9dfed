use Rattle.std.proofs.Common.{◌≡◌, [], take, drop}
use Rattle.machine_desc.specs.Ranges.{none_meets}
use Rattle.machine_desc.specs.Joined.{same_number}
use Rattle.config_checks.proofs.cores.cores_differ.Given as goal

abbrev pub invariant-loop-i : goal.invariant-loop-i
invariant-loop-i l = none_meets same_number (take l.i l.cores) (drop l.i l.cores) ≡ none_meets same_number [] l.cores
