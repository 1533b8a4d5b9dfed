use Rattle.std.proofs.Common.{◌≡◌, [], take, drop}
use Rattle.config_checks.specs.First.{first_from}
use Rattle.config_checks.specs.Cores.{taking_at}
use Rattle.config_checks.proofs.cores.taking_part.Given as goal

abbrev pub invariant-loop-i : goal.invariant-loop-i
invariant-loop-i l = first_from taking_at (take l.i l.parts) (drop l.i l.parts) ≡ first_from taking_at [] l.parts
