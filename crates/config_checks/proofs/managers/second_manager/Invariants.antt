use Rattle.std.proofs.Common.{◌≡◌, [], take, drop}
use Rattle.config_checks.specs.First.{first_from}
use Rattle.config_checks.specs.Managers.{second_in}
use Rattle.config_checks.proofs.managers.second_manager.Given as goal

abbrev pub invariant-loop-i : goal.invariant-loop-i
invariant-loop-i l = first_from second_in (take l.i l.parts) (drop l.i l.parts) ≡ first_from second_in [] l.parts
