use Rattle.std.proofs.Common.{◌≡◌, [], take, drop}
use Rattle.config_checks.specs.First.{first_from}
use Rattle.config_checks.specs.Managers.{second_at}
use Rattle.config_checks.proofs.managers.first_second.Given as goal

abbrev pub invariant-loop-i : goal.invariant-loop-i
invariant-loop-i l =
    first_from (second_at l.parts l.part) (take l.i l.handles) (drop l.i l.handles) ≡ first_from (second_at l.parts l.part) [] l.handles
