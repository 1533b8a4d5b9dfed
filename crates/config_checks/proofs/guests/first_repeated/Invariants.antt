use Rattle.std.proofs.Common.{◌≡◌, [], take, drop}
use Rattle.config_checks.specs.First.{first_meeting}
use Rattle.config_checks.specs.Guests.{same_area}
use Rattle.config_checks.proofs.guests.first_repeated.Given as goal

abbrev pub invariant-loop-i : goal.invariant-loop-i
invariant-loop-i l = first_meeting same_area (take l.i l.guests) (drop l.i l.guests) ≡ first_meeting same_area [] l.guests
