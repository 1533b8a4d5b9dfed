use Rattle.std.proofs.Common.{◌≡◌, [], take, drop}
use Rattle.config_checks.specs.First.{first_meeting}
use Rattle.config_checks.specs.Guests.{guests_meet}
use Rattle.config_checks.proofs.guests.first_overlapping.Given as goal

abbrev pub invariant-loop-i : goal.invariant-loop-i
invariant-loop-i l =
    first_meeting (guests_meet l.areas) (take l.i l.guests) (drop l.i l.guests) ≡ first_meeting (guests_meet l.areas) [] l.guests
