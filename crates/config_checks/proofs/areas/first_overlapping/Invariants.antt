use Rattle.std.proofs.Common.{◌≡◌, [], take, drop}
use Rattle.config_checks.specs.First.{first_meeting}
use Rattle.config_checks.specs.Areas.{areas_meet}
use Rattle.config_checks.proofs.areas.first_overlapping.Given as goal

abbrev pub invariant-loop-i : goal.invariant-loop-i
invariant-loop-i l = first_meeting areas_meet (take l.i l.areas) (drop l.i l.areas) ≡ first_meeting areas_meet [] l.areas
