use Rattle.std.proofs.Common.{◌≡◌, [], take, drop}
use Rattle.config_checks.specs.First.{first_from}
use Rattle.config_checks.specs.Guests.{overlapping_in}
use Rattle.config_checks.proofs.guests.first_overlapping_in.Given as goal

abbrev pub invariant-loop-part : goal.invariant-loop-part
invariant-loop-part l =
    first_from (overlapping_in l.areas) (take l.part-index l.parts) (drop l.part-index l.parts) ≡ first_from (overlapping_in l.areas) [] l.parts
