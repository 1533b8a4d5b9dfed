use Rattle.std.proofs.Common.{◌≡◌, [], take, drop}
use Rattle.config_checks.specs.First.{first_from}
use Rattle.config_checks.specs.Counts.{many_in}
use Rattle.config_checks.proofs.counts.many_parts.Given as goal

abbrev pub invariant-loop-part : goal.invariant-loop-part
invariant-loop-part l =
    first_from many_in (take l.part-index l.parts) (drop l.part-index l.parts) ≡ first_from many_in [] l.parts
