use Rattle.std.proofs.Common.{◌≡◌, [], take, drop}
use Rattle.config_checks.specs.First.{first_from}
use Rattle.config_checks.specs.Names.{misnamed_in}
use Rattle.config_checks.proofs.names.misnamed_part.Given as goal

abbrev pub invariant-loop-part : goal.invariant-loop-part
invariant-loop-part l =
    first_from (misnamed_in l.config) (take l.part-index l.parts) (drop l.part-index l.parts) ≡ first_from (misnamed_in l.config) [] l.parts
