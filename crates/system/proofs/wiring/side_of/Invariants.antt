use Rattle.std.proofs.Common.{◌≡◌, drop}
use Rattle.system.specs.Wired.{side_from}
use Rattle.system.proofs.wiring.side_of.Given as goal

abbrev pub invariant-loop-number : goal.invariant-loop-number
invariant-loop-number l = side_from l.number (drop l.number l.links) l.end ≡ side_from 0 l.links l.end
