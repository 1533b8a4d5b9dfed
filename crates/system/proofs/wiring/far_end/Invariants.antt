use Rattle.std.proofs.Common.{◌≡◌, drop}
use Rattle.network.specs.Network.{far_end}
use Rattle.system.proofs.wiring.far_end.Given as goal

abbrev pub invariant-loop-number : goal.invariant-loop-number
invariant-loop-number l = far_end (drop l.number l.links) l.end ≡ far_end l.links l.end
