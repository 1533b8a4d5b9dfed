use Rattle.std.proofs.Common.{◌≡◌, drop}
use Rattle.network.specs.Network.{owner_from}
use Rattle.system.specs.System.{descs_of}
use Rattle.system.proofs.seat.seat_of.Given as goal

abbrev pub invariant-loop-part : goal.invariant-loop-part
invariant-loop-part l = owner_from l.part (drop l.part (descs_of l.parts)) l.number ≡ owner_from 0 (descs_of l.parts) l.number
