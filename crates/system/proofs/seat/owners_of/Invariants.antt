use Rattle.std.proofs.Common.{◌≡◌, map}
use Rattle.std.specs.List.{range_with_len}
use Rattle.system.specs.Seats.{owner_in}
use Rattle.system.specs.System.{descs_of}
use Rattle.system.proofs.seat.owners_of.Given as goal

abbrev pub invariant-loop-number : goal.invariant-loop-number
invariant-loop-number l = l.owners.items ≡ map (owner_in (descs_of l.parts)) (range_with_len 0 l.number)
