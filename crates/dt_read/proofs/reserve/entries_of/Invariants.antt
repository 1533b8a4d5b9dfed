use Rattle.std.proofs.Common.{length}
use Rattle.dt_read.proofs.ReserveMaps.{ReadSoFar}
use Rattle.dt_read.proofs.reserve.entries_of.Given as goal

abbrev pub invariant-loop-rest : goal.invariant-loop-rest
invariant-loop-rest l = ReadSoFar l.most l.bytes l.rest l.entries.items

abbrev pub decreases-loop-rest : goal.decreases-loop-rest
decreases-loop-rest l = length l.rest
