use Rattle.std.proofs.Common.{length}
use Rattle.dt_read.proofs.Progress.{ReadTo}
use Rattle.dt_read.proofs.reading.root_of.Given as goal

abbrev pub invariant-loop-builder : goal.invariant-loop-builder
invariant-loop-builder l = ReadTo l.strings l.block l.rest l.builder

abbrev pub decreases-loop-builder : goal.decreases-loop-builder
decreases-loop-builder l = length l.rest
