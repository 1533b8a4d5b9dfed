use Rattle.std.proofs.Common.{length}
use Rattle.script.proofs.Keeping.{SoFar}
use Rattle.script.proofs.reading.read_lines.Given as goal

abbrev pub invariant-loop-line : goal.invariant-loop-line
invariant-loop-line l = SoFar l.names l.text l.reading l.lines

abbrev pub decreases-loop-line : goal.decreases-loop-line
decreases-loop-line l = length l.lines
