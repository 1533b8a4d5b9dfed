use Rattle.std.proofs.Common.{◌≤◌, ℕ, List, Option, drop}
use Rattle.std.specs.Io.KnownBytes.{Appends}
use Rattle.outside.specs.Taken.{AppendsFront}
use Rattle.outside.specs.Pieces.{joined}
use Rattle.outside.proofs.writing.write_pieces.Given as goal

-- who appends what is left has appended all
abbrev pub invariant-loop-piece : goal.invariant-loop-piece
invariant-loop-piece g l =
    let sink = g.S.Sink in
    let left = joined (drop l.piece-index l.pieces) in
    record {
      whole : (end : Option (List ℕ)) → Appends (sink.taken l.out) end left → Appends (sink.taken l.fn.out) end (joined l.pieces);
      front : (end : Option (List ℕ)) → AppendsFront (sink.taken l.out) end left → AppendsFront (sink.taken l.fn.out) end (joined l.pieces);
      counted : sink.faults l.fn.out ≤ sink.faults l.out;
    }
