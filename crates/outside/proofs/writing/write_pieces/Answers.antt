use Rattle.std.proofs.Common.{ℕ, List, [], sym, subst, arith}
use Rattle.std.specs.Borrow.{Bor}
use Rattle.std.specs.Io.KnownBytes.{Appends}
use Rattle.std.proofs.KnownBytes.{Appends-nil, Appends-trans}
use Rattle.outside.specs.Taken.{AppendsFront}
use Rattle.outside.proofs.PiecesSoFar.{next_piece, no_piece, front_within, front_behind, writes_front}
use Rattle.outside.proofs.writing.write_pieces.Goals as goal

abbrev none : Bor (List ℕ)
none = record { ref_ptr = (0, 0); now = [] }

pub loop-piece-preserved : goal.loop-piece-preserved
loop-piece-preserved g c =
    let next = next_piece c.args.pieces.now c.loop-piece.piece-index none c.loop-piece-test.true in
    let wrote = c.in_ok-write_all.ensures in
    let kept = c.loop-piece.invariant in
    let taken = g.S.Sink.taken in
    record {
      whole = λ end more. kept.whole end (subst (Appends (taken c.loop-piece.out) end) (sym next) (Appends-trans _ _ end _ _ wrote.whole more));
      front = λ end more. kept.front end (subst (AppendsFront (taken c.loop-piece.out) end) (sym next) (front_behind _ _ end _ _ wrote.whole more));
      counted = omega (arith, wrote.counted, kept.counted);
    }

pub returns : goal.returns
returns g c =
    let end = no_piece c.args.pieces.now c.loop-piece.piece-index c.loop-piece-test.false in
    let kept = c.loop-piece.invariant in
    let taken = g.S.Sink.taken c.loop-piece.out in
    record {
      whole = kept.whole taken (subst (Appends taken taken) (sym end) (Appends-nil taken));
      front = kept.front taken (subst (AppendsFront taken taken) (sym end) (0, omega arith, Appends-nil taken));
      counted = kept.counted;
      failed = tt;
    }

pub returns-in_err-write_all : goal.returns-in_err-write_all
returns-in_err-write_all g c =
    let next = next_piece c.args.pieces.now c.loop-piece.piece-index none c.loop-piece-test.true in
    let wrote = c.in_err-write_all.ensures in
    let kept = c.loop-piece.invariant in
    let taken = g.S.Sink.taken in
    let end = taken c.write_all.new.out in
    let front = subst (AppendsFront (taken c.loop-piece.out) end) (sym next) (front_within _ end _ _ wrote.front) in
    writes_front c.from_residual.result _ end _ _ _ c.from_residual.ensures.0 (kept.front end front)
    (omega (arith, wrote.counted, kept.counted)) (omega (arith, wrote.failed, kept.counted))
