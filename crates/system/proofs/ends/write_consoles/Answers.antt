use Rattle.std.proofs.Common.{sym, subst, ◌∙◌, arith}
use Rattle.std.specs.Io.KnownBytes.{Appends}
use Rattle.std.proofs.KnownBytes.{Appends-trans}
use Rattle.outside.specs.Taken.{AppendsFront}
use Rattle.outside.proofs.PiecesSoFar.{front_within, front_behind, writes_front}
use Rattle.system.proofs.Lined.{console_read}
use Rattle.system.proofs.ends.write_consoles.Goals as goal

pub loop-i-preserved : goal.loop-i-preserved
loop-i-preserved g c =
    let text =
    console_read c.args.names.now c.args.counts.now c.args.waiting.now c.loop-i.i _ c.as_slice-name.result.now _ c.index-counts-i.result c.printed.result c.entered.result c.loop-i-test.true c.requires.counts c.requires.waiting
    (c.as_slice-name.ensures ∙ c.index-names-i.is) c.index-counts-i.is c.printed.ensures c.entered.ensures in
    let wrote = c.in_ok-console_line.ensures in
    let kept = c.loop-i.invariant in
    let taken = g.S.Sink.taken in
    record {
      whole = λ end more. kept.whole end (subst (Appends (taken c.loop-i.out) end) (sym text) (Appends-trans _ _ end _ _ wrote.whole more));
      front = λ end more. kept.front end (subst (AppendsFront (taken c.loop-i.out) end) (sym text) (front_behind _ _ end _ _ wrote.whole more));
      counted = omega (arith, wrote.counted, kept.counted);
    }

pub returns-in_err-console_line : goal.returns-in_err-console_line
returns-in_err-console_line g c =
    let text =
    console_read c.args.names.now c.args.counts.now c.args.waiting.now c.loop-i.i _ c.as_slice-name.result.now _ c.index-counts-i.result c.printed.result c.entered.result c.loop-i-test.true c.requires.counts c.requires.waiting
    (c.as_slice-name.ensures ∙ c.index-names-i.is) c.index-counts-i.is c.printed.ensures c.entered.ensures in
    let wrote = c.in_err-console_line.ensures in
    let kept = c.loop-i.invariant in
    let taken = g.S.Sink.taken in
    let end = taken c.console_line.new.out in
    let front = subst (AppendsFront (taken c.loop-i.out) end) (sym text) (front_within _ end _ _ wrote.front) in
    writes_front c.from_residual.result _ end _ _ _ c.from_residual.ensures.0 (kept.front end front) (omega (arith, wrote.counted, kept.counted)) (omega (arith, wrote.failed, kept.counted))
