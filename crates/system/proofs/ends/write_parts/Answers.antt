use Rattle.std.proofs.Common.{sym, ap, subst, ◌∙◌, arith}
use Rattle.std.specs.Io.KnownBytes.{Appends}
use Rattle.std.proofs.KnownBytes.{Appends-trans}
use Rattle.outside.specs.Taken.{AppendsFront}
use Rattle.outside.proofs.PiecesSoFar.{front_within, front_behind, writes_front}
use Rattle.machine_desc.specs.declared.desc.Desc.{Desc}
use Rattle.system.proofs.Lined.{next_part}
use Rattle.system.proofs.ends.write_parts.Goals as goal

pub loop-i-preserved : goal.loop-i-preserved
loop-i-preserved g c =
    let text =
    next_part c.args.parts.now c.loop-i.i _ c.index-parts-i.result c.as_slice.result.now c.state.result c.steps.result c.loop-i-test.true c.index-parts-i.is (c.as_slice.ensures ∙ ap (λ (d : Desc). d.name) c.desc.ensures.value)
    c.state.ensures c.steps.ensures in
    let wrote = c.in_ok-end_line.ensures in
    let kept = c.loop-i.invariant in
    let taken = g.S.Sink.taken in
    record {
      whole = λ end more. kept.whole end (subst (Appends (taken c.loop-i.out) end) (sym text) (Appends-trans _ _ end _ _ wrote.whole more));
      front = λ end more. kept.front end (subst (AppendsFront (taken c.loop-i.out) end) (sym text) (front_behind _ _ end _ _ wrote.whole more));
      counted = omega (arith, wrote.counted, kept.counted);
    }

pub returns-in_err-end_line : goal.returns-in_err-end_line
returns-in_err-end_line g c =
    let text =
    next_part c.args.parts.now c.loop-i.i _ c.index-parts-i.result c.as_slice.result.now c.state.result c.steps.result c.loop-i-test.true c.index-parts-i.is (c.as_slice.ensures ∙ ap (λ (d : Desc). d.name) c.desc.ensures.value)
    c.state.ensures c.steps.ensures in
    let wrote = c.in_err-end_line.ensures in
    let kept = c.loop-i.invariant in
    let taken = g.S.Sink.taken in
    let end = taken c.end_line.new.out in
    let front = subst (AppendsFront (taken c.loop-i.out) end) (sym text) (front_within _ end _ _ wrote.front) in
    writes_front c.from_residual.result _ end _ _ _ c.from_residual.ensures.0 (kept.front end front) (omega (arith, wrote.counted, kept.counted)) (omega (arith, wrote.failed, kept.counted))
