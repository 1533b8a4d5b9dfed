use Rattle.std.proofs.Common.{sym}
use Rattle.std.proofs.lemmas.Result.{err_from_is_err_and}
use Rattle.dt_read.proofs.Progress.{fails_at, fails_by, at_token, finishes, shorter}
use Rattle.dt_read.proofs.reading.root_of.Goals as goal

pub returns-in_err-token : goal.returns-in_err-token
returns-in_err-token c =
    let p = err_from_is_err_and c.from_residual.result c.from_residual.ensures.1 in
    rw (p.1, p.2) (fails_at c.in_err-token.field-0.0 c.args.strings.now c.args.block.now c.loop-builder.rest.now c.loop-builder.builder c.loop-builder.invariant c.in_err-token.ensures)

pub returns-then-is_end : goal.returns-then-is_end
returns-then-is_end c =
    finishes c.finish.result c.args.strings.now c.args.block.now c.loop-builder.rest.now _ c.loop-builder.builder _ c.loop-builder.invariant c.in_ok-token.ensures c.if-is_end.ensures c.finish.ensures

pub returns-in_err-builder : goal.returns-in_err-builder
returns-in_err-builder c =
    let p = err_from_is_err_and c.from_residual-in_err-builder.result c.from_residual-in_err-builder.ensures.1 in
    rw (p.1, p.2) (fails_by c.in_err-builder.field-0.0 c.args.strings.now c.args.block.now c.loop-builder.rest.now _ c.loop-builder.builder _ c.loop-builder.invariant c.in_ok-token.ensures c.in_err-builder.ensures)

pub loop-builder-smaller : goal.loop-builder-smaller
loop-builder-smaller c = shorter c.args.strings.now c.loop-builder.rest.now _ _ c.in_ok-token.ensures

pub loop-builder-preserved : goal.loop-builder-preserved
loop-builder-preserved c =
    at_token c.args.strings.now c.args.block.now c.loop-builder.rest.now _ c.loop-builder.builder _ _ c.loop-builder.invariant c.in_ok-token.ensures (sym c.if-is_end.ensures) c.in_ok-builder.ensures.0 c.in_ok-builder.ensures.1
