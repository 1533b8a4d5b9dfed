use Rattle.std.proofs.Common.{ℕ, List, subst}
use Rattle.std.proofs.lemmas.Result.{err_from_is_err_and}
use Rattle.topaz_run.specs.Plan.{Plan, Ends}
use Rattle.topaz_run.specs.Outcome.{bare}
use Rattle.topaz_run.specs.Answers.{Meets}
use Rattle.topaz_run.proofs.Plans.{ends_early, ends_with}
use Rattle.topaz_run.proofs.bare.bare.Goals as goal

pub returns-in_err-bytes-clause-answer : goal.returns-in_err-bytes-clause-answer
returns-in_err-bytes-clause-answer g c =
    let p = err_from_is_err_and c.from_residual.result c.from_residual.ensures.1 in
    let next : List ℕ → Plan = λ bytes. Ends (bare c.args.image.now c.args.turns bytes) in
    rw (p.1, p.2) (ends_early (g.F.Files.content c.args.files.now) c.args.image.now c.args.image.now next c.in_err-bytes.field-0.0 c.in_err-bytes.ensures.stopped)

pub returns-clause-answer : goal.returns-clause-answer
returns-clause-answer g c =
    let meets = subst (λ bytes. Meets c.run_image.result (bare c.args.image.now c.args.turns bytes)) c.as_slice.ensures c.run_image.ensures.answer in
    ends_with (g.F.Files.content c.args.files.now) c.args.image.now c.args.image.now c.in_ok-bytes.bytes (bare c.args.image.now c.args.turns) c.run_image.result c.in_ok-bytes.ensures.read meets
