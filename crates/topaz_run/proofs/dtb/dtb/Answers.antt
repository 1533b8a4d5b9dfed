use Rattle.std.proofs.Common.{ℕ, List, subst}
use Rattle.std.proofs.lemmas.Result.{err_from_is_err_and}
use Rattle.topaz_run.specs.Plan.{Plan, Ends}
use Rattle.topaz_run.specs.Outcome.{dtb}
use Rattle.topaz_run.specs.Answers.{Meets}
use Rattle.topaz_run.proofs.Plans.{ends_early, ends_with}
use Rattle.topaz_run.proofs.dtb.dtb.Goals as goal

pub returns-in_err-bytes-clause-answer : goal.returns-in_err-bytes-clause-answer
returns-in_err-bytes-clause-answer g c =
    let p = err_from_is_err_and c.from_residual.result c.from_residual.ensures.1 in
    let next : List ℕ → Plan = λ bytes. Ends (dtb c.args.file.now bytes) in
    rw (p.1, p.2) (ends_early (g.F.Files.content c.args.files.now) c.args.file.now c.args.file.now next c.in_err-bytes.field-0.0 c.in_err-bytes.ensures.stopped)

pub returns-clause-answer : goal.returns-clause-answer
returns-clause-answer g c =
    let meets = subst (λ bytes. Meets c.rewrite.result (dtb c.args.file.now bytes)) c.as_slice.ensures c.rewrite.ensures.answer in
    ends_with (g.F.Files.content c.args.files.now) c.args.file.now c.args.file.now c.in_ok-bytes.bytes (dtb c.args.file.now) c.rewrite.result c.in_ok-bytes.ensures.read meets
