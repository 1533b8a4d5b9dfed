use Rattle.std.proofs.Common.{ℕ, List, subst}
use Rattle.std.proofs.lemmas.Result.{err_from_is_err_and}
use Rattle.script.specs.Text.{lines_of}
use Rattle.topaz_run.specs.declared.telling.Telling.TheVariants.{Report}
use Rattle.topaz_run.specs.Plan.{Outcome, Plan, Ends}
use Rattle.topaz_run.specs.Outcome.{reporting}
use Rattle.topaz_run.specs.Answers.{Meets}
use Rattle.topaz_run.proofs.Plans.{ends_early, ends_with}
use Rattle.topaz_run.proofs.run.run_described.Goals as goal

pub returns-in_err-text-clause-answer : goal.returns-in_err-text-clause-answer
returns-in_err-text-clause-answer g c =
    let p = err_from_is_err_and c.from_residual.result c.from_residual.ensures.1 in
    let next : List ℕ → Plan = λ bytes. Ends (reporting Report c.args.turns c.args.setup.now c.args.descs (lines_of bytes)) in
    rw (p.1, p.2) (ends_early (g.F.Files.content c.args.files.now) c.args.script.now c.args.script.now next c.in_err-text.field-0.0 c.in_err-text.ensures.stopped)

pub returns-clause-answer : goal.returns-clause-answer
returns-clause-answer g c =
    let meaning : List ℕ → Outcome = λ bytes. reporting Report c.args.turns c.args.setup.now c.args.descs (lines_of bytes) in
    let meets = subst (λ bytes. Meets c.run_script.result (meaning bytes)) c.as_slice.ensures c.run_script.ensures.answer in
    ends_with (g.F.Files.content c.args.files.now) c.args.script.now c.args.script.now c.in_ok-text.text meaning c.run_script.result c.in_ok-text.ensures.read meets
