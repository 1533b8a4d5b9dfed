use Rattle.std.proofs.Common.{Err, sym, ap, ◌∙◌}
use Rattle.std.specs.Prelude.{Contains}
use Rattle.std.proofs.lemmas.Result.{err_from_is_err_and}
use Rattle.topaz_run.specs.declared.setup.Setup.{Setup}
use Rattle.topaz_run.specs.declared.status.Stop.TheVariants as stop
use Rattle.topaz_run.specs.Plan.{Plan, outcome_of, needs_of}
use Rattle.topaz_run.specs.Outcome.{accepting, imaged}
use Rattle.topaz_run.specs.Answers.{Stops}
use Rattle.topaz_run.proofs.GoingOn.{Next, for_one, meets_behind, needs_on, one_fault}
use Rattle.topaz_run.proofs.run.run.Goals as goal

pub returns-in_err-setup-clause-answer : goal.returns-in_err-setup-clause-answer
returns-in_err-setup-clause-answer g c =
    let p = err_from_is_err_and c.from_residual.result c.from_residual.ensures.1 in
    let next : Next Setup = λ setup. imaged c.args.script.now c.args.turns setup in
    let s = c.in_err-setup.field-0.0 in
    rw (p.1, p.2) (for_one (g.F.Files.content c.args.files.now) (λ content next. Stops s (outcome_of content (accepting c.args.config.now c.args.hw.now next))) next c.in_err-setup.ensures.stopped)

pub returns-in_err-setup-clause-needed : goal.returns-in_err-setup-clause-needed
returns-in_err-setup-clause-needed g c = λ fault.
    let p = err_from_is_err_and c.from_residual.result c.from_residual.ensures.1 in
    let same = sym p.2 ∙ one_fault c.from_residual.result p.0 stop.ReadFault p.1 fault in
    let next : Next Setup = λ setup. imaged c.args.script.now c.args.turns setup in
    let blamed = g.F.Files.blamed c.read_accepted.new.files in
    for_one (g.F.Files.content c.args.files.now) (λ content next. Contains (needs_of content (accepting c.args.config.now c.args.hw.now next)) blamed) next (c.in_err-setup.ensures.needed (ap Err same))

pub returns-clause-answer : goal.returns-clause-answer
returns-clause-answer g c =
    let whole : Next Setup → Plan = λ next. accepting c.args.config.now c.args.hw.now next in
    let next : Next Setup = λ setup. imaged c.args.script.now c.args.turns setup in
    meets_behind (g.F.Files.content c.args.files.now) (g.F.Files.content c.read_accepted.new.files) whole c.in_ok-setup.setup next c.run_accepted.result
    c.in_ok-setup.ensures.content c.in_ok-setup.ensures.goes_on c.run_accepted.ensures.answer

pub returns-clause-needed : goal.returns-clause-needed
returns-clause-needed g c = λ fault.
    let whole : Next Setup → Plan = λ next. accepting c.args.config.now c.args.hw.now next in
    let next : Next Setup = λ setup. imaged c.args.script.now c.args.turns setup in
    needs_on (g.F.Files.content c.args.files.now) (g.F.Files.content c.read_accepted.new.files) whole c.in_ok-setup.setup next (g.F.Files.blamed c.run_accepted.new.files)
    c.in_ok-setup.ensures.content c.in_ok-setup.ensures.goes_on (c.run_accepted.ensures.needed fault)
