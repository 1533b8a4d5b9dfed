use Rattle.std.proofs.Common.{List, [], Err, sym, ap, ◌∙◌}
use Rattle.std.specs.Prelude.{Contains}
use Rattle.std.proofs.lemmas.Result.{err_from_is_err_and}
use Rattle.machine_desc.specs.declared.desc.Desc.{Desc}
use Rattle.topaz_run.specs.declared.status.Stop.TheVariants as stop
use Rattle.topaz_run.specs.Plan.{Plan, outcome_of, needs_of}
use Rattle.topaz_run.specs.Imaging.{imaging}
use Rattle.topaz_run.specs.Outcome.{scripted}
use Rattle.topaz_run.specs.Answers.{Stops}
use Rattle.topaz_run.proofs.GoingOn.{Next, for_one, meets_behind, needs_on, one_fault}
use Rattle.topaz_run.proofs.run.run_accepted.Goals as goal

pub returns-in_err-descs-clause-answer : goal.returns-in_err-descs-clause-answer
returns-in_err-descs-clause-answer g c =
    let p = err_from_is_err_and c.from_residual.result c.from_residual.ensures.1 in
    let config = c.args.setup.now.accepted in
    let next : Next (List Desc) = λ descs. scripted c.args.script.now c.args.turns c.args.setup.now descs in
    let s = c.in_err-descs.field-0.0 in
    rw (p.1, p.2) (for_one (g.F.Files.content c.args.files.now) (λ content next. Stops s (outcome_of content (imaging config config.parts [] next))) next c.in_err-descs.ensures.stopped)

pub returns-in_err-descs-clause-needed : goal.returns-in_err-descs-clause-needed
returns-in_err-descs-clause-needed g c = λ fault.
    let p = err_from_is_err_and c.from_residual.result c.from_residual.ensures.1 in
    let same = sym p.2 ∙ one_fault c.from_residual.result p.0 stop.ReadFault p.1 fault in
    let config = c.args.setup.now.accepted in
    let next : Next (List Desc) = λ descs. scripted c.args.script.now c.args.turns c.args.setup.now descs in
    let blamed = g.F.Files.blamed c.read_images.new.files in
    for_one (g.F.Files.content c.args.files.now) (λ content next. Contains (needs_of content (imaging config config.parts [] next)) blamed) next (c.in_err-descs.ensures.needed (ap Err same))

pub returns-clause-answer : goal.returns-clause-answer
returns-clause-answer g c =
    let config = c.args.setup.now.accepted in
    let whole : Next (List Desc) → Plan = λ next. imaging config config.parts [] next in
    let next : Next (List Desc) = λ descs. scripted c.args.script.now c.args.turns c.args.setup.now descs in
    meets_behind (g.F.Files.content c.args.files.now) (g.F.Files.content c.read_images.new.files) whole c.in_ok-descs.descs next c.run_described.result
    c.in_ok-descs.ensures.content c.in_ok-descs.ensures.goes_on c.run_described.ensures.answer

pub returns-clause-needed : goal.returns-clause-needed
returns-clause-needed g c = λ fault.
    let config = c.args.setup.now.accepted in
    let whole : Next (List Desc) → Plan = λ next. imaging config config.parts [] next in
    let next : Next (List Desc) = λ descs. scripted c.args.script.now c.args.turns c.args.setup.now descs in
    needs_on (g.F.Files.content c.args.files.now) (g.F.Files.content c.read_images.new.files) whole c.in_ok-descs.descs next (g.F.Files.blamed c.run_described.new.files)
    c.in_ok-descs.ensures.content c.in_ok-descs.ensures.goes_on (c.run_described.ensures.needed fault)
