use Rattle.std.proofs.Common.{ℕ, List, ◌++◌, sym, subst, ◌∙◌}
use Rattle.network.specs.Report.{end_lines}
use Rattle.network.specs.Turn.{given_at}
use Rattle.system.specs.Shown.{Waits}
use Rattle.topaz_run.specs.Reported.{given_by}
use Rattle.topaz_run.proofs.Reports.{ends_done, told_by}
use Rattle.topaz_run.proofs.report.ended.Goals as goal

pub returns-clause-answer : goal.returns-clause-answer
returns-clause-answer c =
    let system = c.args.system.now in
    let script = given_by c.args.script.now in
    let given = given_at script c.args.turns in
    let waits : Waits system.network given system.world c.deref.result.now =
    subst (λ (counts : List ℕ). Waits system.network given system.world counts) (sym c.deref.ensures.value) c.in_ok-waiting.ensures.waiting in
    ends_done c.args.telling system.network script c.args.turns system.world c.args.text.text c.end_text.result c.requires.world c.requires.head
    (told_by c.end_text.result (λ given. Waits system.network given system.world c.deref.result.now) (λ given. c.args.text.text ++ end_lines system.network given system.world) given c.end_text.ensures.text waits)
    c.end_text.ensures.no_fault
