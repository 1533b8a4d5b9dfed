use Rattle.std.proofs.Common.{sym, ap, subst, ◌∙◌}
use Rattle.network.specs.Network.{Network}
use Rattle.network.specs.Turn.{run}
use Rattle.network.specs.Tally.{tally_of}
use Rattle.system.specs.Shown.{shown}
use Rattle.system.specs.System.{Snapshot}
use Rattle.topaz_run.specs.Reported.{given_by, told}
use Rattle.topaz_run.specs.Answers.{Meets}
use Rattle.topaz_run.proofs.Reports.{head_is}
use Rattle.topaz_run.proofs.report.report.Goals as goal

pub ended-requires-clause-world : goal.ended-requires-clause-world
ended-requires-clause-world c = c.in_ok-run_turns.ensures.world ∙ ap (λ (n : Network). (run n (given_by c.args.script.now) c.args.turns).after) (sym c.in_ok-run_turns.ensures.network)

pub ended-requires-clause-head : goal.ended-requires-clause-head
ended-requires-clause-head c =
    let script = given_by c.args.script.now in
    let network = c.run_turns.new.system.network in
    let same = sym c.in_ok-run_turns.ensures.network in
    let show = c.show.ensures in
    head_is c.args.telling network c.args.turns (run network script c.args.turns).lines c.run_turns.new.system.tally c.run_turns.new.text.text c.count.new.text.text
    (c.in_ok-run_turns.ensures.tally ∙ ap (λ (n : Network). tally_of (run n script c.args.turns).lines) same)
    (c.in_ok-run_turns.ensures.lines ∙ (λ i. shown (show i) (same i) (run (same i) script c.args.turns).lines))
    c.in_ok-count.ensures

pub returns-clause-answer : goal.returns-clause-answer
returns-clause-answer c =
    let same = c.in_ok-run_turns.ensures.network ∙ ap (λ (s : Snapshot). s.network) c.in_ok-system.ensures.opening in
    subst (λ (n : Network). Meets c.ended.result (told c.args.telling n (given_by c.args.script.now) c.args.turns)) same c.ended.ensures.answer
