use Rattle.std.proofs.Common.{List, length, sym, ap, subst, ◌∙◌}
use Rattle.machine_desc.specs.declared.desc.Desc.{Desc}
use Rattle.machine_desc.specs.declared.wiring.Wiring.{Wiring}
use Rattle.machine_desc.specs.Joined.{AreJoined}
use Rattle.script.specs.declared.names.Names.{Names}
use Rattle.script.specs.Text.{lines_of}
use Rattle.topaz_run.specs.Laws.{AreDescribed}
use Rattle.topaz_run.proofs.Cores.{one_core_each}
use Rattle.topaz_run.proofs.Scripted.{follows_script, refuses_script, names_by}
use Rattle.topaz_run.proofs.run.run_script.Goals as goal

pub report-requires-clause-joined : goal.report-requires-clause-joined
report-requires-clause-joined c =
    let config = c.args.setup.now.accepted in
    subst (λ (wiring : Wiring). AreJoined c.into_vec.result.items wiring) (sym c.in_ok-wiring.ensures)
    (c.described_partitions_are_joined.ensures config c.config-config.ensures.accepted c.into_vec.result.items
    (subst (λ (descs : List Desc). AreDescribed config config.parts descs) (sym c.into_vec.ensures) c.requires.described))

pub report-requires-clause-cores : goal.report-requires-clause-cores
report-requires-clause-cores c =
    let config = c.args.setup.now.accepted in
    one_core_each c.accepted_keep_parts.ensures config c.config-config.ensures.accepted c.into_vec.result.items
    (subst (λ (descs : List Desc). AreDescribed config config.parts descs) (sym c.into_vec.ensures) c.requires.described)

pub report-requires-clause-inputs : goal.report-requires-clause-inputs
report-requires-clause-inputs c = c.in-Ok.ensures.consoles ∙ ap (λ (names : Names). length names.consoles) c.in_ok-names.ensures

pub returns-in-Ok-clause-answer : goal.returns-in-Ok-clause-answer
returns-in-Ok-clause-answer c =
    follows_script c.args.telling c.args.turns c.args.setup.now c.args.descs c.into_vec.result.items c.in_ok-wiring.wiring c.in_ok-names.names c.in-Ok.script (lines_of c.args.text.now) c.report.result
    (names_by c.args.setup.now c.in_ok-wiring.wiring c.in_ok-names.names c.in_ok-wiring.ensures c.in_ok-names.ensures) c.in-Ok.ensures.kept c.in-Ok.ensures.said c.into_vec.ensures c.in_ok-wiring.ensures c.report.ensures.answer

pub returns-in-Err-clause-answer : goal.returns-in-Err-clause-answer
returns-in-Err-clause-answer c =
    refuses_script c.args.telling c.args.turns c.args.setup.now c.args.descs c.in_ok-names.names (lines_of c.args.text.now) c.in-Err.fault c.refused_script.result
    (names_by c.args.setup.now c.in_ok-wiring.wiring c.in_ok-names.names c.in_ok-wiring.ensures c.in_ok-names.ensures) c.in-Err.ensures.refused c.refused_script.ensures.refusal
