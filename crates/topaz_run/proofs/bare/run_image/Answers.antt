use Rattle.std.proofs.Common.{◌≡◌, List, [], ◌∷◌, length, sym, ap, subst, ◌∙◌, arith}
use Rattle.machine_desc.specs.declared.desc.Desc.{Desc}
use Rattle.machine_desc.specs.declared.wiring.Wiring.{Wiring}
use Rattle.machine_desc.specs.Joined.{AreJoined}
use Rattle.script.specs.declared.names.Names.{Names}
use Rattle.script.specs.Course.{course_of}
use Rattle.system.specs.System.{HaveOneCore}
use Rattle.topaz_run.specs.BuiltIn.{built_in, built_in_wiring}
use Rattle.topaz_run.proofs.BuiltIns.{built_in_is_joined, built_in_has_one_core, names_match, bare_report}
use Rattle.topaz_run.proofs.bare.run_image.Goals as goal

pub report-requires-clause-joined : goal.report-requires-clause-joined
report-requires-clause-joined c =
    let image = c.args.image.now in
    let items : c.into_vec.result.items ≡ built_in image ∷ [] = c.into_vec.ensures ∙ c.in_ok-descs.ensures ∙ ap (λ (desc : Desc). desc ∷ []) c.in_ok-description.ensures in
    subst (λ (wiring : Wiring). AreJoined c.into_vec.result.items wiring) (sym c.in_ok-wiring.ensures)
    (subst (λ (descs : List Desc). AreJoined descs built_in_wiring) (sym items) (built_in_is_joined image (omega (arith, c.if-image.false))))

pub report-requires-clause-cores : goal.report-requires-clause-cores
report-requires-clause-cores c =
    let items : c.into_vec.result.items ≡ built_in c.args.image.now ∷ [] = c.into_vec.ensures ∙ c.in_ok-descs.ensures ∙ ap (λ (desc : Desc). desc ∷ []) c.in_ok-description.ensures in
    subst (λ (descs : List Desc). HaveOneCore descs) (sym items) (built_in_has_one_core c.args.image.now)

pub report-requires-clause-inputs : goal.report-requires-clause-inputs
report-requires-clause-inputs c =
    c.in-Ok.ensures.consoles ∙ ap (λ (names : Names). length names.consoles) c.in_ok-names.ensures ∙ names_match
    ∙ ap (λ (wiring : Wiring). length wiring.consoles) (sym c.in_ok-wiring.ensures)

pub returns-in-Ok-clause-answer : goal.returns-in-Ok-clause-answer
returns-in-Ok-clause-answer c =
    let image = c.args.image.now in
    let items : c.into_vec.result.items ≡ built_in image ∷ [] = c.into_vec.ensures ∙ c.in_ok-descs.ensures ∙ ap (λ (desc : Desc). desc ∷ []) c.in_ok-description.ensures in
    bare_report c.args.name.now image c.args.turns c.into_vec.result.items c.in_ok-wiring.wiring c.in-Ok.script c.report.result (omega (arith, c.if-image.false)) items c.in_ok-wiring.ensures
    (c.in-Ok.ensures.said ∙ ap (λ (names : Names). course_of names []) c.in_ok-names.ensures) c.report.ensures.answer
