use Rattle.std.proofs.Common.{ℕ, List, sym, ap, ◌∙◌}
use Rattle.std.specs.Prelude.{position}
use Rattle.config_checks.specs.Found.{is_part}
use Rattle.topaz_run.specs.Plan.{Done}
use Rattle.topaz_run.specs.Outcome.{guest_of}
use Rattle.topaz_run.proofs.Plans.{stops_alike}
use Rattle.topaz_run.proofs.Named.{found_at, found_nowhere, element, within}
use Rattle.topaz_run.proofs.guest.guest_named.Goals as goal

pub returns-in_ok-guest_of-in-Some-clause-answer : goal.returns-in_ok-guest_of-in-Some-clause-answer
returns-in_ok-guest_of-in-Some-clause-answer c =
    let name = c.args.name.now in
    let config = c.args.accepted.now in
    let at = ap (λ (name : List ℕ). position (is_part name) config.parts) (sym c.as_bytes.ensures.value) ∙ sym c.part_named.ensures ∙ c.in-Some.is in
    let few = within (is_part name) config.parts c.in-Some.part at in
    let d = element config.parts c.in-Some.part few in
    ap (guest_of name config) (found_at (is_part name) config.parts c.in-Some.part d at few) ∙ ap Done (sym (c.in_ok-guest_of-in-Some.ensures.value d))

pub returns-in-None-clause-answer : goal.returns-in-None-clause-answer
returns-in-None-clause-answer c =
    let name = c.args.name.now in
    let config = c.args.accepted.now in
    let at = ap (λ (name : List ℕ). position (is_part name) config.parts) (sym c.as_bytes.ensures.value) ∙ sym c.part_named.ensures ∙ c.in-None.is in
    stops_alike c.refused.result _ _ (ap (guest_of name config) (found_nowhere (is_part name) config.parts at)) c.refused.ensures.refusal
