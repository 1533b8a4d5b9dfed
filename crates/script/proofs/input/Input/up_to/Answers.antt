use Rattle.std.proofs.Common.{◌≡◌, List, ℕ, length, take, sym, ◌∙◌, subst, ap}
use Rattle.script.specs.declared.input.Mark.{Mark}
use Rattle.script.specs.Course.{Given, bytes_up_to}
use Rattle.script.specs.Marked.{given_by_marks}
use Rattle.script.proofs.Marks.{up_to_grows}
use Rattle.script.proofs.input.Input.up_to.Goals as goal

pub returns-clause-front : goal.returns-clause-front
returns-clause-front c = λ later le.
    let marks = c.self.inside.marks.items in
    let bytes = c.self.inside.bytes.items in
    let value : c.bytes_up_to.result.now ≡ bytes_up_to c.args.turn (given_by_marks marks bytes) =
    c.bytes_up_to.ensures
    ∙ ap (λ (m : List Mark). bytes_up_to c.args.turn (given_by_marks m c.as_slice-2.result.now)) c.as_slice.ensures.value
    ∙ ap (λ (b : List ℕ). bytes_up_to c.args.turn (given_by_marks marks b)) c.as_slice-2.ensures.value in
    subst (λ (given : List Given). c.bytes_up_to.result.now ≡ take (length c.bytes_up_to.result.now) (bytes_up_to later given)) c.self.view_is
    (value
    ∙ up_to_grows c.args.turn later marks bytes le c.self.invariant.turns
    ∙ ap (λ (b : List ℕ). take (length b) (bytes_up_to later (given_by_marks marks bytes))) (sym value))
