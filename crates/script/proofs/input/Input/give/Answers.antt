use Rattle.std.proofs.Common.{◌≡◌, List, ℕ, length, true, sym, subst, arith, length-append}
use Rattle.script.specs.Course.{Given}
use Rattle.script.specs.Steps.{is_up_to}
use Rattle.script.proofs.Marks.{are_marks_more, given_more}
use Rattle.script.proofs.input.Input.give.Goals as goal

pub invariant_of-self-in_err-extend_from_slice : goal.invariant_of-self-in_err-extend_from_slice
invariant_of-self-in_err-extend_from_slice c =
    let below = subst (λ (inputs : List Given). is_up_to c.args.turn inputs ≡ true) (sym c.self.view_is) c.requires in
    rw (c.in_err-extend_from_slice.ensures.items, c.in_ok-push.ensures.items, c.as_slice-start.ensures.value)
    (are_marks_more c.self.inside.marks.items c.self.inside.bytes.items c.args.turn (length c.self.inside.bytes.items) c.self.invariant below (omega arith))

pub invariant_of-self-2 : goal.invariant_of-self-2
invariant_of-self-2 c =
    let below = subst (λ (inputs : List Given). is_up_to c.args.turn inputs ≡ true) (sym c.self.view_is) c.requires in
    rw (c.in_ok-extend_from_slice.ensures.items, c.in_ok-push.ensures.items, c.as_slice-start.ensures.value)
    (are_marks_more c.self.inside.marks.items c.self.inside.bytes.items c.args.turn _ c.self.invariant below (omega (arith, length-append {A = ℕ})))

pub returns : goal.returns
returns c =
    rw (c.in_ok-extend_from_slice.ensures.items, c.in_ok-push.ensures.items, c.as_slice-start.ensures.value, ← c.self.view_is)
    (given_more c.self.inside.marks.items c.self.inside.bytes.items c.args.bytes.now c.args.turn c.self.invariant.starts)
