use Rattle.std.proofs.Common.{arith, ap, ◌∙◌, ℕ, length, rules}
use Rattle.arrayvec.specs.ArrayVec.{ArrayVec}
use Rattle.guest_tlb.proofs.Passes.{partly_none, partly_all, ended_below_none, ended_below_all, step_ended, step_kept, answer_ended, answer_kept}
use Rattle.guest_tlb.proofs.invalidation.invalidate.Goals as goal
use Rattle.guest_tlb.proofs.invalidation.invalidate.Goals.{then-ends, else-ends}

pub loop-slot-init : goal.loop-slot-init
loop-slot-init c = record {
  slots = partly_none _ _;
  dead = c.new-dead.ensures ∙ ended_below_none _ _;
  room = omega (arith, ap length c.new-dead.ensures);
}

pub loop-slot-preserved : goal.loop-slot-preserved
loop-slot-preserved c =
    elim c.if-ends.branch [
      | then-ends w ↦ record {
        slots = step_ended _ _ _ _ _ _ c.loop-slot.invariant.slots c.loop-slot-test.true c.ends.ensures w.if-ends.true w.slots-is;
        dead = answer_ended _ _ _ _ _ _ _ c.loop-slot.invariant.slots c.loop-slot-test.true c.ends.ensures w.if-ends.true c.loop-slot.invariant.dead (ap (λ (v : ArrayVec ℕ). v.items) w.dead-is ∙ w.push.ensures.items);
        room = search rules;
      }
      | else-ends w ↦ record {
        slots = step_kept _ _ _ _ _ _ c.loop-slot.invariant.slots c.loop-slot-test.true c.ends.ensures w.if-ends.false w.slots-is;
        dead = answer_kept _ _ _ _ _ _ _ c.loop-slot.invariant.slots c.loop-slot-test.true c.ends.ensures w.if-ends.false c.loop-slot.invariant.dead (ap (λ (v : ArrayVec ℕ). v.items) w.dead-is);
        room = search rules;
      }
    ]

pub returns-clause-slots : goal.returns-clause-slots
returns-clause-slots c = c.loop-slot.invariant.slots ∙ partly_all _ _ _ c.loop-slot-test.false

pub returns-clause-dead : goal.returns-clause-dead
returns-clause-dead c = c.loop-slot.invariant.dead ∙ ended_below_all _ _ _ (omega arith)
