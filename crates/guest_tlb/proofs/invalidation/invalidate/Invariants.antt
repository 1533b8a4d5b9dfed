use Rattle.std.proofs.Common.{◌≡◌, ◌≤◌}
use Rattle.arrayvec.specs.ArrayVec.{array_vec_len}
use Rattle.guest_tlb.specs.Ending.{test_of}
use Rattle.guest_tlb.proofs.Passes.{partly, ended_below}
use Rattle.guest_tlb.proofs.invalidation.invalidate.Given as goal

abbrev pub invariant-loop-slot : goal.invariant-loop-slot
invariant-loop-slot l = record {
  slots : l.slots ≡ partly (test_of l.ending) l.slot l.initial.slots;
  dead : l.dead.items ≡ ended_below (test_of l.ending) l.slot l.initial.slots;
  room : array_vec_len l.dead ≤ l.slot;
}
