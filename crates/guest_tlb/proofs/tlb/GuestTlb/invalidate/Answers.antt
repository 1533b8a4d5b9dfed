use Rattle.std.proofs.Common.{arith}
use Rattle.guest_tlb.proofs.Passes.{lent_back}
use Rattle.guest_tlb.proofs.Upkeep.{all_kept_of, invalidated_all_kept}
use Rattle.guest_tlb.proofs.tlb.GuestTlb.invalidate.Goals as goal

pub invariant_of-self : goal.invariant_of-self
invariant_of-self c =
    invalidated_all_kept _ c.deref_mut.result.now _ (lent_back _ c.deref_mut.result.now _ _ _ (omega arith) c.invalidate.auto.slots c.invalidate.ensures.slots)
    (all_kept_of _ _ c.deref_mut.ensures.value c.self.invariant)
