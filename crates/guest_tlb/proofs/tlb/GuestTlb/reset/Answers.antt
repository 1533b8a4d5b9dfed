use Rattle.std.proofs.Common.{arith}
use Rattle.guest_tlb.proofs.Passes.{lent_back}
use Rattle.guest_tlb.proofs.Upkeep.{reset_all_kept}
use Rattle.guest_tlb.proofs.tlb.GuestTlb.reset.Goals as goal

pub invariant_of-self : goal.invariant_of-self
invariant_of-self c =
    reset_all_kept _ (lent_back _ c.deref_mut.result.now _ _ _ (omega arith) c.clear.auto.slots c.clear.ensures)
