use Rattle.std.proofs.Common.{arith, ap, set, List}
use Rattle.mas.specs.declared.entry.Entry.{Entry}
use Rattle.guest_tlb.proofs.Passes.{lent_back}
use Rattle.guest_tlb.proofs.Upkeep.{all_kept_of, put_all_kept}
use Rattle.guest_tlb.proofs.tlb.GuestTlb.write_entry.Goals as goal

pub invariant_of-self : goal.invariant_of-self
invariant_of-self c =
    put_all_kept c.args.slot c.args.entry c.deref_mut.result.now _ c.requires.kept
    (ap (λ (xs : List Entry). set xs c.args.slot c.args.entry) (lent_back _ c.deref_mut.result.now _ _ _ (omega arith) c.invalidate-dead.auto.slots c.invalidate-dead.ensures.slots))
    (all_kept_of _ _ c.deref_mut.ensures.value c.self.invariant)
