use Rattle.guest_tlb.proofs.Upkeep.{reset_is_kept, writes_keep_all, invalidations_keep_all}
use Rattle.guest_tlb.proofs.laws.changes_keep_the_slots.Goals as goal

pub returns-clause-reset : goal.returns-clause-reset
returns-clause-reset c = reset_is_kept

pub returns-clause-write : goal.returns-clause-write
returns-clause-write c = writes_keep_all

pub returns-clause-invalidation : goal.returns-clause-invalidation
returns-clause-invalidation c = invalidations_keep_all
