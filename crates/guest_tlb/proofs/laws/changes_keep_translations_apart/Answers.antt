use Rattle.guest_tlb.proofs.Apart.{writes_keep_apart, invalidations_keep_apart}
use Rattle.guest_tlb.proofs.Reset.{reset_is_apart}
use Rattle.guest_tlb.proofs.laws.changes_keep_translations_apart.Goals as goal

pub returns-clause-reset : goal.returns-clause-reset
returns-clause-reset c = reset_is_apart

pub returns-clause-write : goal.returns-clause-write
returns-clause-write c = writes_keep_apart

pub returns-clause-invalidation : goal.returns-clause-invalidation
returns-clause-invalidation c = invalidations_keep_apart
