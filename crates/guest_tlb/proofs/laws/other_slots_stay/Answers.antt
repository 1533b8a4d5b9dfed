use Rattle.guest_tlb.proofs.Others.{invalidations_leave_others, writes_leave_others}
use Rattle.guest_tlb.proofs.laws.other_slots_stay.Goals as goal

pub returns-clause-invalidations : goal.returns-clause-invalidations
returns-clause-invalidations c = invalidations_leave_others

pub returns-clause-writes : goal.returns-clause-writes
returns-clause-writes c = writes_leave_others
