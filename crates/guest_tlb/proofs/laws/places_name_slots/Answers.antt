use Rattle.guest_tlb.proofs.Places as places
use Rattle.guest_tlb.proofs.Found.{found_is_named}
use Rattle.guest_tlb.proofs.Back.{writes_back_keep}
use Rattle.guest_tlb.proofs.laws.places_name_slots.Goals as goal

pub returns-clause-places : goal.returns-clause-places
returns-clause-places c = places.places_name_slots

pub returns-clause-found : goal.returns-clause-found
returns-clause-found c = found_is_named

pub returns-clause-back : goal.returns-clause-back
returns-clause-back c = writes_back_keep
