use Rattle.memory_areas.proofs.Places.{one_address_is_at_a_byte}
use Rattle.memory_areas.proofs.laws.each_byte_has_one_address.Goals as goal

pub returns : goal.returns
returns c = one_address_is_at_a_byte
