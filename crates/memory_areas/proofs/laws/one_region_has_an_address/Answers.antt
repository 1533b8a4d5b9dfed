use Rattle.memory_areas.proofs.Places.{one_region_has_it, its_region_gives_the_place, order_is_free}
use Rattle.memory_areas.proofs.laws.one_region_has_an_address.Goals as goal

pub returns-clause-one : goal.returns-clause-one
returns-clause-one c = one_region_has_it

pub returns-clause-place : goal.returns-clause-place
returns-clause-place c = its_region_gives_the_place

pub returns-clause-order : goal.returns-clause-order
returns-clause-order c = order_is_free
