use Rattle.memory_areas.proofs.Places.{places_are_of_regions}
use Rattle.memory_areas.proofs.laws.places_are_those_of_regions.Goals as goal

pub returns : goal.returns
returns c = places_are_of_regions
