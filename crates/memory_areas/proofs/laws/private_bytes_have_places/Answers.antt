use Rattle.memory_areas.proofs.Places.{private_bytes_are_in_regions}
use Rattle.memory_areas.proofs.laws.private_bytes_have_places.Goals as goal

pub returns : goal.returns
returns c = private_bytes_are_in_regions
