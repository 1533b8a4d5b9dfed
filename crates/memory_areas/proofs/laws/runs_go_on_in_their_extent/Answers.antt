use Rattle.memory_areas.proofs.Places.{runs_have_bytes, runs_go_on}
use Rattle.memory_areas.proofs.laws.runs_go_on_in_their_extent.Goals as goal

pub returns-clause-bytes : goal.returns-clause-bytes
returns-clause-bytes c = runs_have_bytes

pub returns-clause-on : goal.returns-clause-on
returns-clause-on c = runs_go_on
