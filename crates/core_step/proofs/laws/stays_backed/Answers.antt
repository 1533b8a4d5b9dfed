use Rattle.core_step.proofs.Own.{stays_backed}
use Rattle.core_step.proofs.laws.stays_backed.Goals as goal

pub returns : goal.returns
returns c = stays_backed
