use Rattle.core_step.proofs.Alone.{steps_alone}
use Rattle.core_step.proofs.laws.steps_alone.Goals as goal

pub returns : goal.returns
returns c = steps_alone
