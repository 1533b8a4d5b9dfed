use Rattle.core_step.proofs.Alikes.{alike_step_alike_all}
use Rattle.core_step.proofs.laws.alike_step_alike.Goals as goal

pub returns : goal.returns
returns c = alike_step_alike_all
