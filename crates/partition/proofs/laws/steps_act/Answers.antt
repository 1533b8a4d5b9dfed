use Rattle.partition.proofs.Acting.{steps_so}
use Rattle.partition.proofs.laws.steps_act.Goals as goal

pub returns : goal.returns
returns c = steps_so
