use Rattle.core_step.proofs.Tries.{tries_settle_all}
use Rattle.core_step.proofs.laws.tries_settle.Goals as goal

pub returns : goal.returns
returns c = tries_settle_all
