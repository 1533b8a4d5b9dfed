use Rattle.partition.proofs.Forgets.{forgets}
use Rattle.partition.proofs.laws.restarts_forget.Goals as goal

pub returns : goal.returns
returns c = forgets
