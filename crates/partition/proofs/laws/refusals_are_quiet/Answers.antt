use Rattle.partition.proofs.Refusals.{quiet_refusals}
use Rattle.partition.proofs.laws.refusals_are_quiet.Goals as goal

pub returns : goal.returns
returns c = quiet_refusals
