use Rattle.network.proofs.Resting.{turns_pass}
use Rattle.network.proofs.laws.resting_networks_stay.Goals as goal

pub returns : goal.returns
returns c = turns_pass
