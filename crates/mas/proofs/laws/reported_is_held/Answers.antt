use Rattle.mas.proofs.Held.{reported_is_held}
use Rattle.mas.proofs.laws.reported_is_held.Goals as goal

pub returns : goal.returns
returns c = reported_is_held
