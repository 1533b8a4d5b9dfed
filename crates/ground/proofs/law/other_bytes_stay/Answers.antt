use Rattle.ground.proofs.Writes.{same_below, same_above}
use Rattle.ground.proofs.law.other_bytes_stay.Goals as goal

pub returns-clause-below : goal.returns-clause-below
returns-clause-below c = same_below

pub returns-clause-above : goal.returns-clause-above
returns-clause-above c = same_above
