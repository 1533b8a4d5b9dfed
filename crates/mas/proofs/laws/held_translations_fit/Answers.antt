use Rattle.mas.proofs.Held.{held_fits}
use Rattle.mas.proofs.laws.held_translations_fit.Goals as goal

pub returns : goal.returns
returns c = held_fits
