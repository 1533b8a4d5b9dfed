use Rattle.isolation.proofs.Fits.{recordings_fit}
use Rattle.isolation.proofs.laws.recordings_fit.Goals as goal

pub returns : goal.returns
returns c = recordings_fit
