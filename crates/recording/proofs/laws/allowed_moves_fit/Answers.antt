use Rattle.recording.proofs.Fitting.{allowed_fit}
use Rattle.recording.proofs.laws.allowed_moves_fit.Goals as goal

pub returns : goal.returns
returns c = allowed_fit
