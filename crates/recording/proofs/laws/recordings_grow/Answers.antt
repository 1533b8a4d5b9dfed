use Rattle.recording.proofs.Growing.{grows}
use Rattle.recording.proofs.laws.recordings_grow.Goals as goal

pub returns : goal.returns
returns c = grows
