use Rattle.recording.proofs.Along.{tells}
use Rattle.recording.proofs.laws.recordings_tell_moves.Goals as goal

pub returns : goal.returns
returns c = tells
