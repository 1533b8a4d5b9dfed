use Rattle.recording.proofs.Replaying.{replays}
use Rattle.recording.proofs.laws.replays_are_whole.Goals as goal

pub returns : goal.returns
returns c = replays
