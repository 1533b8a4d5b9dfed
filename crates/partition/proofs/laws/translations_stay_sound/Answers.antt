use Rattle.partition.proofs.Reached.{stay_sound}
use Rattle.partition.proofs.laws.translations_stay_sound.Goals as goal

pub returns : goal.returns
returns c = stay_sound
