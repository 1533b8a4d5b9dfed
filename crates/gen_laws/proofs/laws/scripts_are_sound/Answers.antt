use Rattle.gen_laws.proofs.Scripts.{script-sound}
use Rattle.gen_laws.proofs.laws.scripts_are_sound.Goals as goal

pub returns : goal.returns
returns c = script-sound
