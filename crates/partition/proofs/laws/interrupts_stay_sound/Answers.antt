use Rattle.partition.proofs.Latched.{interrupts_sound}
use Rattle.partition.proofs.laws.interrupts_stay_sound.Goals as goal

pub returns : goal.returns
returns c = interrupts_sound
