use Rattle.gen_laws.proofs.Images.{images}
use Rattle.gen_laws.proofs.laws.images_are_sound.Goals as goal

pub returns : goal.returns
returns c = images c.counts_are_few.ensures
