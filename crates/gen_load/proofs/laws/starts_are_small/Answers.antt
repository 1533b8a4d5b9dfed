use Rattle.gen_load.proofs.Drawing.{starts-small}
use Rattle.gen_load.proofs.laws.starts_are_small.Goals as goal

pub returns : goal.returns
returns c = starts-small
