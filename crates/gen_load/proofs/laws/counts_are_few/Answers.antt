use Rattle.gen_load.proofs.Drawing.{count-few}
use Rattle.gen_load.proofs.laws.counts_are_few.Goals as goal

pub returns : goal.returns
returns c = count-few
