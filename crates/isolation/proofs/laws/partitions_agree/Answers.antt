use Rattle.isolation.proofs.Fits.{partitions_agree}
use Rattle.isolation.proofs.laws.partitions_agree.Goals as goal

pub returns : goal.returns
returns c = partitions_agree
