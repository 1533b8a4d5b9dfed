use Rattle.isolation.proofs.Alone.{alone_in}
use Rattle.isolation.proofs.laws.partitions_are_alone.Goals as goal

pub returns : goal.returns
returns c = alone_in
