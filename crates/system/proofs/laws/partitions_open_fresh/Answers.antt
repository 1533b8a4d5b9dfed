use Rattle.system.proofs.Fresh.{open_fresh}
use Rattle.system.proofs.laws.partitions_open_fresh.Goals as goal

pub returns : goal.returns
returns c = open_fresh
