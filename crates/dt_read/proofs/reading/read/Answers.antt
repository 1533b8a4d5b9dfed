use Rattle.dt_read.proofs.Whole.{only_that_tree}
use Rattle.dt_read.proofs.reading.read.Goals as goal

pub returns-clause-only : goal.returns-clause-only
returns-clause-only c = only_that_tree c.tree_of.result c.args.blob.now c.tree_of.ensures
