use Rattle.std.proofs.Common.{arith}
use Rattle.fresh_load.proofs.Starting.{entry_small}
use Rattle.fresh_load.proofs.describing.complete.Goals as goal

pub overflow_cast-entry : goal.overflow_cast-entry
overflow_cast-entry c = omega (arith, entry_small c.args.base c.args.image c.args.tree.now c.requires.kept)
