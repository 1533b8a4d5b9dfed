use Rattle.std.proofs.Common.{◌∙◌}
use Rattle.fresh_load.proofs.Places.{reloaded_first}
use Rattle.fresh_load.proofs.loading.load.Goals as goal

pub returns-clause-fresh : goal.returns-clause-fresh
returns-clause-fresh c zero = c.reload.ensures.own ∙ reloaded_first c.args.desc.now c.args.memory.now zero
