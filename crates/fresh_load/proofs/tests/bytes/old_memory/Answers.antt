use Rattle.std.proofs.Common.{ap, ◌∙◌}
use Rattle.fresh_load.specs.Placed.{sizes_of}
use Rattle.fresh_load.proofs.Sizes.{fill_sizes}
use Rattle.fresh_load.proofs.tests.bytes.old_memory.Goals as goal

pub loop-extent-preserved : goal.loop-extent-preserved
loop-extent-preserved c = ap sizes_of c.fill.ensures ∙ fill_sizes c.loop-extent.memory c.args.sizes.now c.loop-extent.extent 238 c.loop-extent.invariant
