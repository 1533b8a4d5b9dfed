use Rattle.std.proofs.Common.{false, get_or, arith}
use Rattle.machine_desc.specs.declared.desc.Region.{Region}
use Rattle.fresh_load.proofs.Places.{still_placed, placed_at, one_on}
use Rattle.fresh_load.proofs.loading.load_regions.Goals as goal

abbrev nowhere : Region
nowhere = record { logical = 0; size = 0; extent = 0; real = 0; private = false }

pub load_region-requires-clause-placed : goal.load_region-requires-clause-placed
load_region-requires-clause-placed c =
    still_placed c.args.memory.now c.loop-region.memory (get_or c.args.regions.now c.loop-region.region-index nowhere) c.loop-region.invariant.sizes
    (placed_at c.args.memory.now c.args.regions.now c.loop-region.region-index nowhere c.requires.placed (omega arith))

pub loop-region-preserved : goal.loop-region-preserved
loop-region-preserved c =
    let on =
    one_on c.args.pieces.now c.args.regions.now c.args.memory.now c.loop-region.memory c.load_region.new.memory c.loop-region.region-index nowhere (omega arith) c.requires.placed
    c.loop-region.invariant.rest c.loop-region.invariant.sizes c.load_region.ensures in
    record { rest = on.0; sizes = on.1 }
