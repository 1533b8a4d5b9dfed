use Rattle.std.proofs.Common.{sym, subst, arith}
use Rattle.machine_desc.specs.declared.desc.Desc.{Desc}
use Rattle.fresh_load.specs.Placed.{ArePlaced}
use Rattle.system.specs.Beginning.{Loads}
use Rattle.system.proofs.Loaded.{placed_so_far, loaded_on}
use Rattle.system.proofs.beginning.loaded_memory.Goals as goal

-- src/beginning.rt:38:9
pub load_part-requires-clause-placed : goal.load_part-requires-clause-placed
load_part-requires-clause-placed c =
    subst (λ (desc : Desc). ArePlaced c.loop-part.memory desc.regions) (sym c.index-descs-part.is)
    (placed_so_far c.args.descs.now c.args.wiring.now c.loop-part.part c.loop-part.part c.loop-part.memory c.index-descs-part.result c.requires (omega arith) c.loop-part.invariant)

-- src/beginning.rt:37:5
pub loop-part-preserved : goal.loop-part-preserved
loop-part-preserved c =
    loaded_on c.args.descs.now c.args.wiring.now c.loop-part.part c.loop-part.memory c.load_part.new.memory c.index-descs-part.result c.requires (omega arith) c.loop-part.invariant
    (subst (λ (desc : Desc). Loads desc c.loop-part.memory c.load_part.new.memory) c.index-descs-part.is c.in_ok-load_part.ensures)
