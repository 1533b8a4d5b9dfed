use Rattle.std.proofs.Common.{◌≡◌, ℕ, List, true, take, sym, subst, ◌∙◌, arith}
use Rattle.ground.specs.Extents.{with_extent}
use Rattle.fresh_load.specs.Fresh.{fresh_bytes}
use Rattle.fresh_load.specs.Placed.{is_placed}
use Rattle.fresh_load.proofs.Covering.{begun, gone_on}
use Rattle.fresh_load.proofs.Places.{there, still_placed, fresh_sizes}
use Rattle.fresh_load.proofs.loading.fill_region.Goals as goal

pub loop-piece-init : goal.loop-piece-init
loop-piece-init c = c.fill.ensures ∙ begun c.args.memory.now c.args.region.now (there c.args.memory.now c.args.region.now c.requires.placed).size

pub put_piece-requires-clause-placed : goal.put_piece-requires-clause-placed
put_piece-requires-clause-placed c =
    let region = c.args.region.now in
    let front = take c.loop-piece.piece-index c.args.pieces.now in
    subst (λ (memory : List (List ℕ)). is_placed memory region ≡ true) (sym c.loop-piece.invariant)
    (
    still_placed c.args.memory.now (with_extent c.args.memory.now region.extent (fresh_bytes front region)) region
    (fresh_sizes front region c.args.memory.now c.requires.placed) c.requires.placed
    )

pub loop-piece-preserved : goal.loop-piece-preserved
loop-piece-preserved c =
    let step =
    gone_on c.args.memory.now c.args.pieces.now c.loop-piece.piece-index c.piece-item.result c.args.region.now (omega arith)
    (there c.args.memory.now c.args.region.now c.requires.placed).exists in
    cc
