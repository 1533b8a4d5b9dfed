use Rattle.std.proofs.Common.{◌≡◌, take}
use Rattle.ground.specs.Extents.{with_extent}
use Rattle.fresh_load.specs.Fresh.{fresh_bytes}
use Rattle.fresh_load.proofs.loading.fill_region.Given as goal

-- the region has the bytes of the pieces so far
abbrev pub invariant-loop-piece : goal.invariant-loop-piece
invariant-loop-piece l = l.memory ≡ with_extent l.fn.memory l.region.extent (fresh_bytes (take l.piece-index l.pieces) l.region)
