use Rattle.std.proofs.Common.{◌≡◌, take, map}
use Rattle.fresh_load.specs.Described.{image_piece}
use Rattle.fresh_load.proofs.pieces.image_pieces.Given as goal

-- the pieces so far
abbrev pub invariant-loop-piece : goal.invariant-loop-piece
invariant-loop-piece l = l.pieces ≡ map (image_piece l.file) (take l.piece-index l.plan)
