use Rattle.std.proofs.Common.{◌≡◌, ◌-◌, ◌++◌, map}
use Rattle.std.specs.List.{range_with_len}
use Rattle.fresh_load.specs.Described.{spin_piece}
use Rattle.fresh_load.proofs.pieces.add_spin_pieces.Given as goal

-- the entries of the cores so far stand behind the pieces
abbrev pub invariant-loop-core : goal.invariant-loop-core
invariant-loop-core l = l.pieces ≡ l.fn.pieces ++ map (spin_piece l.base) (range_with_len 1 (l.core - 1))
