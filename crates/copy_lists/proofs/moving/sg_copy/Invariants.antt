use Rattle.std.proofs.Common.{◌≡◌, ℕ, false, drop}
use Rattle.ground.specs.Extents.{extent_at}
use Rattle.fresh_load.specs.Placed.{is_private_extent, sizes_of}
use Rattle.copy_lists.specs.Moving.{copied}
use Rattle.copy_lists.proofs.moving.sg_copy.Given as goal

-- copying the entries that are left gives what copying all would
abbrev pub invariant-loop-i : goal.invariant-loop-i
invariant-loop-i l = record {
  rest : copied l.from l.to (drop l.i l.list) l.ground ≡ copied l.from l.to l.list l.fn.ground;
  sizes : sizes_of l.ground ≡ sizes_of l.fn.ground;
  others : (extent : ℕ) → is_private_extent l.to extent ≡ false → extent_at l.ground extent ≡ extent_at l.fn.ground extent;
}
