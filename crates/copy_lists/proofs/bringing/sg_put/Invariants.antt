use Rattle.std.proofs.Common.{◌≡◌, drop}
use Rattle.fresh_load.specs.Placed.{sizes_of}
use Rattle.copy_lists.specs.Pieces.{pieces_in, all_put}
use Rattle.copy_lists.proofs.bringing.sg_put.Given as goal

-- putting what is left, by the entries that are left, gives what putting all would
abbrev pub invariant-loop-i : goal.invariant-loop-i
invariant-loop-i l = record {
  rest : all_put l.map (pieces_in (drop l.i l.list) l.left) l.ground ≡ all_put l.map (pieces_in l.list l.bytes) l.fn.ground;
  sizes : sizes_of l.ground ≡ sizes_of l.fn.ground;
}
