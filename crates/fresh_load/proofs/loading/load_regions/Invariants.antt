use Rattle.std.proofs.Common.{◌≡◌, drop}
use Rattle.fresh_load.specs.Loading.{loaded}
use Rattle.fresh_load.specs.Placed.{sizes_of}
use Rattle.fresh_load.proofs.loading.load_regions.Given as goal

-- filling what is left gives what filling all would
abbrev pub invariant-loop-region : goal.invariant-loop-region
invariant-loop-region l = record {
  rest : loaded l.pieces (drop l.region-index l.regions) l.memory ≡ loaded l.pieces l.regions l.fn.memory;
  sizes : sizes_of l.memory ≡ sizes_of l.fn.memory;
}
