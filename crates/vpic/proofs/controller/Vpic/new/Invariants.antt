use Rattle.std.proofs.Common.{◌≡◌, replicate}
use Rattle.arrayvec.specs.ArrayVec.{array_vec_len}
use Rattle.vpic.specs.Controller.{source}
use Rattle.vpic.proofs.controller.Vpic.new.Given as goal

-- the sources so far
abbrev pub invariant-loop : goal.invariant-loop
invariant-loop l = record {
  sources : l.sources.items ≡ replicate l.counter (source 0 8 0);
  count : array_vec_len l.sources ≡ l.counter;
}
