use Rattle.std.proofs.Common.{◌≡◌, ◌<◌, ◌*◌, ◌-◌, ◌++◌, length, drop}
use Rattle.std.specs.List.{flat_map}
use Rattle.std.specs.Int.{w32, to_be_bytes}
use Rattle.arrayvec.specs.ArrayVec.{array_vec_len}
use Rattle.insn_alu.proofs.access.words_of.Given as goal

abbrev pub invariant-loop-n : goal.invariant-loop-n
invariant-loop-n l = record {
  bytes : l.bytes.items ++ flat_map (to_be_bytes w32) (drop l.n l.regs.gpr) ≡ flat_map (to_be_bytes w32) (drop l.first l.regs.gpr);
  room : array_vec_len l.bytes ≡ 4 * (l.n - l.first);
  count : l.first < l.n → length l.regs.gpr ≡ 32;
}
