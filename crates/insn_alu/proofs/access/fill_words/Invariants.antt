use Rattle.std.proofs.Common.{◌≡◌, ◌<◌, ◌*◌, ◌-◌, ◌++◌, length, take, drop}
use Rattle.insn_alu.specs.Transfers.{words_in}
use Rattle.insn_alu.proofs.access.fill_words.Given as goal

abbrev pub invariant-loop-n : goal.invariant-loop-n
invariant-loop-n l = record {
  rest : l.regs ≡ record l.initial.regs { gpr = l.regs.gpr };
  words : take l.n l.regs.gpr ++ words_in (32 - l.n) (drop (4 * (l.n - l.first)) l.bytes) ≡ take l.first l.initial.regs.gpr ++ words_in (32 - l.first) l.bytes;
  count : l.first < l.n → length l.regs.gpr ≡ 32;
}
