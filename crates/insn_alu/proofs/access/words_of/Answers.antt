use Rattle.std.proofs.Common.{◌≡◌, drop, ap, ◌∙◌, arith}
use Rattle.std.specs.List.{flat_map}
use Rattle.std.specs.Int.{w32, to_be_bytes}
use Rattle.insn_alu.specs.Transfers.{stored_bytes}
use Rattle.insn_alu.proofs.Words.{store_step, store_end}
use Rattle.insn_alu.proofs.access.words_of.Goals as goal

pub loop-n-preserved : goal.loop-n-preserved
loop-n-preserved c = record {
  bytes = rw c.push_word.ensures.bytes (store_step c.loop-n.bytes.items c.args.regs.now.gpr c.loop-n.n c.gpr.result (omega arith) c.gpr.ensures.value ∙ c.loop-n.invariant.bytes);
  room = omega arith;
  count = λ h. c.gpr.ensures.count;
}

pub returns : goal.returns
unfolding stored_bytes
returns c =
    let last : c.loop-n.n ≡ 32 = omega (arith, c.loop-n.auto.n-end (omega arith)) in
    store_end c.loop-n.bytes.items c.args.regs.now.gpr _ c.loop-n.n last (c.loop-n.invariant.count (omega arith)) c.loop-n.invariant.bytes
    ∙ ap (λ k. flat_map (to_be_bytes w32) (drop k c.args.regs.now.gpr)) c.rt-first.ensures.field
