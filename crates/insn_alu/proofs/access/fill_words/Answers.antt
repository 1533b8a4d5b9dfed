use Rattle.std.proofs.Common.{◌≡◌, ◌*◌, ◌-◌, ◌++◌, length, take, drop, set, length-set, ap, sym, ◌∙◌, refl, arith}
use Rattle.guest_regs.specs.Registers.{Registers}
use Rattle.insn_alu.specs.Transfers.{words_in, filled}
use Rattle.insn_alu.proofs.Words.{fill_start, fill_step, fill_end, rest_step, rest_end}
use Rattle.insn_alu.proofs.access.fill_words.Goals as goal

pub loop-n-init : goal.loop-n-init
loop-n-init c = record {
  rest = refl;
  words = fill_start _ _ _ _;
  count = λ h. absurd (omega arith);
}

pub loop-n-preserved : goal.loop-n-preserved
loop-n-preserved c =
    let gpr : c.set_gpr.new.self.gpr ≡ set c.loop-n.regs.gpr c.loop-n.n c.word_from-word.result = ap (λ (r : Registers). r.gpr) c.set_gpr.ensures.written in
    let full : length c.loop-n.regs.gpr ≡ 32 = sym (length-set c.loop-n.regs.gpr c.loop-n.n c.word_from-word.result) ∙ sym (ap length gpr) ∙ c.set_gpr.ensures.count in
    record {
      rest = rest_step c.args.regs.now c.loop-n.regs c.set_gpr.new.self _ c.loop-n.invariant.rest c.set_gpr.ensures.written;
      words = rw gpr (fill_step c.loop-n.regs.gpr c.args.bytes.now c.loop-n.n c.rt-first.result c.word_from-word.result c.loop-n-test.true c.loop-n.auto.n (omega arith) c.word_from-word.ensures ∙ c.loop-n.invariant.words);
      count = λ h. c.set_gpr.ensures.count;
    }

pub returns : goal.returns
unfolding filled
returns c =
    let last : c.loop-n.n ≡ 32 = omega (arith, c.loop-n.auto.n-end (omega arith)) in
    let g = fill_end c.loop-n.regs.gpr (drop (4 * (c.loop-n.n - c.rt-first.result)) c.args.bytes.now) _ c.loop-n.n last (c.loop-n.invariant.count (omega arith)) c.loop-n.invariant.words in
    rest_end c.args.regs.now c.loop-n.regs _ c.loop-n.invariant.rest
    (g ∙ ap (λ k. take k c.args.regs.now.gpr ++ words_in (32 - k) c.args.bytes.now) c.rt-first.ensures.field)
