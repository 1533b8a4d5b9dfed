use Rattle.std.proofs.Common.{sym, ◌∙◌}
use Rattle.insn.proofs.Rows.{op_of-fields}
use Rattle.insn.proofs.decoder.op_of_word.Goals as goal

pub returns : goal.returns
returns c = c.op_of_opcode.ensures ∙ sym (op_of-fields c.args.word c.ranges.word.fits)
