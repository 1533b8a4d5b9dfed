use Rattle.insn.proofs.Rows.{at_most_one_fits}
use Rattle.insn.proofs.decoder.at_most_one_row_fits.Goals as goal

pub returns : goal.returns
returns c = at_most_one_fits
