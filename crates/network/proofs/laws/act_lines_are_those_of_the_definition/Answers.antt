use Rattle.network.proofs.ActLines.{act_lines_agree}
use Rattle.network.proofs.laws.act_lines_are_those_of_the_definition.Goals as goal

pub returns : goal.returns
returns c = act_lines_agree
