use Rattle.dt_model.proofs.Rows.{rows_of-is}
use Rattle.dt_model.proofs.law.rows_are_those_of_the_tokens.Goals as goal

pub returns : goal.returns
returns c = rows_of-is
