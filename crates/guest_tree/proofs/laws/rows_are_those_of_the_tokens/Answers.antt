use Rattle.std.proofs.Common.{ap, ◌∙◌}
use Rattle.dt_model.specs.Node.{rows_in}
use Rattle.guest_tree.proofs.Rows.{rows-guest}
use Rattle.guest_tree.proofs.laws.rows_are_those_of_the_tokens.Goals as goal

pub returns : goal.returns
returns c = λ config part tree tokens. c.rows_are_those_of_the_tokens.ensures tree ∙ ap rows_in tokens ∙ rows-guest config part
