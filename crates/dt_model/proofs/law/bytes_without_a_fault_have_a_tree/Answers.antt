use Rattle.dt_model.proofs.Existence.{a_tree}
use Rattle.dt_model.proofs.law.bytes_without_a_fault_have_a_tree.Goals as goal

pub returns : goal.returns
returns c = a_tree
