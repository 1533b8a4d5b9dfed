use Rattle.dt_model.proofs.Blobs.{one_tree}
use Rattle.dt_model.proofs.law.blobs_have_one_tree.Goals as goal

pub returns : goal.returns
returns c = one_tree
