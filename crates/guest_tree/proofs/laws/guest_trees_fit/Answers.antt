use Rattle.guest_tree.proofs.Guests.{tree-fits, blob-small}
use Rattle.guest_tree.proofs.laws.guest_trees_fit.Goals as goal

pub returns-clause-fit : goal.returns-clause-fit
returns-clause-fit c = tree-fits c.accepted_keep_parts.ensures

pub returns-clause-small : goal.returns-clause-small
returns-clause-small c = blob-small c.accepted_keep_parts.ensures
