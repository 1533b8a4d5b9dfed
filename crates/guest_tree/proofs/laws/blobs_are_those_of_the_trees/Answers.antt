use Rattle.guest_tree.proofs.Guests.{blob-is}
use Rattle.guest_tree.proofs.laws.blobs_are_those_of_the_trees.Goals as goal

pub returns : goal.returns
returns c = blob-is
