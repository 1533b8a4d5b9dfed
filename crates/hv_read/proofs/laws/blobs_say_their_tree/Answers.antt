use Rattle.hv_read.proofs.Same.{says_the_same}
use Rattle.hv_read.proofs.laws.blobs_say_their_tree.Goals as goal

pub returns : goal.returns
returns c = says_the_same
