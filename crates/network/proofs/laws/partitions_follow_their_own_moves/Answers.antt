use Rattle.network.proofs.Alone.{left_alone, follows_moves}
use Rattle.network.proofs.laws.partitions_follow_their_own_moves.Goals as goal

pub returns-clause-own : goal.returns-clause-own
returns-clause-own c = follows_moves

pub returns-clause-others : goal.returns-clause-others
returns-clause-others c = left_alone
