use Rattle.ground.proofs.Theirs.{own_after_write, foreign_after_write}
use Rattle.ground.proofs.own.regions_are_written_in_their_extents.Goals as goal

pub returns-clause-own : goal.returns-clause-own
returns-clause-own c = own_after_write

pub returns-clause-foreign : goal.returns-clause-foreign
returns-clause-foreign c = foreign_after_write
