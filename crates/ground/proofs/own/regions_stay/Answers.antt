use Rattle.ground.proofs.Theirs.{own_stays, own_sizes, extents_stay}
use Rattle.ground.proofs.own.regions_stay.Goals as goal

pub returns-clause-bytes : goal.returns-clause-bytes
returns-clause-bytes c = own_stays

pub returns-clause-sizes : goal.returns-clause-sizes
returns-clause-sizes c = own_sizes

pub returns-clause-extents : goal.returns-clause-extents
returns-clause-extents c = extents_stay
