use Rattle.ground.proofs.Theirs.{own_extent}
use Rattle.ground.proofs.own.regions_are_read_in_their_extents.Goals as goal

pub returns : goal.returns
returns c = own_extent
