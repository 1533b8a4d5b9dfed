use Rattle.std.proofs.Common.{sym, ◌∙◌}
use Rattle.partition.specs.Regions.{areas_of}
use Rattle.partition.proofs.Areas.{same_position, position_covers}
use Rattle.partition.proofs.found.region_with.Goals as goal

pub returns-clause-value : goal.returns-clause-value
returns-clause-value c = c.first_with.ensures ∙ sym (same_position c.args.regions.now c.args.logical)

pub returns-clause-covers : goal.returns-clause-covers
returns-clause-covers c = position_covers (areas_of c.args.regions.now) c.args.logical c.first_with.result (returns-clause-value c)
