use Rattle.copy_lists.proofs.Meaning.{source_stays}
use Rattle.copy_lists.proofs.laws.the_source_stays.Goals as goal

pub returns : goal.returns
returns c = source_stays
