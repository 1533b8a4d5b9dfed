use Rattle.topaz_run.proofs.NamedLines.{described_named}
use Rattle.topaz_run.proofs.laws.described_partitions_are_named.Goals as goal

pub returns : goal.returns
returns c = described_named c.accepted_keep_names.ensures
