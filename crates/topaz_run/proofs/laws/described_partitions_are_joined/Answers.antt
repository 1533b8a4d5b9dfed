use Rattle.topaz_run.proofs.Described.{described_joined}
use Rattle.topaz_run.proofs.laws.described_partitions_are_joined.Goals as goal

pub returns : goal.returns
returns c = described_joined c.accepted_keep_parts.ensures c.descriptions_are_joined.ensures.bases c.descriptions_are_joined.ensures.completed
