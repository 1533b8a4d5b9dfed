use Rattle.topaz_run.proofs.Done.{prints_alone}
use Rattle.topaz_run.proofs.laws.done_runs_print_alone.Goals as goal

pub returns : goal.returns
returns c = prints_alone c.described_partitions_are_named.ensures c.described_partitions_are_joined.ensures c.lines_are_its_own.ensures c.recordings_fit.ensures
