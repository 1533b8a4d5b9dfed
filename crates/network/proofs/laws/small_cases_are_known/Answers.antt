use Rattle.network.proofs.SmallRun.{small_run}
use Rattle.network.proofs.laws.small_cases_are_known.Goals as goal

pub returns-clause-run : goal.returns-clause-run
returns-clause-run c = small_run
