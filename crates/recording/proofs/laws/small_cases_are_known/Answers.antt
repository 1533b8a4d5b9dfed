use Rattle.recording.proofs.SmallCases.{events_known, order_known}
use Rattle.recording.proofs.laws.small_cases_are_known.Goals as goal

pub returns-clause-events : goal.returns-clause-events
returns-clause-events c = events_known

pub returns-clause-order : goal.returns-clause-order
returns-clause-order c = order_known
