use Rattle.system.proofs.Far.{entered_bytes_come, sent_bytes_come, taken_bytes_are_freed}
use Rattle.system.proofs.laws.channels_have_two_ends.Goals as goal

pub returns-clause-sent : goal.returns-clause-sent
returns-clause-sent c = sent_bytes_come

pub returns-clause-taken : goal.returns-clause-taken
returns-clause-taken c = taken_bytes_are_freed

pub returns-clause-entered : goal.returns-clause-entered
returns-clause-entered c = entered_bytes_come
