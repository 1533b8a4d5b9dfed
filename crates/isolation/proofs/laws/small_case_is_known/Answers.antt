use Rattle.isolation.proofs.SmallCase.{small_recording, small_print}
use Rattle.isolation.proofs.laws.small_case_is_known.Goals as goal

pub returns-clause-recording : goal.returns-clause-recording
returns-clause-recording c = small_recording

pub returns-clause-print : goal.returns-clause-print
returns-clause-print c = small_print
