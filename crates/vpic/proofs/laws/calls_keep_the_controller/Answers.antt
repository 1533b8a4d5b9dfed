use Rattle.vpic.proofs.Keeping.{begins, taking, ending, configuring, masking, setting_task, ringing}
use Rattle.vpic.proofs.laws.calls_keep_the_controller.Goals as goal

pub returns-clause-begins : goal.returns-clause-begins
returns-clause-begins c = begins

pub returns-clause-taking : goal.returns-clause-taking
returns-clause-taking c = taking

pub returns-clause-ending : goal.returns-clause-ending
returns-clause-ending c = ending

pub returns-clause-configuring : goal.returns-clause-configuring
returns-clause-configuring c = configuring

pub returns-clause-masking : goal.returns-clause-masking
returns-clause-masking c = masking

pub returns-clause-task : goal.returns-clause-task
returns-clause-task c = setting_task

pub returns-clause-ringing : goal.returns-clause-ringing
returns-clause-ringing c = ringing
