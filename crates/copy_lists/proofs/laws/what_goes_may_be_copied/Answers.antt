use Rattle.copy_lists.proofs.Going.{gone_is_checked, checked_is_copiable}
use Rattle.copy_lists.proofs.laws.what_goes_may_be_copied.Goals as goal

pub returns-clause-checked : goal.returns-clause-checked
returns-clause-checked c = gone_is_checked

pub returns-clause-copiable : goal.returns-clause-copiable
returns-clause-copiable c = checked_is_copiable
