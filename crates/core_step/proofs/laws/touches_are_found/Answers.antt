use Rattle.core_step.proofs.Few.{touches_are_found_all}
use Rattle.core_step.proofs.laws.touches_are_found.Goals as goal

pub returns : goal.returns
returns c = touches_are_found_all
