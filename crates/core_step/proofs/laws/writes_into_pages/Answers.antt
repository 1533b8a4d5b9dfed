use Rattle.core_step.proofs.Ranges.{writes_into_pages}
use Rattle.core_step.proofs.laws.writes_into_pages.Goals as goal

pub returns : goal.returns
returns c = writes_into_pages
