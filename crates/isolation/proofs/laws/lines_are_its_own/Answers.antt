use Rattle.isolation.proofs.Alone.{lines_in}
use Rattle.isolation.proofs.laws.lines_are_its_own.Goals as goal

pub returns : goal.returns
returns c = lines_in
