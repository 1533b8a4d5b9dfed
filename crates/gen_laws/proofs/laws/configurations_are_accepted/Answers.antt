use Rattle.gen_laws.proofs.Accepted.{accepted}
use Rattle.gen_laws.proofs.laws.configurations_are_accepted.Goals as goal

pub returns : goal.returns
returns c = accepted c.counts_are_few.ensures
