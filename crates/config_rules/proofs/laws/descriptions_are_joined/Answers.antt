use Rattle.config_rules.proofs.Joined.{bases_joined, descs_joined}
use Rattle.config_rules.proofs.laws.descriptions_are_joined.Goals as goal

pub returns-clause-bases : goal.returns-clause-bases
returns-clause-bases c = bases_joined

pub returns-clause-completed : goal.returns-clause-completed
returns-clause-completed c = descs_joined
