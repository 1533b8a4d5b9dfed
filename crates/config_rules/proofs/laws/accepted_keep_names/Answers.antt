use Rattle.config_rules.proofs.Parts.{keeps_names}
use Rattle.config_rules.proofs.laws.accepted_keep_names.Goals as goal

pub returns : goal.returns
returns c = keeps_names
