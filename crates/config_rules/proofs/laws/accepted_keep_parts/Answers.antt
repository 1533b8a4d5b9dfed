use Rattle.config_rules.proofs.Parts.{keeps_parts}
use Rattle.config_rules.proofs.laws.accepted_keep_parts.Goals as goal

pub returns : goal.returns
returns c = keeps_parts
