use Rattle.config_rules.proofs.Limits.{keeps_limits}
use Rattle.config_rules.proofs.laws.accepted_keep_limits.Goals as goal

pub returns : goal.returns
returns c = keeps_limits
