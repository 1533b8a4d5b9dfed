use Rattle.config_rules.proofs.Limits.{keeps_limits}
use Rattle.config_rules.proofs.accepting.Accepted.wiring.Goals as goal

pub wiring_of-requires : goal.wiring_of-requires
wiring_of-requires c = keeps_limits c.self.inside.config c.self.invariant
