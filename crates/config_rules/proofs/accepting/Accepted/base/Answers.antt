use Rattle.std.proofs.Common.{arith}
use Rattle.config_rules.proofs.Limits.{keeps_limits}
use Rattle.config_rules.proofs.accepting.Accepted.base.Goals as goal

pub desc_of-requires-clause-limits : goal.desc_of-requires-clause-limits
desc_of-requires-clause-limits c = keeps_limits c.self.inside.config c.self.invariant

pub desc_of-requires-clause-handles : goal.desc_of-requires-clause-handles
desc_of-requires-clause-handles c =
    let limits = keeps_limits c.self.inside.config c.self.invariant in
    let few = limits.handles in
    grind (arith, few)
