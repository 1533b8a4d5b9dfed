use Rattle.config_rules.proofs.accepting.accept.Goals as goal

pub invariant_of-result : goal.invariant_of-result
invariant_of-result c = record { board = c.args.hw.now; none = c.in_ok-check.ensures.kept; plain = c.requires }
