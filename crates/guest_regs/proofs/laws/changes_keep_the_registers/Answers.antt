use Rattle.std.proofs.Common.{arith}
use Rattle.std.proofs.lemmas.Grind.{common_steps}
use Rattle.guest_regs.specs.Registers.{advanced}
use Rattle.guest_regs.proofs.Keeping.{start_keeps, special_keeps, numbered_keeps}
use Rattle.guest_regs.proofs.laws.changes_keep_the_registers.Goals as goal

pub returns-clause-start : goal.returns-clause-start
returns-clause-start c = start_keeps

pub returns-clause-special : goal.returns-clause-special
returns-clause-special c = special_keeps

pub returns-clause-numbered : goal.returns-clause-numbered
returns-clause-numbered c = numbered_keeps

pub returns-clause-advance : goal.returns-clause-advance
unfolding advanced
returns-clause-advance c registers kept = grind (arith, common_steps)
