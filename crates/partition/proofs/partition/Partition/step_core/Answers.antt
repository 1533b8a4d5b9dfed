use Rattle.std.proofs.Common.{◌∙◌, length-set}
use Rattle.partition.proofs.Latched.{sources_stay}
use Rattle.partition.proofs.partition.Partition.step_core.Goals as goal

pub invariant_of-self : goal.invariant_of-self
invariant_of-self g c = (
  c.self.invariant.0,
  c.step.ensures.map ∙ c.self.invariant.1,
  length-set c.self.inside.cores.items c.args.core c.step.new.self ∙ c.self.invariant.2,
  sources_stay _ _ c.self.inside.vpic c.step.new.vpic _ _ _ c.step.ensures.stepped.interrupts ∙ c.self.invariant.3,
)
