use Rattle.std.proofs.Common.{◌≡◌, ◌∙◌, List, Some, length, ap, sym, subst, arith}
use Rattle.machine_desc.specs.declared.desc.Port.{Port}
use Rattle.vpic.specs.Controller.{Controller}
use Rattle.partition.specs.Interrupts.{bell_at}
use Rattle.partition.proofs.Levels.{bell_below}
use Rattle.partition.proofs.Latched.{ring_sources}
use Rattle.partition.proofs.partition.Partition.ring.Goals as goal

pub ring-requires : goal.ring-requires
ring-requires c =
    let bell = subst (λ (ports : List Port). Some c.in-Some.irq ≡ bell_at ports c.args.h) c.as_slice.ensures c.in-Some.ensures in
    omega (arith, bell_below c.self.inside.desc c.args.h c.in-Some.irq c.self.invariant.0 (sym bell), c.self.invariant.3)

pub invariant_of-self : goal.invariant_of-self
invariant_of-self c =
    (c.self.invariant.0, c.self.invariant.1, c.self.invariant.2, ap (λ (it : Controller). length it.sources) c.ring.ensures ∙ ring_sources c.in-Some.irq c.self.inside.vpic ∙ c.self.invariant.3)
