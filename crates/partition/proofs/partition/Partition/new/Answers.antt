use Rattle.std.proofs.Common.{◌≡◌, ◌∙◌, length, ap, arith}
use Rattle.std.proofs.lemmas.Grind.{common_steps}
use Rattle.vpic.specs.Controller.{Controller}
use Rattle.partition.specs.Lending.{Kit}
use Rattle.partition.proofs.Latched.{fresh_sources}
use Rattle.partition.proofs.Starts.{starts}
use Rattle.partition.proofs.partition.Partition.new.Goals as goal

-- src/partition.rt:57:50
pub overflow_cast-desc : goal.overflow_cast-desc
overflow_cast-desc c = let start = (starts c.args.desc c.requires.sound).tree in omega (arith, start)

-- src/partition.rt:57:19
pub booted-requires : goal.booted-requires
booted-requires c = (starts c.args.desc c.requires.sound).entry

pub invariant_of-result : goal.invariant_of-result
invariant_of-result c =
    let one : length c.push.new.self.items ≡ length c.args.desc.cores = grind (arith, common_steps, c.requires.core, c.in_ok-push.ensures.items, c.in_ok-cores.ensures.items) in (
      c.requires.sound,
      ap (λ (kit : Kit). kit.map) c.in_ok-copier.ensures,
      one,
      ap (λ (it : Controller). length it.sources) c.new-vpic.ensures ∙ fresh_sources c.interrupt_count.result ∙ c.interrupt_count.ensures.count,
    )
