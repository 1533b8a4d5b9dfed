use Rattle.std.proofs.Common.{◌≡◌, ℕ, List, length, ap, ◌∙◌, arith}
use Rattle.std.proofs.lemmas.List.FromFn.{length-map-range_with_len}
use Rattle.fresh_load.proofs.Starting.{few_cores}
use Rattle.vpic.specs.Controller.{Controller}
use Rattle.partition.specs.Machine.{Cpu, booted}
use Rattle.partition.specs.Lending.{Part}
use Rattle.partition.proofs.Latched.{fresh_sources}
use Rattle.partition.proofs.Starts.{starts}
use Rattle.partition.proofs.partition.Partition.boot.Goals as goal

pub overflow_cast-tree_at : goal.overflow_cast-tree_at
overflow_cast-tree_at c = let start = (starts c.self.inside.desc c.self.invariant.0).tree in omega (arith, start)

pub reboot_all-requires-clause-few : goal.reboot_all-requires-clause-few
reboot_all-requires-clause-few c =
    let few = few_cores c.self.inside.desc c.self.invariant.0 in
    let count = c.self.invariant.2 in
    omega (arith, few, count)

pub invariant_of-self : goal.invariant_of-self
invariant_of-self c =
    let cores : List Cpu = c.self.inside.cores.items in
    let count : length c.reboot_all.new.cores.items ≡ length cores =
    ap (λ (all : List Cpu). length all) c.reboot_all.ensures ∙ length-map-range_with_len (λ (number : ℕ). booted c.args.entry c.self.inside.desc.tree_at number) 0 (length cores) in (
      c.self.invariant.0,
      c.self.invariant.1,
      count ∙ c.self.invariant.2,
      ap (λ (it : Controller). length it.sources) c.new-self-inside.ensures ∙ fresh_sources c.interrupt_count.result ∙ c.interrupt_count.ensures.count,
    )

pub returns-clause-cores : goal.returns-clause-cores
returns-clause-cores c =
    let cores : List Cpu = c.self.inside.cores.items in
    ap (λ (all : List Cpu). length all) c.reboot_all.ensures
    ∙ (length-map-range_with_len (λ (number : ℕ). booted c.args.entry c.self.inside.desc.tree_at number) 0 (length cores) ∙ ap (λ (p : Part). length p.inner.cores) c.self.view_is)
