use Rattle.std.proofs.Common.{List, subst, sym}
use Rattle.machine_desc.specs.declared.desc.Region.{Region}
use Rattle.fresh_load.specs.Placed.{extents_of}
use Rattle.core_step.specs.Pages.{AreBacked}
use Rattle.partition.specs.Regions.{areas_of}
use Rattle.partition.specs.Found.{lookup_in}
use Rattle.partition.proofs.Backed.{backed}
use Rattle.partition.proofs.cpu.Cpu.execute.Goals as goal

pub step-requires : goal.step-requires
step-requires c =
    subst (λ (regions : List Region). AreBacked c.args.ground.now (lookup_in (extents_of regions) (areas_of regions) c.self.inside.mmu.tlb)) (sym c.as_slice.ensures)
    (backed c.args.desc.now c.args.ground.now c.self.inside.mmu.tlb c.requires.sound c.requires.placed c.are_kept.ensures)
