use Rattle.std.proofs.Common.{◌≡◌, true, List, sym, subst}
use Rattle.machine_desc.specs.declared.desc.Region.{Region}
use Rattle.machine_desc.specs.Sound.{are_regions_sound}
use Rattle.machine_desc.proofs.Parts.{sound_regions}
use Rattle.partition.proofs.partition.Partition.copy_in.Goals as goal

pub write-requires-clause-sound : goal.write-requires-clause-sound
write-requires-clause-sound c =
    subst (λ (regions : List Region). are_regions_sound regions ≡ true) (sym c.self.invariant.1) (sound_regions c.self.inside.desc c.self.invariant.0)
