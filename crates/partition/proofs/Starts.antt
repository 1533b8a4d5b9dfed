-- Where a sound description's program begins.
use Rattle.std.proofs.Common.{◌≡◌, ◌<◌, ◌%◌, ◌==◌, ◌&&◌, nat_lt}
use Rattle.std.proofs.lemmas.Bool.{and_parts, eqb-true, ltb-true}
use Rattle.machine_desc.specs.declared.desc.Desc.{Desc}
use Rattle.machine_desc.specs.Sound.{IsSound, is_start_mapped}
use Rattle.fresh_load.proofs.Starting.{sound_parts}

pub record Starts (desc : Desc) : Type 0 where
  pub tree : desc.tree_at < 67108864
  pub entry : desc.entry % 4 ≡ 0

pub starts : (desc : Desc) → IsSound desc → Starts desc
unfolding is_start_mapped
starts desc sound =
    let all = and_parts (nat_lt desc.tree_at 67108864 && nat_lt desc.entry 67108864) (desc.entry % 4 == 0) (sound_parts desc sound).start in
    record { tree = ltb-true desc.tree_at 67108864 (and_parts _ _ all.0).0; entry = eqb-true (desc.entry % 4) 0 all.1 }
