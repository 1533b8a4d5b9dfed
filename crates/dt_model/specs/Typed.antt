-- Numbers that their types hold: a law speaks of every number, and a tree of the program has these alone.
use Rattle.std.specs.Prelude.{◌<◌, ◌^◌, List, [], ◌∷◌}
use Rattle.dt_model.specs.declared.tree.Reserve.{Reserve}
use Rattle.dt_model.specs.declared.tree.Tree.{Tree}

-- each address and size has 64 bits
abbrev pub AreDoubles : List Reserve → Type 0
AreDoubles [] = Unit {0}
AreDoubles (entry ∷ entries) = (entry.address < 2 ^ 64) × (entry.size < 2 ^ 64) × AreDoubles entries

pub record IsTyped (tree : Tree) : Type 0 where
  pub boot_cpu : tree.boot_cpu < 2 ^ 32
  pub reserve : AreDoubles tree.reserve.items
