use Rattle.std.proofs.Common.{◌≡◌, ◌∷◌, [], ◌++◌, codes, take}
use Rattle.std.specs.List.{flat_map}
use Rattle.gen_load.specs.Names.{digit}
use Rattle.gen_load.proofs.files.script.Given as goal

abbrev pub invariant-loop-core : goal.invariant-loop-core
invariant-loop-core l = l.text.items ≡ codes "order" ++ flat_map (λ core. 0x20 ∷ digit core ∷ []) (take l.core-index l.order)
