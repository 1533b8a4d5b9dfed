use Rattle.std.proofs.Common.{◌≡◌, ◌+◌, ◌∷◌, take}
use Rattle.dt_make.specs.Values.{cells}
use Rattle.gen_load.specs.Files.{loop_words}
use Rattle.gen_load.proofs.files.image.Given as goal

abbrev pub invariant-loop-word : goal.invariant-loop-word
invariant-loop-word l = l.image.items ≡ cells ((0x39C00000 + l.start) ∷ take l.word-index loop_words)
