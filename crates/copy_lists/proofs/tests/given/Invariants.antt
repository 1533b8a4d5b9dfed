use Rattle.std.proofs.Common.{◌≡◌, [], ◌∷◌}
use Rattle.fresh_load.specs.Placed.{sizes_of}
use Rattle.copy_lists.proofs.tests.given.Given as goal

-- the sizes stay
abbrev pub invariant-loop-extent : goal.invariant-loop-extent
invariant-loop-extent l = sizes_of l.memory ≡ 1048576 ∷ 4096 ∷ 1048576 ∷ 4096 ∷ 4096 ∷ []
