use Rattle.std.proofs.Common.{◌≡◌}
use Rattle.fresh_load.specs.Placed.{sizes_of}
use Rattle.fresh_load.proofs.tests.bytes.old_memory.Given as goal

-- the sizes stay
abbrev pub invariant-loop-extent : goal.invariant-loop-extent
invariant-loop-extent l = sizes_of l.memory ≡ l.sizes
