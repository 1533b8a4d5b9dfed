use Rattle.std.proofs.Common.{◌≡◌}
use Rattle.fresh_load.specs.Placed.{sizes_of}
use Rattle.copy_lists.proofs.tests.write_entries.Given as goal

-- the sizes stay
abbrev pub invariant-loop-i : goal.invariant-loop-i
invariant-loop-i l = sizes_of l.memory ≡ l.sizes
