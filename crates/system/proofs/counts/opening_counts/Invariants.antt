use Rattle.std.proofs.Common.{◌≡◌, replicate}
use Rattle.network.specs.World.{no_counts}
use Rattle.system.proofs.counts.opening_counts.Given as goal

abbrev pub invariant-loop-console : goal.invariant-loop-console
invariant-loop-console l = l.counts.items ≡ replicate l._console no_counts
