use Rattle.std.proofs.Common.{◌≡◌, ◌++◌, drop, map, take}
use Rattle.partition.specs.Reservations.{with_kept}
use Rattle.partition.proofs.partition.written_all.Given as goal

abbrev pub invariant-loop-core : goal.invariant-loop-core
invariant-loop-core l = l.cores.items ≡ map (with_kept l.regions l.stored) (take l.core l.initial.cores.items) ++ drop l.core l.initial.cores.items
