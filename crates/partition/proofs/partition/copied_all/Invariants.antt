use Rattle.std.proofs.Common.{◌≡◌, ◌++◌, drop, map, take}
use Rattle.copy_lists.specs.Pieces.{targets_of}
use Rattle.partition.specs.Reservations.{with_copied}
use Rattle.partition.proofs.partition.copied_all.Given as goal

abbrev pub invariant-loop-core : goal.invariant-loop-core
invariant-loop-core l = l.cores.items ≡ map (with_copied (targets_of l.entries)) (take l.core l.initial.cores.items) ++ drop l.core l.initial.cores.items
