use Rattle.std.proofs.Common.{◌≡◌, ℕ, ◌++◌, drop, map}
use Rattle.std.specs.List.{range_with_len}
use Rattle.partition.specs.Machine.{booted}
use Rattle.partition.proofs.partition.reboot_all.Given as goal

abbrev pub invariant-loop-core : goal.invariant-loop-core
invariant-loop-core l =
    l.cores.items ≡ map (λ (number : ℕ). booted l.entry l.tree_at number) (range_with_len 0 l.core) ++ drop l.core l.initial.cores.items
