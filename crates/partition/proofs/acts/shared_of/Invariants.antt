use Rattle.std.proofs.Common.{◌≡◌, ◌≤◌, filter, length, take}
use Rattle.core_step.specs.declared.answer.Wrote.{Wrote as WroteValue}
use Rattle.partition.specs.Lending.{is_shared_extent}
use Rattle.partition.proofs.acts.shared_of.Given as goal

abbrev pub invariant-loop-range : goal.invariant-loop-range
invariant-loop-range l =
    (l.shared.items ≡ filter (λ (range : WroteValue). is_shared_extent l.regions range.extent) (take l.range-index l.ranges)) × (length l.shared.items ≤ l.range-index)
