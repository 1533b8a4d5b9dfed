use Rattle.std.proofs.Common.{◌≡◌, ◌-◌}
use Rattle.std.specs.List.{list_all, range_with_len}
use Rattle.machine_desc.specs.Sound.{has_private_spin_entry}
use Rattle.machine_desc.proofs.spin.are_spin_entries_private.Given as goal

abbrev pub invariant-loop-core : goal.invariant-loop-core
invariant-loop-core l =
    list_all (has_private_spin_entry l.desc) (range_with_len l.core (l.count - l.core)) ≡ list_all (has_private_spin_entry l.desc) (range_with_len 1 (l.count - 1))
