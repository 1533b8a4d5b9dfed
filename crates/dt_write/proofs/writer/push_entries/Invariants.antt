use Rattle.std.proofs.Common.{◌≡◌, ◌++◌, take}
use Rattle.std.specs.List.{flat_map}
use Rattle.dt_model.specs.Canonical.{entry_bytes}
use Rattle.dt_write.proofs.writer.push_entries.Given as goal

abbrev pub invariant-loop-entry : goal.invariant-loop-entry
invariant-loop-entry l = l.out.items ≡ l.fn.out.items ++ flat_map entry_bytes (take l.entry-index l.entries)
