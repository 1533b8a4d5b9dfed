use Rattle.std.proofs.Common.{◌≡◌}
use Rattle.copy_lists.specs.Lists.{entries_at}
use Rattle.copy_lists.specs.Moving.{byte_in}
use Rattle.copy_lists.proofs.reading.read_entries.Given as goal

-- the entries so far
abbrev pub invariant-loop-i : goal.invariant-loop-i
invariant-loop-i l = l.list ≡ entries_at (byte_in l.map l.ground) l.at l.i
