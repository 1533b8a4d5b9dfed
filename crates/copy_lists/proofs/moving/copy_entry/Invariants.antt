use Rattle.std.proofs.Common.{◌≡◌, ◌-◌, ◌≤◌}
use Rattle.copy_lists.specs.Moving.{put, bytes_in}
use Rattle.copy_lists.proofs.moving.copy_entry.Given as goal

-- the bytes so far are copied
abbrev pub invariant-loop-done : goal.invariant-loop-done
invariant-loop-done l = record {
  within : l.done ≤ l.size;
  copied : l.ground ≡ put l.to l.fn.ground l.entry.target (bytes_in l.from l.fn.ground l.entry.source l.done);
}

abbrev pub decreases-loop-done : goal.decreases-loop-done
decreases-loop-done l = l.size - l.done
