use Rattle.std.proofs.Common.{◌≡◌, ◌-◌, ◌≤◌, length, take}
use Rattle.copy_lists.specs.Moving.{put}
use Rattle.copy_lists.proofs.bringing.put_bytes.Given as goal

-- the bytes so far are put
abbrev pub invariant-loop-done : goal.invariant-loop-done
invariant-loop-done l = record {
  within : l.done ≤ length l.bytes;
  put_so_far : l.ground ≡ put l.map l.fn.ground l.at (take l.done l.bytes);
}

abbrev pub decreases-loop-done : goal.decreases-loop-done
decreases-loop-done l = length l.bytes - l.done
