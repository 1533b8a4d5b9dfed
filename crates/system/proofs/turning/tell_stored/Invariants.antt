use Rattle.std.proofs.Common.{◌≡◌, ℕ, ◌<◌, ◌≤◌, ◌==◌, if◌then◌else◌, length}
use Rattle.system.specs.System.{part_at}
use Rattle.system.specs.Turning.{kept_part}
use Rattle.system.proofs.turning.tell_stored.Given as goal

abbrev pub invariant-loop-part : goal.invariant-loop-part
invariant-loop-part l = record {
  count : length l.parts.items ≡ length l.initial.parts.items;
  done : (part : ℕ) → part < l.part → part_at l.parts.items part ≡ (if part == l.who then part_at l.initial.parts.items part else kept_part l.stored (part_at l.initial.parts.items part));
  rest : (part : ℕ) → l.part ≤ part → part_at l.parts.items part ≡ part_at l.initial.parts.items part;
}
