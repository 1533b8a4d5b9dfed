use Rattle.std.proofs.Common.{◌≡◌, ℕ, ◌<◌, ◌≤◌, length}
use Rattle.system.specs.System.{part_at}
use Rattle.system.specs.Turning.{rung_upto}
use Rattle.system.proofs.ringing.ring_all.Given as goal

abbrev pub invariant-loop-number : goal.invariant-loop-number
invariant-loop-number l = record {
  count : length l.parts.items ≡ length l.initial.parts.items;
  done : (part : ℕ) → part < l.number
      → part_at l.parts.items part ≡ rung_upto l.bells l.sender part (length (part_at l.initial.parts.items part).desc.ports) (part_at l.initial.parts.items part);
  rest : (part : ℕ) → l.number ≤ part → part_at l.parts.items part ≡ part_at l.initial.parts.items part;
}
