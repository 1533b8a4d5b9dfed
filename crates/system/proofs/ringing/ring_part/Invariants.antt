use Rattle.std.proofs.Common.{◌≡◌}
use Rattle.system.specs.Turning.{rung_upto}
use Rattle.system.proofs.ringing.ring_part.Given as goal

abbrev pub invariant-loop-place : goal.invariant-loop-place
invariant-loop-place l = l.part ≡ rung_upto l.bells l.sender l.number l.place l.initial.part
