use Rattle.std.proofs.Common.{◌≡◌, ◌+◌, ◌-◌, ◌^◌, ◌<◌, bit_and, bit_or, length, drop}
use Rattle.partition.specs.Interrupts.{levels_from}
use Rattle.partition.proofs.interrupts.levels_among.Given as goal

-- the levels so far, and those of the handles from here on
abbrev pub invariant-loop-place : goal.invariant-loop-place
invariant-loop-place g l = record {
  levels :
      bit_or l.levels (bit_and (levels_from (l.place + 1) (drop l.place l.handles) (g.P.Ports.seen l.ports)) l.left) ≡ bit_and (levels_from 1 l.handles (g.P.Ports.seen l.ports)) l.numbers;
  left : l.left < 2 ^ 128;
}

abbrev pub decreases-loop-place : goal.decreases-loop-place
decreases-loop-place g l = length l.handles - l.place
