use Rattle.std.proofs.Common.{◌-◌, ◌≤◌}
use Rattle.vpic.proofs.Floor.{IsFloorOf}
use Rattle.vpic.proofs.controller.Vpic.floor.Given as goal

-- the floor of the sources so far
abbrev pub invariant-loop-n : goal.invariant-loop-n
invariant-loop-n l = record {
  floor : IsFloorOf l.self l.n l.floor;
  within : l.n ≤ l.count;
}

abbrev pub decreases-loop-n : goal.decreases-loop-n
decreases-loop-n l = l.count - l.n
