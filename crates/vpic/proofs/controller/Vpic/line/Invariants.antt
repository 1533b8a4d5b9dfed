use Rattle.std.proofs.Common.{◌-◌, ◌<◌, ◌≤◌, length, IfSome}
use Rattle.vpic.proofs.Ready.{IsBestReady}
use Rattle.vpic.proofs.controller.Vpic.line.Given as goal

-- the best of the sources so far
abbrev pub invariant-loop-n : goal.invariant-loop-n
invariant-loop-n l = record {
  best : IsBestReady l.self l.ready l.n l.best;
  range : IfSome l.best (λ b. b < length l.self.sources);
  within : l.n ≤ l.count;
}

abbrev pub decreases-loop-n : goal.decreases-loop-n
decreases-loop-n l = l.count - l.n
