use Rattle.std.proofs.Common.{◌≡◌, ◌++◌, drop}
use Rattle.hv_config.specs.Seat.{seats_below}
use Rattle.hv_config.proofs.Seats.{all_below}
use Rattle.hv_config.proofs.seat.+push_below.Given as goal

abbrev pub invariant-loop-child : goal.invariant-loop-child
invariant-loop-child l =
    l.seats.items ++ all_below l.role l.before (drop l.child-index l.child-items) ≡ l.initial.seats.items ++ seats_below l.node l.role l.before
