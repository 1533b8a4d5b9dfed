use Rattle.network.specs.Turn.{given_at, run}
use Rattle.network.proofs.Alone.{follows_moves}
use Rattle.network.proofs.Printed.{lines_are_own}
use Rattle.network.proofs.laws.lines_are_of_own_moves.Goals as goal

pub returns : goal.returns
returns c =
    λ network script turns part named here private.
    lines_are_own network (given_at script turns) part (run network script turns) named here (follows_moves network script turns part here private)
