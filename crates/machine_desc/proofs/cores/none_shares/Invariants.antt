use Rattle.std.proofs.Common.{◌≡◌, [], take, drop}
use Rattle.machine_desc.specs.Ranges.{none_meets}
use Rattle.machine_desc.specs.Joined.{share_core}
use Rattle.machine_desc.proofs.cores.none_shares.Given as goal

abbrev pub invariant-loop-i : goal.invariant-loop-i
invariant-loop-i l = none_meets share_core (take l.i l.descs) (drop l.i l.descs) ≡ none_meets share_core [] l.descs
