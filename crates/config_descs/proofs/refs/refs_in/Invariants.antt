use Rattle.std.proofs.Common.{◌≡◌, ◌++◌, ◌+◌, drop}
use Rattle.config_descs.specs.Wired.{refs_in}
use Rattle.config_descs.proofs.refs.refs_in.Given as goal

abbrev pub invariant-loop-i : goal.invariant-loop-i
invariant-loop-i l = l.refs.items ++ refs_in l.kind l.name l.part (l.i + 1) (drop l.i l.handles) ≡ refs_in l.kind l.name l.part 1 l.handles
