use Rattle.std.proofs.Common.{◌≡◌, ◌++◌, drop}
use Rattle.config_descs.specs.Wired.{refs_from}
use Rattle.config_descs.proofs.refs.refs_of.Given as goal

abbrev pub invariant-loop-i : goal.invariant-loop-i
invariant-loop-i l = l.refs.items ++ refs_from l.kind l.name l.i (drop l.i l.parts) ≡ refs_from l.kind l.name 0 l.parts
