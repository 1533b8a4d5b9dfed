use Rattle.std.proofs.Common.{◌≡◌, ◌+◌, take, drop, map}
use Rattle.dt_model.specs.Node.{name_of}
use Rattle.dt_model.specs.Walk.{children_walk, node_walk, walks}
use Rattle.dt_model.proofs.fitting.+counts_after.Given as goal

abbrev pub invariant-loop-i : goal.invariant-loop-i
invariant-loop-i l =
    children_walk (l.depth + 1) (map name_of (take l.i l.child-items)) (walks (drop l.i l.child-items)) l.counts
    ≡ node_walk l.node l.depth l.fn.before
