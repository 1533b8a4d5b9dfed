use Rattle.std.proofs.Common.{◌≡◌, ℕ, List, ◌++◌, drop}
use Rattle.std.specs.Prelude.{find}
use Rattle.std.specs.Str.{bytes_eq}
use Rattle.dt_model.specs.Node.{nodes_below}
use Rattle.dt_model.proofs.Below.{below_all}
use Rattle.dt_model.proofs.lookup.+node_below.Given as goal

abbrev pub invariant-loop-child : goal.invariant-loop-child
invariant-loop-child l =
    (before : List ℕ) →
    find (λ place. bytes_eq place.0 (before ++ l.path)) (below_all before (drop l.child-index l.child-items))
    ≡ find (λ place. bytes_eq place.0 (before ++ l.path)) (nodes_below l.node before)
