use Rattle.std.proofs.Common.{◌≡◌, ℕ, List, drop}
use Rattle.std.specs.Prelude.{find}
use Rattle.dt_model.specs.Node.{is_phandle, nodes_below}
use Rattle.dt_model.proofs.Below.{below_all}
use Rattle.dt_model.proofs.lookup.+phandle_below.Given as goal

abbrev pub invariant-loop-child : goal.invariant-loop-child
invariant-loop-child l =
    (before : List ℕ) →
    find (λ place. is_phandle l.number place.1) (below_all before (drop l.child-index l.child-items))
    ≡ find (λ place. is_phandle l.number place.1) (nodes_below l.node before)
