use Rattle.std.proofs.Common.{◌≡◌, ◌≤◌, ◌*◌, ◌+◌, ◌++◌, drop}
use Rattle.std.specs.List.{flat_map}
use Rattle.dt_model.specs.Node.{node_tokens}
use Rattle.guest_tree.specs.Tokens.{handle_tokens}
use Rattle.guest_tree.proofs.handles.handles.Given as goal

abbrev pub invariant-loop-handle : goal.invariant-loop-handle
invariant-loop-handle l =
    (flat_map node_tokens l.nodes.items ++ handle_tokens l.number l.next (drop l.handle-index l.handles) ≡ handle_tokens 1 0 l.handles)
    × (l.number ≡ l.handle-index + 1) × (l.next ≤ 2 * l.handle-index)
