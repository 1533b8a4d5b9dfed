use Rattle.std.proofs.Common.{◌≡◌, ◌∷◌, ◌++◌, map, take}
use Rattle.std.specs.List.{flat_map}
use Rattle.dt_model.specs.declared.tree.Node.TheViews.{out-Node}
use Rattle.dt_model.specs.Token.{BeginNode}
use Rattle.dt_model.specs.Node.{node_tokens, property_token}
use Rattle.dt_write.specs.Layout.{with_tokens}
use Rattle.dt_write.proofs.node.+write_node.Given as goal

abbrev pub invariant-loop-child : goal.invariant-loop-child
invariant-loop-child l =
    let node = out-Node l.node in
    l.layout ≡ with_tokens l.fn.layout
    (BeginNode node.name ∷ (map property_token node.props.items ++ flat_map node_tokens (take l.child-index node.children.items)))
