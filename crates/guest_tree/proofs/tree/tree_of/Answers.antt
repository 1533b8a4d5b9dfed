use Rattle.std.proofs.Common.{List, [], refl, ap, ◌∙◌}
use Rattle.std.specs.List.{flat_map}
use Rattle.dt_model.specs.declared.tree.Property.{Property}
use Rattle.dt_model.specs.Token.{Token}
use Rattle.dt_model.specs.Node.{node_tokens}
use Rattle.guest_tree.specs.Properties.{root_properties}
use Rattle.dt_make.specs.Nodes.{node}
use Rattle.guest_tree.proofs.Guests.{whole-tree}
use Rattle.guest_tree.proofs.tree.tree_of.Goals as goal

pub returns : goal.returns
returns c =
    let part = c.args.part.now in
    let root = c.in_ok-root.ensures.tokens
    ∙ ap (λ (properties : List Property). node [] properties (flat_map node_tokens c.in_ok-nodes.nodes.items)) c.in_ok-properties.ensures
    ∙ ap (λ (tokens : List Token). node [] (root_properties part) tokens) c.in_ok-nodes.ensures in
    whole-tree c.args.config.now part _ c.rows_are_those_of_the_tokens.ensures c.new.ensures.items refl root
