-- A tree's rows are those of its tokens.
use Rattle.std.proofs.Common.{◌≡◌, ℕ, List, [], ◌∷◌, ◌++◌, map, refl, sym, ap, subst, ◌∙◌, append_assoc}
use Rattle.std.specs.List.{flat_map}
use Rattle.std.proofs.lemmas.List.{append-nil}
use Rattle.std.proofs.lemmas.List.Concat.{flat_map-append}
use Rattle.dt_model.specs.declared.tree.Node.{Node}
use Rattle.dt_model.specs.declared.tree.Node.TheOpen.{Node-F}
use Rattle.dt_model.specs.declared.tree.Node.TheViews.{out-Node, roll-Node, out-roll-Node}
use Rattle.dt_model.specs.declared.tree.Node.TheFolds.{ind-Node, map-Node}
use Rattle.dt_model.specs.declared.tree.Property.{Property}
use Rattle.dt_model.specs.declared.tree.Tree.{Tree}
use Rattle.dt_model.specs.Token.{Token, EndNode, Finish}
use Rattle.dt_model.specs.Node.{property_token, node_tokens, tokens_of, Place, places_at, nodes_below, Row, NodeRow, PropertyRow, rows_at, rows_of, path_of, rows_inside, rows_in}
use Rattle.dt_model.proofs.Rules.{node_tokens-out, inside, node_tokens-roll}
use Rattle.dt_model.proofs.Below.{below_all, nodes_below-roll, nodes_below-out}

path_of-child : (before name : List ℕ) → path_of (before ++ 0x2f ∷ name) ≡ before ++ 0x2f ∷ name
path_of-child [] name = refl
path_of-child (c ∷ before) name = refl

abbrev property_rows : List ℕ → List Property → List Row
property_rows path = map (λ property. PropertyRow path property.name property.value)

of_properties : (ps : List Property) (here : List ℕ) (outer : List (List ℕ)) (rest : List Token)
    → rows_inside (here ∷ outer) (map property_token ps ++ rest) ≡ property_rows (path_of here) ps ++ rows_inside (here ∷ outer) rest
of_properties [] here outer rest = refl
of_properties (p ∷ ps) here outer rest = ap (λ (rows : List Row). PropertyRow (path_of here) p.name p.value ∷ rows) (of_properties ps here outer rest)

abbrev HasRows : Node → Type 0
HasRows node = (here : List ℕ) (outer : List (List ℕ)) (rest : List Token)
    → rows_inside (here ∷ outer) (node_tokens node ++ rest) ≡ flat_map rows_at (places_at here (node, nodes_below node)) ++ rows_inside (here ∷ outer) rest

of_children : (nodes : List ((node : Node) × HasRows node)) (here : List ℕ) (outer : List (List ℕ)) (rest : List Token)
    → rows_inside (here ∷ outer) (flat_map node_tokens (map (λ e. e.0) nodes) ++ rest) ≡ flat_map rows_at (below_all here (map (λ e. e.0) nodes)) ++ rows_inside (here ∷ outer) rest
of_children [] here outer rest = refl
of_children (node ∷ others) here outer rest =
    let tokens = flat_map node_tokens (map (λ e. e.0) others) in
    let places = below_all here (map (λ e. e.0) others) in
    let mine = flat_map rows_at (places_at here (node.0, nodes_below node.0)) in
    ap (rows_inside (here ∷ outer)) (append_assoc (node_tokens node.0) tokens rest)
    ∙ node.1 here outer (tokens ++ rest)
    ∙ ap (λ (rows : List Row). mine ++ rows) (of_children others here outer rest)
    ∙ sym (append_assoc mine (flat_map rows_at places) (rows_inside (here ∷ outer) rest))
    ∙ ap (λ (rows : List Row). rows ++ rows_inside (here ∷ outer) rest) (sym (flat_map-append rows_at (places_at here (node.0, nodes_below node.0)) places))

-- inside a node, up to its end and behind it
of_inside : (x : Node-F Node) (here : List ℕ) (outer : List (List ℕ)) (rest : List Token)
    → ((after : List Token) → rows_inside (here ∷ outer) (flat_map node_tokens x.children.items ++ after) ≡ flat_map rows_at (below_all here x.children.items) ++ rows_inside (here ∷ outer) after)
    → rows_inside (here ∷ outer) (inside x ++ rest) ≡ (property_rows (path_of here) x.props.items ++ flat_map rows_at (below_all here x.children.items)) ++ rows_inside outer rest
of_inside x here outer rest children =
    let ps = map property_token x.props.items in
    let cs = flat_map node_tokens x.children.items in
    let rows = property_rows (path_of here) x.props.items in
    let below = flat_map rows_at (below_all here x.children.items) in
    ap (rows_inside (here ∷ outer)) (append_assoc ps (cs ++ EndNode ∷ []) rest ∙ ap (λ (ts : List Token). ps ++ ts) (append_assoc cs (EndNode ∷ []) rest))
    ∙ of_properties x.props.items here outer (cs ++ (EndNode ∷ [] ++ rest))
    ∙ ap (λ (rs : List Row). rows ++ rs) (children (EndNode ∷ rest))
    ∙ sym (append_assoc rows below (rows_inside outer rest))

children_of : (x : Node-F Node) (y : Node-F ((node : Node) × HasRows node)) → map-Node ((node : Node) × HasRows node) Node (λ e. e.0) y ≡ x → (here : List ℕ) (outer : List (List ℕ)) (after : List Token)
    → rows_inside (here ∷ outer) (flat_map node_tokens x.children.items ++ after) ≡ flat_map rows_at (below_all here x.children.items) ++ rows_inside (here ∷ outer) after
children_of x y is here outer after =
    subst (λ (z : Node-F Node). rows_inside (here ∷ outer) (flat_map node_tokens z.children.items ++ after) ≡ flat_map rows_at (below_all here z.children.items) ++ rows_inside (here ∷ outer) after) is
    (of_children y.children.items here outer after)

rows-roll : (x : Node-F Node) (here : List ℕ) → flat_map rows_at (places_at here (roll-Node x, nodes_below (roll-Node x)))
    ≡ NodeRow (here ++ 0x2f ∷ x.name) ∷ (property_rows (here ++ 0x2f ∷ x.name) x.props.items ++ flat_map rows_at (below_all (here ++ 0x2f ∷ x.name) x.children.items))
rows-roll x here =
    ap (λ (z : Node-F Node). NodeRow (here ++ 0x2f ∷ z.name) ∷ (property_rows (here ++ 0x2f ∷ z.name) z.props.items ++ flat_map rows_at (nodes_below (roll-Node x) (here ++ 0x2f ∷ z.name)))) (out-roll-Node x)
    ∙ ap (λ (places : List Place). NodeRow (here ++ 0x2f ∷ x.name) ∷ (property_rows (here ++ 0x2f ∷ x.name) x.props.items ++ flat_map rows_at places)) (nodes_below-roll x (here ++ 0x2f ∷ x.name))

of_node : (x : Node-F Node) (y : Node-F ((node : Node) × HasRows node)) → map-Node ((node : Node) × HasRows node) Node (λ e. e.0) y ≡ x → HasRows (roll-Node x)
of_node x y is here outer rest =
    let path = here ++ 0x2f ∷ x.name in
    let below = of_inside x path (here ∷ outer) rest (children_of x y is path (here ∷ outer)) in
    ap (λ (ts : List Token). rows_inside (here ∷ outer) (ts ++ rest)) (node_tokens-roll x)
    ∙ ap (λ (rs : List Row). NodeRow path ∷ rs) (below ∙ ap (λ (p : List ℕ). (property_rows p x.props.items ++ flat_map rows_at (below_all path x.children.items)) ++ rows_inside (here ∷ outer) rest) (path_of-child here x.name))
    ∙ ap (λ (rs : List Row). rs ++ rows_inside (here ∷ outer) rest) (sym (rows-roll x here))

of_each : (node : Node) → HasRows node
of_each = ind-Node HasRows of_node

with_rows : List Node → List ((node : Node) × HasRows node)
with_rows [] = []
with_rows (node ∷ others) = (node, of_each node) ∷ with_rows others

with_rows-nodes : (nodes : List Node) → map (λ e. e.0) (with_rows nodes) ≡ nodes
unfolding with_rows
with_rows-nodes [] = refl
with_rows-nodes (node ∷ others) = ap (λ (ns : List Node). node ∷ ns) (with_rows-nodes others)

of_all : (nodes : List Node) (here : List ℕ) (outer : List (List ℕ)) (rest : List Token)
    → rows_inside (here ∷ outer) (flat_map node_tokens nodes ++ rest) ≡ flat_map rows_at (below_all here nodes) ++ rows_inside (here ∷ outer) rest
of_all nodes here outer rest =
    subst (λ (ns : List Node). rows_inside (here ∷ outer) (flat_map node_tokens ns ++ rest) ≡ flat_map rows_at (below_all here ns) ++ rows_inside (here ∷ outer) rest) (with_rows-nodes nodes)
    (of_children (with_rows nodes) here outer rest)

pub rows_of-is : (tree : Tree) → rows_of tree ≡ rows_in (tokens_of tree)
rows_of-is tree =
    let root = out-Node tree.root in
    let rows : List Row = property_rows (0x2f ∷ []) root.props.items ++ flat_map rows_at (below_all [] root.children.items) in
    ap (λ (places : List Place). NodeRow (0x2f ∷ []) ∷ (property_rows (0x2f ∷ []) root.props.items ++ flat_map rows_at places)) (nodes_below-out tree.root [])
    ∙ ap (λ (rs : List Row). NodeRow (0x2f ∷ []) ∷ rs) (sym (append-nil rows) ∙ sym (of_inside root [] [] (Finish ∷ []) (of_all root.children.items [] [])))
    ∙ ap (λ (ts : List Token). rows_in (ts ++ Finish ∷ [])) (sym (node_tokens-out tree.root))

-- the same tokens, and so the same rows
pub same_rows : (a b : Tree) → tokens_of a ≡ tokens_of b → rows_of a ≡ rows_of b
same_rows a b same = rows_of-is a ∙ ap rows_in same ∙ sym (rows_of-is b)
