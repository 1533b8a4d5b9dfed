-- What a tree has, in document order (ePAPR 1.1, 2.2 "Device Tree Structure and Conventions").
use Rattle.std.specs.Prelude.{ℕ, Bool, false, ◌==◌, List, [], ◌∷◌, ◌++◌, map, find, Option, option_and_then, codes}
use Rattle.std.specs.Option.{option_map, option_map_or}
use Rattle.std.specs.List.{flat_map}
use Rattle.std.specs.Str.{bytes_eq}
use Rattle.dt_model.specs.declared.tree.Node.{Node}
use Rattle.dt_model.specs.declared.tree.Node.TheOpen.{Node-F}
use Rattle.dt_model.specs.declared.tree.Node.TheViews.{out-Node}
use Rattle.dt_model.specs.declared.tree.Node.TheFolds.{fold-Node, para-Node}
use Rattle.dt_model.specs.declared.tree.Property.{Property}
use Rattle.dt_model.specs.declared.tree.Tree.{Tree}
use Rattle.dt_model.specs.Token.{Token, BeginNode, Prop, EndNode, Finish}
use Rattle.dt_model.specs.Value.{u32_in}

-- ---- tokens

abbrev pub property_token : Property → Token
property_token property = Prop property.name property.value

-- A node's tokens: it begins, its properties come, then its children's tokens, and it ends.
abbrev pub tokens_step : Node-F (List Token) → List Token
tokens_step node =
    BeginNode node.name ∷ (map property_token node.props.items ++ (flat_map (λ tokens. tokens) node.children.items ++ EndNode ∷ []))

abbrev pub node_tokens : Node → List Token
node_tokens = fold-Node (List Token) tokens_step

-- a tree's tokens: its root's, and the END after them
abbrev pub tokens_of : Tree → List Token
tokens_of tree = node_tokens tree.root ++ Finish ∷ []

-- ---- nodes and their paths

abbrev pub name_of : Node → List ℕ
name_of node = (out-Node node).name

abbrev pub properties_of : Node → List Property
properties_of node = (out-Node node).props.items

-- a node, behind its path
abbrev pub Place : Type 0
Place = List ℕ × Node

-- the path of a child: what stands before its slash, and its name
abbrev pub child_path : List ℕ → Node → List ℕ
child_path before child = before ++ 0x2f ∷ name_of child

-- a child's place, and those below it
abbrev pub places_at : List ℕ → Node × (List ℕ → List Place) → List Place
places_at before child = (child_path before child.0, child.0) ∷ child.1 (child_path before child.0)

abbrev pub below_step : Node-F (Node × (List ℕ → List Place)) → List ℕ → List Place
below_step node before = flat_map (places_at before) node.children.items

-- All nodes below one, each child before what is below it. Each path begins with what is given.
abbrev pub nodes_below : Node → List ℕ → List Place
nodes_below = para-Node (List ℕ → List Place) below_step

-- All nodes. The root's path is a slash; what stands before its children's slash is nothing.
abbrev pub nodes_of : Tree → List Place
nodes_of tree = (0x2f ∷ [], tree.root) ∷ nodes_below tree.root []

-- the node of the first place that passes the test
abbrev pub first_node : (Place → Bool) → List Place → Option Node
first_node test places = option_map (λ place. place.1) (find test places)

-- the first node with the path
abbrev pub node_of : Tree → List ℕ → Option Node
node_of tree path = first_node (λ place. bytes_eq place.0 path) (nodes_of tree)

-- the value of the first property with the name
abbrev pub value_of : Node → List ℕ → Option (List ℕ)
value_of node name = option_map (λ property. property.value) (find (λ property. bytes_eq property.name name) (properties_of node))

-- the number by which other nodes speak of this one
abbrev pub phandle_of : Node → Option ℕ
phandle_of node = option_and_then u32_in (value_of node (codes "phandle"))

abbrev pub is_phandle : ℕ → Node → Bool
is_phandle number node = option_map_or (λ phandle. phandle == number) (phandle_of node) false

-- the first node with the number
abbrev pub node_of_phandle : Tree → ℕ → Option Node
node_of_phandle tree number = first_node (λ place. is_phandle number place.1) (nodes_of tree)

-- ---- rows

-- a node, or a property of the node with the path
pub data Row : Type 0 where
  NodeRow : (path : List ℕ) → Row
  PropertyRow : (path name value : List ℕ) → Row

abbrev pub rows_at : Place → List Row
rows_at place = NodeRow place.0 ∷ map (λ property. PropertyRow place.0 property.name property.value) (properties_of place.1)

-- a node's row, its properties', and then its children's
abbrev pub rows_of : Tree → List Row
rows_of tree = flat_map rows_at (nodes_of tree)

-- ---- rows from tokens

-- the path of an open node, from what stands before the slash of its children
abbrev pub path_of : List ℕ → List ℕ
path_of [] = 0x2f ∷ []
path_of (byte ∷ bytes) = byte ∷ bytes

-- The rows of tokens inside open nodes. Of each of these, the innermost first, this is what stands before the slash of
-- its children.
abbrev pub rows_inside : List (List ℕ) → List Token → List Row
rows_inside [] tokens = []
rows_inside (here ∷ outer) [] = []
rows_inside (here ∷ outer) (BeginNode name ∷ tokens) = NodeRow (here ++ 0x2f ∷ name) ∷ rows_inside ((here ++ 0x2f ∷ name) ∷ here ∷ outer) tokens
rows_inside (here ∷ outer) (Prop name value ∷ tokens) = PropertyRow (path_of here) name value ∷ rows_inside (here ∷ outer) tokens
rows_inside (here ∷ outer) (EndNode ∷ tokens) = rows_inside outer tokens
rows_inside (here ∷ outer) (token ∷ tokens) = rows_inside (here ∷ outer) tokens

-- the rows of a tree's tokens, the root's first
abbrev pub rows_in : List Token → List Row
rows_in [] = []
rows_in (BeginNode name ∷ tokens) = NodeRow (0x2f ∷ []) ∷ rows_inside ([] ∷ []) tokens
rows_in (token ∷ tokens) = rows_in tokens
