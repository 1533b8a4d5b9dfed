-- What the builder keeps, beside the list of the tokens that it took.
use Rattle.std.specs.Prelude.{◌≡◌, ◌<◌, ℕ, suc, List, [], ◌∷◌, length, map, fold}
use Rattle.std.specs.List.{flat_map}
use Rattle.std.specs.Global.{Vec}
use Rattle.dt_model.specs.Name.{SameNames}
use Rattle.dt_model.specs.Token.{Token, BeginNode, onto}
use Rattle.dt_model.specs.Node.{property_token, node_tokens}
use Rattle.dt_model.specs.Rule.{node_count, property_count, depth, properties_back, children_back}
use Rattle.dt_read.specs.declared.builder.Open.{Open}
use Rattle.dt_read.specs.declared.builder.Place.{Place}
use Rattle.dt_read.specs.declared.builder.Place.TheVariants.{Before, Inside, After}

-- ---- the tokens, the nearest first

-- those of an open node, behind those before it
abbrev pub behind_open : List Token → Open → List Token
behind_open before node =
    onto (flat_map node_tokens node.children.items) (onto (map property_token node.props.items) (BeginNode node.name ∷ before))

-- those of open nodes, each inside the one before
abbrev pub behind_all : List Open → List Token
behind_all = fold behind_open []

abbrev pub so_far : Place → List Token
so_far Before = []
so_far (Inside outer here) = behind_open (behind_all outer.items) here
so_far (After root) = onto (node_tokens root) []

-- ---- what is kept of them

-- the names that an open node has, where so many nodes are open inside it
pub record KnowsNames (node : Open) (inner : ℕ) (before : List Token) : Type 0 where
  pub children : SameNames node.child_names (children_back inner before)
  pub properties : SameNames node.property_names (properties_back inner before)

-- the same of all nodes around the innermost one
abbrev pub AllKnow : List Open → List Token → Type 0
AllKnow [] before = Unit {0}
AllKnow (node ∷ inner) before = KnowsNames node (suc (length inner)) before × AllKnow inner before

-- what is known inside a node
pub record IsWithin (outer : List Open) (here : Open) (nodes properties : ℕ) : Type 0 where
  pub begun : 0 < nodes
  pub nodes_is : nodes ≡ node_count (behind_open (behind_all outer) here)
  pub properties_is : properties ≡ property_count (behind_open (behind_all outer) here)
  pub depth_is : depth (behind_open (behind_all outer) here) ≡ suc (length outer)
  pub here_knows : KnowsNames here 0 (behind_open (behind_all outer) here)
  pub outer_know : AllKnow outer (behind_open (behind_all outer) here)

-- what is known behind the root
pub record IsClosed (before : List Token) : Type 0 where
  pub begun : 0 < node_count before
  pub depth_is : depth before ≡ 0

abbrev pub IsBuilt : Place → ℕ → ℕ → Type 0
IsBuilt Before nodes properties = (nodes ≡ 0) × (properties ≡ 0)
IsBuilt (Inside outer here) nodes properties = IsWithin outer.items here nodes properties
IsBuilt (After root) nodes properties = IsClosed (onto (node_tokens root) [])

-- a node that just began
pub record IsFresh (node : Open) (name : List ℕ) : Type 0 where
  pub name_is : node.name ≡ name
  pub no_properties : node.props.items ≡ []
  pub no_children : node.children.items ≡ []
  pub no_property_names : node.property_names ≡ []
  pub no_child_names : node.child_names ≡ []

-- the tokens inside a node
abbrev pub inside : Vec Open → Open → List Token
inside outer here = behind_open (behind_all outer.items) here
