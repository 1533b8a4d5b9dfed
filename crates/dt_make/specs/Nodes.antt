-- A node that is made, by its parts and as tokens of a structure block (ePAPR 1.1, 8.4 "Structure Block").
use Rattle.std.specs.Prelude.{◌≡◌, ℕ, List, [], ◌∷◌, ◌++◌, map}
use Rattle.dt_model.specs.declared.tree.Node.{Node}
use Rattle.dt_model.specs.declared.tree.Node.TheViews.{out-Node}
use Rattle.dt_model.specs.declared.tree.Property.{Property}
use Rattle.dt_model.specs.Token.{Token, BeginNode, EndNode}
use Rattle.dt_model.specs.Node.{property_token, name_of, properties_of}

-- a node with its properties, and then its children's tokens
abbrev pub node : List ℕ → List Property → List Token → List Token
node name properties children = BeginNode name ∷ (map property_token properties ++ (children ++ EndNode ∷ []))

-- the node has this name, these properties and these children
pub record Has (node : Node) (name : List ℕ) (properties : List Property) (children : List Node) : Type 0 where
  pub name_is : name_of node ≡ name
  pub properties_are : properties_of node ≡ properties
  pub children_are : (out-Node node).children.items ≡ children
