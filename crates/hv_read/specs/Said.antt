-- The tree that bytes say, as a function of the bytes.
use Rattle.std.specs.Prelude.{ℕ, List, [], ◌∷◌}
use Rattle.dt_model.specs.declared.tree.Node.{Node}
use Rattle.dt_model.specs.declared.tree.Property.{Property}
use Rattle.dt_model.specs.declared.tree.Tree.{Tree}
use Rattle.dt_model.specs.Token.{Token, BeginNode, Prop, EndNode, Nop, Finish, without_nops}
use Rattle.dt_model.specs.Header.{header_of, reserve_part, structure_part, strings_part}
use Rattle.dt_model.specs.Fault.{tokens_in}
use Rattle.dt_model.specs.Canonical.{entries_in}
use Rattle.hv_read.specs.Made.{vector_of, node_of}

-- what a node has from a token on: properties and children
pub record Part : Type 0 where
  pub props : List Property
  pub children : List Node

abbrev pub nothing : Part
nothing = record { props = []; children = [] }

-- the property stands before what the innermost node has
abbrev pub with_property : Property → List Part → List Part
with_property property [] = []
with_property property (here ∷ outer) = record { props = property ∷ here.props; children = here.children } ∷ outer

-- the innermost node is a child of the next, and stands before what that has
abbrev pub with_child : List ℕ → List Part → List Part
with_child name (here ∷ parent ∷ outer) = record { props = parent.props; children = node_of name here.props here.children ∷ parent.children } ∷ outer
with_child name _ = []

-- What the nodes that are open at the first of these tokens have from there on, the innermost first; the last stands for the root's
-- parent.
abbrev pub parts_of : List Token → List Part
parts_of [] = []
parts_of (BeginNode name ∷ tokens) = with_child name (parts_of tokens)
parts_of (Prop name value ∷ tokens) = with_property (record { name = name; value = value }) (parts_of tokens)
parts_of (EndNode ∷ tokens) = nothing ∷ parts_of tokens
parts_of (Nop ∷ tokens) = parts_of tokens
parts_of (Finish ∷ tokens) = nothing ∷ []

-- the first node, and one without anything where there is none
abbrev pub first_node : List Node → Node
first_node [] = node_of [] [] []
first_node (node ∷ others) = node

abbrev pub first_child : List Part → Node
first_child [] = first_node []
first_child (here ∷ outer) = first_node here.children

-- the tokens of a structure block
abbrev pub tokens_said : List ℕ → List Token
tokens_said bytes = without_nops (tokens_in (strings_part bytes) (structure_part bytes)).tokens

-- The tree that the bytes are a blob of, where they are one.
unfoldable pub tree_said : List ℕ → Tree
tree_said bytes = record {
  reserve = vector_of (entries_in 1024 (reserve_part bytes));
  boot_cpu = (header_of bytes).boot_cpu;
  root = first_child (parts_of (tokens_said bytes));
}
