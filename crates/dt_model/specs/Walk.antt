-- The rules of a tree's tokens, read off its nodes: what remains of them where the tokens are a tree's.
use Rattle.std.specs.Prelude.{ℕ, ◌+◌, Bool, ◌&&◌, not, nat_lt, if◌then◌else◌, List, [], ◌∷◌, ◌++◌, length, map, ◌==◌, Option, Some, None, option_and_then, is_some}
use Rattle.dt_model.specs.declared.tree.Node.{Node}
use Rattle.dt_model.specs.declared.tree.Node.TheOpen.{Node-F}
use Rattle.dt_model.specs.declared.tree.Node.TheFolds.{para-Node}
use Rattle.dt_model.specs.declared.tree.Property.{Property}
use Rattle.dt_model.specs.declared.fitting.Counts.{Counts}
use Rattle.dt_model.specs.Name.{is_node_name, is_property_name, has}
use Rattle.dt_model.specs.Node.{name_of}

-- a property with the name may come behind these earlier ones, where so many came in all
unfoldable pub may_follow : List (List ℕ) → ℕ → List ℕ → Bool
may_follow earlier count name = is_property_name name && nat_lt count 65536 && not (has earlier name)

-- how many properties there are after these, if each of them may come
abbrev pub property_walk : List (List ℕ) → List Property → ℕ → Option ℕ
property_walk earlier [] count = Some count
property_walk earlier (property ∷ others) count =
    if may_follow earlier count property.name then property_walk (earlier ++ property.name ∷ []) others (count + 1) else None

-- a child with the name may begin behind these earlier ones, where so many nodes are open and so many began
unfoldable pub may_begin : List (List ℕ) → ℕ → ℕ → List ℕ → Bool
may_begin earlier depth nodes name =
    is_node_name name && nat_lt depth 32 && nat_lt nodes 65536 && not (has earlier name)

-- the counts after a node, from how many nodes are open around it and the counts before it
abbrev pub Walk : Type 0
Walk = ℕ → Counts → Option Counts

abbrev pub children_walk : ℕ → List (List ℕ) → List (Node × Walk) → Counts → Option Counts
children_walk depth earlier [] counts = Some counts
children_walk depth earlier (child ∷ others) counts =
    if may_begin earlier depth counts.nodes (name_of child.0)
    then option_and_then (children_walk depth (earlier ++ name_of child.0 ∷ []) others) (child.1 depth counts)
    else None

abbrev pub walk_step : Node-F (Node × Walk) → Walk
walk_step node depth counts =
    option_and_then
    (λ properties. children_walk (depth + 1) [] node.children.items (record { nodes = counts.nodes + 1; properties = properties }))
    (property_walk [] node.props.items counts.properties)

abbrev pub node_walk : Node → Walk
node_walk = para-Node Walk walk_step

-- each of several nodes beside its walk
abbrev pub walks : List Node → List (Node × Walk)
walks = map (λ node. (node, node_walk node))

-- the root has no name, and nothing is around it or before it
abbrev pub is_walked : Node → Bool
is_walked root =
    length (name_of root) == 0 && is_some (node_walk root 0 (record { nodes = 0; properties = 0 }))
