-- The nodes of a tree in document order, each with what it is.
use Rattle.std.specs.Prelude.{ℕ, List, [], ◌∷◌, if◌then◌else◌}
use Rattle.std.specs.List.{flat_map}
use Rattle.dt_model.specs.declared.tree.Node.{Node}
use Rattle.dt_model.specs.declared.tree.Node.TheOpen.{Node-F}
use Rattle.dt_model.specs.declared.tree.Node.TheFolds.{para-Node}
use Rattle.dt_model.specs.declared.tree.Tree.{Tree}
use Rattle.dt_model.specs.Node.{name_of, child_path}
use Rattle.hv_config.specs.declared.role.Role.{Role}
use Rattle.hv_config.specs.declared.role.Role.TheVariants.{Root}
use Rattle.hv_config.specs.Role.{child_role, is_stranger}

-- A node, what it is, and what stands before the slash of its children.
pub record Seat : Type 0 where
  pub role : Role
  pub before : List ℕ
  pub node : Node

abbrev pub Walk : Type 0
Walk = Role → List ℕ → List Seat

abbrev pub child_seat : Role → List ℕ → Node → Seat
child_seat role before child = record { role = child_role role (name_of child); before = child_path before child; node = child }

abbrev pub seats_at : Role → List ℕ → Node × Walk → List Seat
seats_at role before child =
    child_seat role before child.0 ∷ child.1 (child_role role (name_of child.0)) (child_path before child.0)

-- What lies below a stranger isn't looked at: the stranger stands before it and breaks the least rule.
abbrev pub below_step : Node-F (Node × Walk) → Walk
below_step node role before = if is_stranger role then [] else flat_map (seats_at role before) node.children.items

abbrev pub seats_below : Node → Walk
seats_below = para-Node Walk below_step

abbrev pub root_seat : Tree → Seat
root_seat tree = record { role = Root; before = []; node = tree.root }

abbrev pub seats_of : Tree → List Seat
seats_of tree = root_seat tree ∷ seats_below tree.root Root []
