-- The rules C1 to C4, each a test of a node in its place, and the first that is broken.
use Rattle.std.specs.Prelude.{◌≡◌, ℕ, Bool, false, ◌||◌, not, is_none, List, codes, find, Option, Some}
use Rattle.std.specs.Option.{option_map, option_map_or, option_or}
use Rattle.std.specs.List.{list_any}
use Rattle.std.specs.Str.{bytes_eq}
use Rattle.dt_model.specs.declared.tree.Node.{Node}
use Rattle.dt_model.specs.declared.tree.Node.TheViews.{out-Node}
use Rattle.dt_model.specs.declared.tree.Tree.{Tree}
use Rattle.dt_model.specs.Node.{name_of, value_of, properties_of, path_of}
use Rattle.hv_config.specs.declared.fault.Rule.{Rule}
use Rattle.hv_config.specs.declared.fault.Fault.{Fault}
use Rattle.hv_config.specs.declared.fault.Fault.TheVariants.{Broken, NoMemory}
use Rattle.hv_config.specs.declared.role.Role.{Role}
use Rattle.hv_config.specs.declared.role.Role.TheVariants.{Root, Area, Partition, GuestArea, Handle}
use Rattle.hv_config.specs.Role.{is_stranger}
use Rattle.hv_config.specs.Form.{form_of, has_form}
use Rattle.hv_config.specs.Seat.{Seat, seats_of}

-- ---- one node

abbrev pub lacks_value : Node → List ℕ → Bool
lacks_value node name = is_none (value_of node name)

abbrev pub lacks_child : Node → List ℕ → Bool
lacks_child node name = not (list_any (λ child. bytes_eq (name_of child) name) (out-Node node).children.items)

-- C1: the node has no place in the table
abbrev pub is_unknown : Seat → Bool
is_unknown seat = is_stranger seat.role

-- C2: it has a property that the table doesn't give it
abbrev pub has_odd_property : Seat → Bool
has_odd_property seat = list_any (λ property. is_none (form_of seat.role property.name)) (properties_of seat.node)

-- what the node has to have, and lacks
abbrev pub lacks : Role → Node → Bool
lacks Root node = lacks_value node (codes "compatible") || lacks_child node (codes "areas") || lacks_child node (codes "partitions")
lacks Area node = lacks_value node (codes "base") || lacks_value node (codes "size")
lacks Partition node =
    lacks_value node (codes "cpus") || lacks_value node (codes "image") || lacks_value node (codes "tree-at")
    || lacks_value node (codes "tree-size") || lacks_child node (codes "areas")
lacks GuestArea node = lacks_value node (codes "area") || lacks_value node (codes "at")
lacks Handle node = lacks_value node (codes "kind") || lacks_value node (codes "target")
lacks _ node = false

-- C3: it lacks a property or a child that has to be there
abbrev pub is_incomplete : Seat → Bool
is_incomplete seat = lacks seat.role seat.node

-- the value doesn't have the form that the table gives it
abbrev pub is_bad_value : Role → List ℕ → List ℕ → Bool
is_bad_value role name value = option_map_or (λ form. not (has_form form value)) (form_of role name) false

-- C4: a value of it has another form
abbrev pub has_bad_value : Seat → Bool
has_bad_value seat = list_any (λ property. is_bad_value seat.role property.name property.value) (properties_of seat.node)

-- ---- all nodes

-- a rule that is broken, and the path of the first node that breaks it
pub record Breach : Type 0 where
  pub rule : Rule
  pub at : List ℕ

abbrev pub breach : ℕ → Seat → Breach
breach number seat = record { rule = record { letter = 0x43; number = number }; at = path_of seat.before }

abbrev pub first_breach : ℕ → (Seat → Bool) → List Seat → Option Breach
first_breach number test seats = option_map (breach number) (find test seats)

-- the least number, and of its nodes the first in document order
unfoldable pub first_broken_among : List Seat → Option Breach
first_broken_among seats =
    option_or (first_breach 1 is_unknown seats)
    (option_or (first_breach 2 has_odd_property seats)
    (option_or (first_breach 3 is_incomplete seats) (first_breach 4 has_bad_value seats)))

abbrev pub first_broken : Tree → Option Breach
first_broken tree = first_broken_among (seats_of tree)

-- ---- answers

-- the fault says which rule is broken first, and where; want of memory says nothing
abbrev pub Says : Fault → Option Breach → Type 0
Says (Broken rule at) first = first ≡ Some (record { rule = rule; at = at })
Says NoMemory first = Unit {0}
