-- A node made anew says the same configuration, and breaks the same rules.
use Rattle.std.proofs.Common.{◌≡◌, ℕ, ◌+◌, Bool, true, false, ◌||◌, not, cond, List, [], ◌∷◌, ◌++◌, map, Option, Some, None, refl, sym, ap, subst, ◌∙◌}
use Rattle.std.specs.Prelude.{find, position, codes, is_some, is_none, unwrap_or, option_and_then}
use Rattle.std.specs.Option.{option_map, option_map_or, option_or}
use Rattle.std.specs.List.{list_any, position_from}
use Rattle.std.specs.Str.{bytes_eq}
use Rattle.std.proofs.lemmas.Iterator.Adapters.{position_from-zero}
use Rattle.std.proofs.lemmas.List.{map-append}
use Rattle.dt_model.specs.declared.tree.Node.{Node}
use Rattle.dt_model.specs.declared.tree.Node.TheOpen.{Node-F}
use Rattle.dt_model.specs.declared.tree.Node.TheViews.{roll-Node, out-roll-Node}
use Rattle.dt_model.specs.declared.tree.Node.TheFolds.{ind-Node}
use Rattle.dt_model.specs.declared.tree.Property.{Property}
use Rattle.dt_model.specs.Node.{name_of, value_of}
use Rattle.dt_model.specs.Value.{u64_in, text_in}
use Rattle.hv_config.specs.declared.form.Kind.TheVariants as kind
use Rattle.hv_config.specs.declared.role.Role.{Role}
use Rattle.hv_config.specs.declared.role.Role.TheVariants as role
use Rattle.hv_config.specs.Role.{child_role, is_stranger}
use Rattle.hv_config.specs.Form.{form_of, cores_in, kind_in}
use Rattle.hv_config.specs.Seat.{Seat, seats_below, seats_at}
use Rattle.hv_config.specs.Rule.{lacks_value, lacks_child, is_unknown, has_odd_property, lacks, is_incomplete, is_bad_value, has_bad_value, breach, first_breach, first_broken_among}
use Rattle.hv_config.specs.Meaning.{number_at, text_at, text_or_none, cores_at, kind_at, is_named, children_of, list_in, place_in, area_def, channel_def, bell_def, guest_area_def, handle_def, part_def, config_in}
use Rattle.hv_config.proofs.Seats.{all_below, nothing_below, children_below}
use Rattle.hv_read.proofs.Remade.{remade, name-remade, properties-remade, children-remade}

-- ---- values

pub value-remade : (node : Node) (name : List ℕ) → value_of (remade node) name ≡ value_of node name
value-remade node name =
    ap (λ (props : List Property). option_map (λ (property : Property). property.value) (find (λ (property : Property). bytes_eq property.name name) props)) (properties-remade node)

number-remade : (node : Node) (name : List ℕ) → number_at (remade node) name ≡ number_at node name
number-remade node name = ap (λ (o : Option (List ℕ)). unwrap_or (option_and_then u64_in o) 0) (value-remade node name)

pub text-remade : (node : Node) (name : List ℕ) → text_at (remade node) name ≡ text_at node name
text-remade node name = ap (λ (o : Option (List ℕ)). option_and_then text_in o) (value-remade node name)

word-remade : (node : Node) (name : List ℕ) → text_or_none (remade node) name ≡ text_or_none node name
word-remade node name = ap (λ (o : Option (List ℕ)). unwrap_or o []) (text-remade node name)

cores-remade : (node : Node) (name : List ℕ) → cores_at (remade node) name ≡ cores_at node name
cores-remade node name = ap (λ (o : Option (List ℕ)). option_map_or cores_in o []) (value-remade node name)

kind-remade : (node : Node) (name : List ℕ) → kind_at (remade node) name ≡ kind_at node name
kind-remade node name = ap (λ (o : Option (List ℕ)). unwrap_or (option_and_then kind_in o) kind.Channel) (value-remade node name)

there-remade : (node : Node) (name : List ℕ) → is_some (value_of (remade node) name) ≡ is_some (value_of node name)
there-remade node name = ap (λ (o : Option (List ℕ)). is_some o) (value-remade node name)

-- ---- lists of nodes

pub named-remade : (name : List ℕ) (node : Node) → is_named name (remade node) ≡ is_named name node
named-remade name node = ap (λ (n : List ℕ). bytes_eq n name) (name-remade node)

find-remade : (name : List ℕ) (nodes : List Node) → find (is_named name) (map remade nodes) ≡ option_map remade (find (is_named name) nodes)
find-remade name [] = refl
find-remade name (node ∷ nodes) =
    let below = find-remade name nodes in
    ap (λ (b : Bool). cond b (Some (remade node)) (find (is_named name) (map remade nodes))) (named-remade name node)
    ∙ elim (is_named name node) as (λ b. cond b (Some (remade node)) (find (is_named name) (map remade nodes)) ≡ option_map remade (cond b (Some node) (find (is_named name) nodes)))
    [ true ↦ refl | false ↦ below ]

from-remade : (name : List ℕ) (k : ℕ) (nodes : List Node) → position_from (is_named name) k (map remade nodes) ≡ position_from (is_named name) k nodes
from-remade name k [] = refl
from-remade name k (node ∷ nodes) =
    let below = from-remade name (k + 1) nodes in
    ap (λ (b : Bool). cond b (Some k) (position_from (is_named name) (k + 1) (map remade nodes))) (named-remade name node)
    ∙ ap (λ (o : Option ℕ). cond (is_named name node) (Some k) o) below

list-remade : (node : Node) (name : List ℕ) → list_in (remade node) name ≡ map remade (list_in node name)
unfolding list_in
list-remade node name =
    let cases : (o : Option Node) → option_map_or children_of (option_map remade o) [] ≡ map remade (option_map_or children_of o []) =
    λ o. elim o as (λ o. option_map_or children_of (option_map remade o) [] ≡ map remade (option_map_or children_of o [])) [ None ↦ refl | Some child ↦ children-remade child ] in
    ap (λ (nodes : List Node). option_map_or children_of (find (is_named name) nodes) []) (children-remade node)
    ∙ ap (λ (o : Option Node). option_map_or children_of o []) (find-remade name (children_of node))
    ∙ cases (find (is_named name) (children_of node))

place-remade : (node : Node) (name : List ℕ) → place_in (remade node) name ≡ place_in node name
unfolding place_in
place-remade node name =
    ap (λ (nodes : List Node). unwrap_or (position (is_named name) nodes) 0) (children-remade node)
    ∙ ap (λ (o : Option ℕ). unwrap_or o 0) (position_from-zero (is_named name) (map remade (children_of node)) ∙ from-remade name 0 (children_of node) ∙ sym (position_from-zero (is_named name) (children_of node)))

map-remade : {X : Type 0} (f : Node → X) → ((node : Node) → f (remade node) ≡ f node) → (nodes : List Node) → map f (map remade nodes) ≡ map f nodes
map-remade f same [] = refl
map-remade {X} f same (node ∷ nodes) = ap (λ (x : X). x ∷ map f (map remade nodes)) (same node) ∙ ap (λ (xs : List X). f node ∷ xs) (map-remade f same nodes)

defs-remade : {X : Type 0} (f : Node → X) → ((node : Node) → f (remade node) ≡ f node) → (node : Node) (name : List ℕ) → map f (list_in (remade node) name) ≡ map f (list_in node name)
defs-remade f same node name = ap (map f) (list-remade node name) ∙ map-remade f same (list_in node name)

-- ---- definitions

area-remade : (node : Node) → area_def (remade node) ≡ area_def node
unfolding area_def
area-remade node = λ i. record { name = name-remade node i; base = number-remade node (codes "base") i; size = number-remade node (codes "size") i }

channel-remade : (node : Node) → channel_def (remade node) ≡ channel_def node
unfolding channel_def
channel-remade node = λ i. record { name = name-remade node i; console = text-remade node (codes "console") i }

bell-remade : (node : Node) → bell_def (remade node) ≡ bell_def node
unfolding bell_def
bell-remade node = λ i. record { name = name-remade node i }

guest-remade : (node : Node) → guest_area_def (remade node) ≡ guest_area_def node
unfolding guest_area_def
guest-remade node = λ i. record { name = name-remade node i; area = word-remade node (codes "area") i; at = number-remade node (codes "at") i }

handle-remade : (node : Node) → handle_def (remade node) ≡ handle_def node
unfolding handle_def
handle-remade node = λ i. record { name = name-remade node i; kind = kind-remade node (codes "kind") i; target = word-remade node (codes "target") i }

part-remade : (node : Node) → part_def (remade node) ≡ part_def node
unfolding part_def
part-remade node = λ i. record {
  name = name-remade node i;
  cpus = cores-remade node (codes "cpus") i;
  image = word-remade node (codes "image") i;
  image_at = number-remade node (codes "image-at") i;
  tree_at = number-remade node (codes "tree-at") i;
  tree_size = number-remade node (codes "tree-size") i;
  held = there-remade node (codes "held") i;
  bootargs = text-remade node (codes "bootargs") i;
  areas_at = place-remade node (codes "areas") i;
  areas = defs-remade guest_area_def guest-remade node (codes "areas") i;
  handles_at = place-remade node (codes "handles") i;
  handles = defs-remade handle_def handle-remade node (codes "handles") i;
}

pub config-remade : (root : Node) → config_in (remade root) ≡ config_in root
unfolding config_in
config-remade root = λ i. record {
  areas_at = place-remade root (codes "areas") i;
  areas = defs-remade area_def area-remade root (codes "areas") i;
  channels_at = place-remade root (codes "channels") i;
  channels = defs-remade channel_def channel-remade root (codes "channels") i;
  bells_at = place-remade root (codes "doorbells") i;
  bells = defs-remade bell_def bell-remade root (codes "doorbells") i;
  parts_at = place-remade root (codes "partitions") i;
  parts = defs-remade part_def part-remade root (codes "partitions") i;
}

-- ---- seats

abbrev seat_remade : Seat → Seat
seat_remade seat = record { role = seat.role; before = seat.before; node = remade seat.node }

abbrev Seats : Node → Type 0
Seats node = (r : Role) (before : List ℕ) → seats_below (remade node) r before ≡ map seat_remade (seats_below node r before)

abbrev firsts : List ((node : Node) × Seats node) → List Node
firsts = map (λ e. e.0)

seats_at-remade : (r : Role) (before : List ℕ) (node : Node) → Seats node → seats_at r before (remade node, seats_below (remade node)) ≡ map seat_remade (seats_at r before (node, seats_below node))
seats_at-remade r before node seats =
    let moved : (name : List ℕ) → name_of (remade node) ≡ name
    → seats_at r before (remade node, seats_below (remade node)) ≡ record { role = child_role r name; before = before ++ 0x2f ∷ name; node = remade node } ∷ seats_below (remade node) (child_role r name) (before ++ 0x2f ∷ name) =
    λ name same. ap (λ (n : List ℕ). record { role = child_role r n; before = before ++ 0x2f ∷ n; node = remade node } ∷ seats_below (remade node) (child_role r n) (before ++ 0x2f ∷ n)) same in
    moved (name_of node) (name-remade node)
    ∙ ap (λ (below : List Seat). record { role = child_role r (name_of node); before = before ++ 0x2f ∷ name_of node; node = remade node } ∷ below) (seats (child_role r (name_of node)) (before ++ 0x2f ∷ name_of node))

all-remade : (r : Role) (before : List ℕ) (nodes : List ((node : Node) × Seats node)) → all_below r before (map remade (firsts nodes)) ≡ map seat_remade (all_below r before (firsts nodes))
all-remade r before [] = refl
all-remade r before (node ∷ nodes) =
    ap (λ (seats : List Seat). seats ++ all_below r before (map remade (firsts nodes))) (seats_at-remade r before node.0 node.1)
    ∙ ap (λ (seats : List Seat). map seat_remade (seats_at r before (node.0, seats_below node.0)) ++ seats) (all-remade r before nodes)
    ∙ sym (map-append seat_remade (seats_at r before (node.0, seats_below node.0)) (all_below r before (firsts nodes)))

children-roll : (x : Node-F Node) → children_of (roll-Node x) ≡ x.children.items
children-roll x = ap (λ (y : Node-F Node). y.children.items) (out-roll-Node x)

below-remade : (x : Node-F Node) → ((r : Role) (before : List ℕ) → all_below r before (map remade x.children.items) ≡ map seat_remade (all_below r before x.children.items)) → Seats (roll-Node x)
below-remade x all r before =
    let node = roll-Node x in
    elim (is_stranger r) as (λ b. is_stranger r ≡ b → seats_below (remade node) r before ≡ map seat_remade (seats_below node r before)) [
      | true ↦ λ e. nothing_below (remade node) r before e ∙ ap (map seat_remade) (sym (nothing_below node r before e))
      | false ↦ λ e.
          children_below (remade node) r before e
          ∙ ap (all_below r before) (children-remade node ∙ ap (map remade) (children-roll x))
          ∙ all r before
          ∙ ap (λ (nodes : List Node). map seat_remade (all_below r before nodes)) (sym (children-roll x))
          ∙ ap (map seat_remade) (sym (children_below node r before e))
    ] refl

pub seats-remade : (node : Node) → Seats node
seats-remade = ind-Node Seats (λ x y is. below-remade x
    (subst (λ (z : Node-F Node). (r : Role) (before : List ℕ) → all_below r before (map remade z.children.items) ≡ map seat_remade (all_below r before z.children.items)) is
    (λ r before. all-remade r before y.children.items)))

-- ---- rules

lacks_value-remade : (node : Node) (name : List ℕ) → lacks_value (remade node) name ≡ lacks_value node name
lacks_value-remade node name = ap (λ (o : Option (List ℕ)). is_none o) (value-remade node name)

any-named : (name : List ℕ) (nodes : List Node) → list_any (is_named name) (map remade nodes) ≡ list_any (is_named name) nodes
any-named name [] = refl
any-named name (node ∷ nodes) =
    ap (λ (b : Bool). b || list_any (is_named name) (map remade nodes)) (named-remade name node) ∙ ap (λ (b : Bool). is_named name node || b) (any-named name nodes)

lacks_child-remade : (node : Node) (name : List ℕ) → lacks_child (remade node) name ≡ lacks_child node name
lacks_child-remade node name =
    ap (λ (nodes : List Node). not (list_any (is_named name) nodes)) (children-remade node) ∙ ap not (any-named name (children_of node))

lacks-remade : (r : Role) (node : Node) → lacks r (remade node) ≡ lacks r node
lacks-remade r node =
    let v = lacks_value-remade node in
    let c = lacks_child-remade node in
    elim r as (λ r. lacks r (remade node) ≡ lacks r node) [
      | role.Root ↦ λ i. (v (codes "compatible") i || c (codes "areas") i) || c (codes "partitions") i
      | role.Area ↦ λ i. v (codes "base") i || v (codes "size") i
      | role.Partition ↦ λ i. (((v (codes "cpus") i || v (codes "image") i) || v (codes "tree-at") i) || v (codes "tree-size") i) || c (codes "areas") i
      | role.GuestArea ↦ λ i. v (codes "area") i || v (codes "at") i
      | role.Handle ↦ λ i. v (codes "kind") i || v (codes "target") i
      | _ ↦ refl
    ]

odd-remade : (seat : Seat) → has_odd_property (seat_remade seat) ≡ has_odd_property seat
odd-remade seat = ap (λ (props : List Property). list_any (λ (property : Property). is_none (form_of seat.role property.name)) props) (properties-remade seat.node)

incomplete-remade : (seat : Seat) → is_incomplete (seat_remade seat) ≡ is_incomplete seat
incomplete-remade seat = lacks-remade seat.role seat.node

bad-remade : (seat : Seat) → has_bad_value (seat_remade seat) ≡ has_bad_value seat
bad-remade seat = ap (λ (props : List Property). list_any (λ (property : Property). is_bad_value seat.role property.name property.value) props) (properties-remade seat.node)

unknown-remade : (seat : Seat) → is_unknown (seat_remade seat) ≡ is_unknown seat
unknown-remade seat = refl

breach-remade : (number : ℕ) (test : Seat → Bool) → ((seat : Seat) → test (seat_remade seat) ≡ test seat) → (seats : List Seat) → first_breach number test (map seat_remade seats) ≡ first_breach number test seats
breach-remade number test same [] = refl
breach-remade number test same (seat ∷ seats) =
    let below = breach-remade number test same seats in
    ap (λ (b : Bool). option_map (breach number) (cond b (Some (seat_remade seat)) (find test (map seat_remade seats)))) (same seat)
    ∙ elim (test seat) as (λ b. option_map (breach number) (cond b (Some (seat_remade seat)) (find test (map seat_remade seats))) ≡ option_map (breach number) (cond b (Some seat) (find test seats)))
    [ true ↦ refl | false ↦ below ]

broken-remade : (seats : List Seat) → first_broken_among (map seat_remade seats) ≡ first_broken_among seats
unfolding first_broken_among
broken-remade seats = λ i.
    option_or (breach-remade 1 is_unknown unknown-remade seats i)
    (option_or (breach-remade 2 has_odd_property odd-remade seats i)
    (option_or (breach-remade 3 is_incomplete incomplete-remade seats i) (breach-remade 4 has_bad_value bad-remade seats i)))

-- what the root is, and what is below it
abbrev pub root_seats : Node → List Seat
root_seats root = record { role = role.Root; before = []; node = root } ∷ seats_below root role.Root []

pub rules-remade : (root : Node) → first_broken_among (root_seats (remade root)) ≡ first_broken_among (root_seats root)
rules-remade root =
    ap (λ (below : List Seat). first_broken_among (record { role = role.Root; before = []; node = remade root } ∷ below)) (seats-remade root role.Root [])
    ∙ broken-remade (root_seats root)
