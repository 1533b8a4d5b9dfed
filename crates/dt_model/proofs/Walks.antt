-- Walks step by step.
use Rattle.std.proofs.Common.{◌≡◌, ℕ, ◌+◌, ◌<◌, cond, List, [], ◌∷◌, ◌++◌, map, length, get_or, take, drop, Some, None, refl, sym, ap, ◌∙◌}
use Rattle.std.specs.Prelude.{option_and_then, ◌||◌}
use Rattle.std.specs.List.{list_any}
use Rattle.std.specs.Str.{bytes_eq}
use Rattle.std.proofs.lemmas.List.{drop_more, take_more, map-append}
use Rattle.dt_model.specs.declared.tree.Node.{Node}
use Rattle.dt_model.specs.declared.tree.Node.TheOpen.{Node-F}
use Rattle.dt_model.specs.declared.tree.Node.TheViews.{out-Node, roll-Node, roll-out-Node}
use Rattle.dt_model.specs.declared.tree.Node.TheFolds.{para-roll-Node}
use Rattle.dt_model.specs.declared.tree.Property.{Property}
use Rattle.dt_model.specs.declared.fitting.Counts.{Counts}
use Rattle.dt_model.specs.Name.{has}
use Rattle.dt_model.specs.Node.{name_of}
use Rattle.dt_model.specs.Walk.{Walk, walk_step, may_follow, may_begin, property_walk, children_walk, node_walk, walks}

pub has_mapped : {X : Type 0} (f : X → List ℕ) (xs : List X) (name : List ℕ) → has (map f xs) name ≡ list_any (λ x. bytes_eq (f x) name) xs
has_mapped f [] name = refl
has_mapped f (x ∷ xs) name = ap (λ b. bytes_eq (f x) name || b) (has_mapped f xs name)

abbrev pub names : List Property → List (List ℕ)
names = map (λ (property : Property). property.name)

take_names : {X : Type 0} (f : X → List ℕ) (xs : List X) (i : ℕ) (x : X) → i < length xs → x ≡ get_or xs i x → map f (take (i + 1) xs) ≡ map f (take i xs) ++ f x ∷ []
take_names f xs i x lt is = ap (map f) (take_more xs i x lt) ∙ map-append f (take i xs) (get_or xs i x ∷ []) ∙ ap (λ y. map f (take i xs) ++ f y ∷ []) (sym is)

from_here : {X : Type 0} (xs : List X) (i : ℕ) (x : X) → i < length xs → x ≡ get_or xs i x → drop i xs ≡ x ∷ drop (i + 1) xs
from_here xs i x lt is = drop_more xs i x lt ∙ ap (λ y. y ∷ drop (i + 1) xs) (sym is)

pub property_walk-at : (ps : List Property) (i count : ℕ) (p : Property) → i < length ps → p ≡ get_or ps i p
    → property_walk (names (take i ps)) (drop i ps) count
    ≡ cond (may_follow (names (take i ps)) count p.name) (property_walk (names (take (i + 1) ps)) (drop (i + 1) ps) (count + 1)) None
property_walk-at ps i count p lt is =
    ap (λ (l : List Property). property_walk (names (take i ps)) l count) (from_here ps i p lt is)
    ∙ ap (λ (ns : List (List ℕ)). cond (may_follow (names (take i ps)) count p.name) (property_walk ns (drop (i + 1) ps) (count + 1)) None) (sym (take_names (λ (q : Property). q.name) ps i p lt is))

pub children_walk-at : (depth : ℕ) (nodes : List Node) (i : ℕ) (counts : Counts) (node : Node) → i < length nodes → node ≡ get_or nodes i node
    → children_walk depth (map name_of (take i nodes)) (walks (drop i nodes)) counts
    ≡ cond (may_begin (map name_of (take i nodes)) depth counts.nodes (name_of node))
    (option_and_then (children_walk depth (map name_of (take (i + 1) nodes)) (walks (drop (i + 1) nodes))) (node_walk node depth counts)) None
children_walk-at depth nodes i counts node lt is =
    ap (λ (l : List Node). children_walk depth (map name_of (take i nodes)) (walks l) counts) (from_here nodes i node lt is)
    ∙ ap (λ (ns : List (List ℕ)). cond (may_begin (map name_of (take i nodes)) depth counts.nodes (name_of node)) (option_and_then (children_walk depth ns (walks (drop (i + 1) nodes))) (node_walk node depth counts)) None)
    (sym (take_names name_of nodes i node lt is))

pub node_walk-roll : (x : Node-F Node) (depth : ℕ) (counts : Counts) → node_walk (roll-Node x) depth counts
    ≡ option_and_then (λ properties. children_walk (depth + 1) [] (walks x.children.items) (record { nodes = counts.nodes + 1; properties = properties })) (property_walk [] x.props.items counts.properties)
node_walk-roll x depth counts = ap (λ (f : Walk). f depth counts) (para-roll-Node Walk walk_step x)

pub node_walk-out : (node : Node) (depth : ℕ) (counts : Counts) → node_walk node depth counts
    ≡ option_and_then (λ properties. children_walk (depth + 1) [] (walks (out-Node node).children.items) (record { nodes = counts.nodes + 1; properties = properties })) (property_walk [] (out-Node node).props.items counts.properties)
node_walk-out node depth counts = ap (λ (n : Node). node_walk n depth counts) (sym (roll-out-Node node)) ∙ node_walk-roll (out-Node node) depth counts

pub node_walk-none : (node : Node) (depth : ℕ) (counts : Counts) (ps : List Property) → ps ≡ (out-Node node).props.items → None ≡ property_walk [] ps counts.properties → None ≡ node_walk node depth counts
node_walk-none node depth counts ps are none =
    let walk = ap (λ (l : List Property). property_walk [] l counts.properties) are in
    rw (node_walk-out node depth counts, ← walk, ← none) refl

pub node_walk-some : (node : Node) (depth : ℕ) (counts : Counts) (ps : List Property) (items : List Node) (k : ℕ) → ps ≡ (out-Node node).props.items → items ≡ (out-Node node).children.items
    → Some k ≡ property_walk [] ps counts.properties → children_walk (depth + 1) [] (walks items) (record { nodes = counts.nodes + 1; properties = k }) ≡ node_walk node depth counts
node_walk-some node depth counts ps items k are items_are some =
    let walk = ap (λ (l : List Property). property_walk [] l counts.properties) are in
    rw (node_walk-out node depth counts, ← walk, ← some, ← items_are) refl
