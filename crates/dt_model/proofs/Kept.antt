-- In a tree that fits, the names of children are apart.
use Rattle.std.proofs.Common.{◌≡◌, ℕ, ◌+◌, Bool, true, false, ◌&&◌, not, cond, List, [], ◌∷◌, ◌++◌, map, Option, Some, None, refl, sym, ap, subst, ◌∙◌}
use Rattle.std.specs.Prelude.{option_and_then, is_some, is_none}
use Rattle.std.specs.List.{list_all}
use Rattle.std.proofs.lemmas.Bool.{and_parts, and_from}
use Rattle.dt_model.specs.declared.tree.Node.{Node}
use Rattle.dt_model.specs.declared.tree.Node.TheOpen.{Node-F}
use Rattle.dt_model.specs.declared.tree.Node.TheViews.{out-Node, roll-Node, roll-out-Node}
use Rattle.dt_model.specs.declared.tree.Node.TheFolds.{para-roll-Node, ind-Node}
use Rattle.dt_model.specs.declared.tree.Tree.{Tree}
use Rattle.dt_model.specs.declared.fitting.Counts.{Counts}
use Rattle.dt_model.specs.Name.{is_node_name, has}
use Rattle.dt_model.specs.Node.{name_of}
use Rattle.dt_model.specs.Fit.{Fits}
use Rattle.dt_model.specs.Walk.{may_begin, children_walk, property_walk, node_walk, walks, is_walked}
use Rattle.dt_model.specs.Kept.{are_apart, kept_step, has_kept, KeepsNames}
use Rattle.dt_model.proofs.Walks.{node_walk-roll}
use Rattle.dt_model.proofs.Bridge.{is_walked-is}

and_then-some : {X Y : Type 0} (f : X → Option Y) (o : Option X) (y : Y) → option_and_then f o ≡ Some y → (x : X) × (o ≡ Some x) × (f x ≡ Some y)
and_then-some f None y e = absurd cc
and_then-some f (Some x) y e = (x, refl, e)

may_begin-apart : (earlier : List (List ℕ)) (depth nodes : ℕ) (name : List ℕ) → may_begin earlier depth nodes name ≡ true → (is_node_name name && not (has earlier name)) ≡ true
unfolding may_begin
may_begin-apart earlier depth nodes name e =
    let a = and_parts _ _ e in
    let b = and_parts _ _ a.0 in
    let c = and_parts _ _ b.0 in
    and_from (is_node_name name) (not (has earlier name)) c.0 a.1

abbrev WalksKept : Node → Type 0
WalksKept node = (depth : ℕ) (counts after : Counts) → node_walk node depth counts ≡ Some after → has_kept node ≡ true

abbrev firsts : List ((node : Node) × WalksKept node) → List Node
firsts = map (λ e. e.0)

then_kept : (b : Bool) (o : Option Counts) (after : Counts) → cond b o None ≡ Some after → (b ≡ true) × (o ≡ Some after)
then_kept true o after e = (refl, e)
then_kept false o after e = absurd cc

children_kept : (nodes : List ((node : Node) × WalksKept node)) (depth : ℕ) (earlier : List (List ℕ)) (counts after : Counts)
    → children_walk depth earlier (walks (firsts nodes)) counts ≡ Some after → (are_apart earlier (map name_of (firsts nodes)) ≡ true) × (list_all has_kept (firsts nodes) ≡ true)
children_kept [] depth earlier counts after e = (refl, refl)
children_kept (node ∷ nodes) depth earlier counts after e =
    let name = name_of node.0 in
    let step = then_kept (may_begin earlier depth counts.nodes name) _ after e in
    let parts = and_then-some (children_walk depth (earlier ++ name ∷ []) (walks (firsts nodes))) (node_walk node.0 depth counts) after step.1 in
    let others = children_kept nodes depth (earlier ++ name ∷ []) parts.0 after parts.2 in (
      and_from (is_node_name name && not (has earlier name)) (are_apart (earlier ++ name ∷ []) (map name_of (firsts nodes))) (may_begin-apart earlier depth counts.nodes name step.0) others.0,
      and_from (has_kept node.0) (list_all has_kept (firsts nodes)) (node.1 depth counts parts.0 parts.1) others.1,
    )

names-pairs : (nodes : List Node) → map (λ (child : Node × Bool). name_of child.0) (map (λ node. (node, has_kept node)) nodes) ≡ map name_of nodes
names-pairs [] = refl
names-pairs (node ∷ nodes) = ap (λ (names : List (List ℕ)). name_of node ∷ names) (names-pairs nodes)

all-pairs : (nodes : List Node) → list_all (λ (child : Node × Bool). child.1) (map (λ node. (node, has_kept node)) nodes) ≡ list_all has_kept nodes
all-pairs [] = refl
all-pairs (node ∷ nodes) = ap (λ (b : Bool). has_kept node && b) (all-pairs nodes)

has_kept-roll : (x : Node-F Node) → has_kept (roll-Node x) ≡ (are_apart [] (map name_of x.children.items) && list_all has_kept x.children.items)
has_kept-roll x = para-roll-Node Bool kept_step x
    ∙ rw (names-pairs x.children.items, all-pairs x.children.items) refl

both_kept : (x : Node-F Node) → (are_apart [] (map name_of x.children.items) ≡ true) × (list_all has_kept x.children.items ≡ true) → has_kept (roll-Node x) ≡ true
both_kept x both = has_kept-roll x ∙ and_from (are_apart [] (map name_of x.children.items)) (list_all has_kept x.children.items) both.0 both.1

walks_kept : (node : Node) → WalksKept node
walks_kept = ind-Node WalksKept (λ x y is depth counts after e.
    let walk = and_then-some (λ properties. children_walk (depth + 1) [] (walks x.children.items) (record { nodes = counts.nodes + 1; properties = properties })) (property_walk [] x.props.items counts.properties) after (sym (node_walk-roll x depth counts) ∙ e) in
    let start : Counts = record { nodes = counts.nodes + 1; properties = walk.0 } in
    both_kept x (subst (λ (z : Node-F Node). children_walk (depth + 1) [] (walks z.children.items) start ≡ Some after → (are_apart [] (map name_of z.children.items) ≡ true) × (list_all has_kept z.children.items ≡ true)) is
    (children_kept y.children.items (depth + 1) [] start after) walk.2))

some-is : {X : Type 0} (o : Option X) → is_some o ≡ true → (x : X) × (o ≡ Some x)
some-is None e = absurd cc
some-is (Some x) e = (x, refl)

pub fitting_kept : (tree : Tree) → Fits tree → has_kept tree.root ≡ true
fitting_kept tree fits =
    let walked : is_walked tree.root ≡ true = is_walked-is tree.root ∙ ap (is_none {T = ℕ}) fits.tokens in
    let both = and_parts _ _ walked in
    let after = some-is _ both.1 in
    walks_kept tree.root 0 (record { nodes = 0; properties = 0 }) after.0 after.1

pub kept_children : (node : Node) → has_kept node ≡ true → KeepsNames (out-Node node).children.items
kept_children node e =
    let rolled : (are_apart [] (map name_of (out-Node node).children.items) && list_all has_kept (out-Node node).children.items) ≡ true =
    sym (has_kept-roll (out-Node node)) ∙ ap has_kept (roll-out-Node node) ∙ e in
    let both = and_parts _ _ rolled in
    record { here = both.0; below = both.1 }
