-- The nodes below a node are, child by child, the child and the nodes below it; and the first of them that passes a test.
use Rattle.std.proofs.Common.{◌≡◌, ℕ, ◌+◌, ◌<◌, Bool, true, false, cond, eqb, List, [], ◌∷◌, ◌++◌, map, length, get_or, drop, Option, Some, None, refl, sym, ap, subst, ◌∙◌, append_assoc, length-append, arith}
use Rattle.std.proofs.lemmas.List.{drop_more, append-nil, nil_from_length}
use Rattle.std.proofs.lemmas.Bool.{false_from_ne_true, eqb-true, eqb-false}
use Rattle.std.proofs.lemmas.Slice.Eq.{bytes_eq-Decides}
use Rattle.std.specs.Str.{bytes_eq}
use Rattle.std.specs.Prelude.{find}
use Rattle.std.specs.Option.{option_map}
use Rattle.std.specs.List.{flat_map}
use Rattle.dt_model.specs.declared.tree.Node.{Node}
use Rattle.dt_model.specs.declared.tree.Node.TheOpen.{Node-F}
use Rattle.dt_model.specs.declared.tree.Node.TheViews.{out-Node, roll-Node, roll-out-Node}
use Rattle.dt_model.specs.declared.tree.Node.TheFolds.{para-roll-Node, ind-Node}
use Rattle.dt_model.specs.Node.{Place, name_of, below_step, nodes_below, child_path, places_at, first_node}

append-cancel : (front xs ys : List ℕ) → front ++ xs ≡ front ++ ys → xs ≡ ys
append-cancel [] xs ys e = e
append-cancel (c ∷ front) xs ys e = append-cancel front xs ys (cc e)

-- the children and all below them
abbrev pub below_all : List ℕ → List Node → List Place
below_all before [] = []
below_all before (child ∷ others) = places_at before (child, nodes_below child) ++ below_all before others

flat_map-pairs : (before : List ℕ) (children : List Node)
    → flat_map (places_at before) (map (λ child. (child, nodes_below child)) children) ≡ below_all before children
flat_map-pairs before [] = refl
flat_map-pairs before (child ∷ others) = ap (λ (places : List Place). places_at before (child, nodes_below child) ++ places) (flat_map-pairs before others)

pub nodes_below-roll : (x : Node-F Node) (before : List ℕ) → nodes_below (roll-Node x) before ≡ below_all before x.children.items
nodes_below-roll x before = ap (λ (f : List ℕ → List Place). f before) (para-roll-Node (List ℕ → List Place) below_step x) ∙ flat_map-pairs before x.children.items

pub nodes_below-out : (node : Node) (before : List ℕ) → nodes_below node before ≡ below_all before (out-Node node).children.items
nodes_below-out node before = ap (λ (n : Node). nodes_below n before) (sym (roll-out-Node node)) ∙ nodes_below-roll (out-Node node) before

-- ---- finding

find-append-none : (test : Place → Bool) (xs ys : List Place) → None ≡ first_node test xs → find test (xs ++ ys) ≡ find test ys
find-append-none test [] ys none = refl
find-append-none test (x ∷ xs) ys none =
    elim (test x) as (λ b. None ≡ option_map (λ (p : Place). p.1) (cond b (Some x) (find test xs)) → cond b (Some x) (find test (xs ++ ys)) ≡ find test ys)
    [ true ↦ λ e. absurd cc | false ↦ λ e. find-append-none test xs ys e ] none

find-append-some : (test : Place → Bool) (xs ys : List Place) (node : Node) → Some node ≡ first_node test xs → Some node ≡ first_node test (xs ++ ys)
find-append-some test [] ys node some = absurd cc
find-append-some test (x ∷ xs) ys node some =
    elim (test x) as (λ b. Some node ≡ option_map (λ (p : Place). p.1) (cond b (Some x) (find test xs)) → Some node ≡ option_map (λ (p : Place). p.1) (cond b (Some x) (find test (xs ++ ys))))
    [ true ↦ λ e. e | false ↦ λ e. find-append-some test xs ys node e ] some

from_here : (before : List ℕ) (items : List Node) (i : ℕ) (child : Node) → i < length items → child ≡ get_or items i child
    → below_all before (drop i items) ≡ places_at before (child, nodes_below child) ++ below_all before (drop (i + 1) items)
from_here before items i child lt is =
    ap (below_all before) (drop_more items i child lt ∙ ap (λ (c : Node). c ∷ drop (i + 1) items) (sym is))

-- the child itself passes
pub first_node-here : (test : Place → Bool) (before : List ℕ) (items : List Node) (i : ℕ) (child : Node) → i < length items → child ≡ get_or items i child
    → test (child_path before child, child) ≡ true → Some child ≡ first_node test (below_all before (drop i items))
first_node-here test before items i child lt is passes = rw (from_here before items i child lt is, passes) refl

-- a node below the child passes
pub first_node-below : (test : Place → Bool) (before : List ℕ) (items : List Node) (i : ℕ) (child node : Node) → i < length items → child ≡ get_or items i child
    → test (child_path before child, child) ≡ false → Some node ≡ first_node test (nodes_below child (child_path before child))
    → Some node ≡ first_node test (below_all before (drop i items))
first_node-below test before items i child node lt is fails found =
    rw (from_here before items i child lt is, fails) (find-append-some test (nodes_below child (child_path before child)) (below_all before (drop (i + 1) items)) node found)

-- neither
pub find-after : (test : Place → Bool) (before : List ℕ) (items : List Node) (i : ℕ) (child : Node) → i < length items → child ≡ get_or items i child
    → test (child_path before child, child) ≡ false → None ≡ first_node test (nodes_below child (child_path before child))
    → find test (below_all before (drop i items)) ≡ find test (below_all before (drop (i + 1) items))
find-after test before items i child lt is fails none =
    rw (from_here before items i child lt is, fails) (find-append-none test (nodes_below child (child_path before child)) (below_all before (drop (i + 1) items)) none)

-- ---- finding a path

-- the path isn't behind this front
abbrev pub IsApart : List ℕ → List ℕ → Type 0
IsApart path front = (rest : List ℕ) → path ≡ front ++ rest → ⊥

pub IsApart-longer : (path front more : List ℕ) → IsApart path front → IsApart path (front ++ more)
IsApart-longer path front more apart rest e = apart (more ++ rest) (e ∙ append_assoc front more rest)

pub is_other : (path front : List ℕ) → IsApart path front → bytes_eq front path ≡ false
is_other path front apart = false_from_ne_true (bytes_eq front path) (λ e. apart [] (sym ((bytes_eq-Decides front path).0 e) ∙ sym (append-nil front)))

abbrev HasNone : Node → Type 0
HasNone node = (before path : List ℕ) → IsApart path before → None ≡ first_node (λ place. bytes_eq place.0 path) (nodes_below node before)

none_in_all : (before path : List ℕ) → IsApart path before → (children : List ((node : Node) × HasNone node))
    → None ≡ first_node (λ place. bytes_eq place.0 path) (below_all before (map (λ e. e.0) children))
none_in_all before path apart [] = refl
none_in_all before path apart (child ∷ others) =
    let here : IsApart path (child_path before child.0) = IsApart-longer path before (0x2f ∷ name_of child.0) apart in
    let under = child.1 (child_path before child.0) path here in
    let test : Place → Bool = λ place. bytes_eq place.0 path in
    let after = ap (option_map (λ (p : Place). p.1)) (find-append-none test (nodes_below child.0 (child_path before child.0)) (below_all before (map (λ e. e.0) others)) under) in
    rw (is_other path (child_path before child.0) here) (none_in_all before path apart others ∙ sym after)

pub none_below : (node : Node) → HasNone node
none_below = ind-Node HasNone (λ x y is before path apart.
    let all = subst (λ (z : Node-F Node). None ≡ first_node (λ place. bytes_eq place.0 path) (below_all before z.children.items)) is (none_in_all before path apart y.children.items) in
    all ∙ ap (first_node (λ place. bytes_eq place.0 path)) (sym (nodes_below-roll x before)))

-- a slash and a name behind what stands before them
pub IsApart-child : (before path name : List ℕ) → ((rest : List ℕ) → path ≡ 0x2f ∷ name ++ rest → ⊥) → IsApart (before ++ path) (before ++ 0x2f ∷ name)
IsApart-child before path name none rest e = none rest (append-cancel before path (0x2f ∷ name ++ rest) (e ∙ append_assoc before (0x2f ∷ name) rest))

pub regrouped : (before path name rest : List ℕ) → path ≡ 0x2f ∷ (name ++ rest) → before ++ path ≡ (before ++ 0x2f ∷ name) ++ rest
regrouped before path name rest e = ap (λ (p : List ℕ). before ++ p) e ∙ sym (append_assoc before (0x2f ∷ name) rest)

pub is_here : (before path name rest : List ℕ) → path ≡ 0x2f ∷ (name ++ rest) → true ≡ eqb (length rest) 0 → bytes_eq (before ++ 0x2f ∷ name) (before ++ path) ≡ true
is_here before path name rest e none =
    let nothing : rest ≡ [] = nil_from_length rest (eqb-true _ _ (sym none)) in
    (bytes_eq-Decides (before ++ 0x2f ∷ name) (before ++ path)).1
    (sym (regrouped before path name rest e ∙ ap (λ (r : List ℕ). (before ++ 0x2f ∷ name) ++ r) nothing ∙ append-nil (before ++ 0x2f ∷ name)))

pub is_not_here : (before path name rest : List ℕ) → path ≡ 0x2f ∷ (name ++ rest) → false ≡ eqb (length rest) 0 → bytes_eq (before ++ 0x2f ∷ name) (before ++ path) ≡ false
is_not_here before path name rest e some = false_from_ne_true _ (λ same.
    let whole : before ++ 0x2f ∷ name ≡ (before ++ 0x2f ∷ name) ++ rest = (bytes_eq-Decides (before ++ 0x2f ∷ name) (before ++ path)).0 same ∙ regrouped before path name rest e in
    eqb-false _ _ (sym some) (omega (arith, ap length whole, length-append (before ++ 0x2f ∷ name) rest)))

-- what was found below a child from what is left of the path
pub along : (node : Option Node) (child : Node) (before path rest : List ℕ) → path ≡ 0x2f ∷ (name_of child ++ rest)
    → node ≡ first_node (λ place. bytes_eq place.0 (child_path before child ++ rest)) (nodes_below child (child_path before child))
    → node ≡ first_node (λ place. bytes_eq place.0 (before ++ path)) (nodes_below child (child_path before child))
along node child before path rest e found =
    let P : List ℕ → Type 0 = λ whole. node ≡ first_node (λ place. bytes_eq place.0 whole) (nodes_below child (child_path before child)) in
    subst P (sym (regrouped before path (name_of child) rest e)) found
