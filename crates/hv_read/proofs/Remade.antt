-- Nodes made anew of what they have.
use Rattle.std.proofs.Common.{◌≡◌, ℕ, suc, ◌<◌, ◌^◌, true, false, ltb, List, [], ◌∷◌, map, length, refl, sym, ap, subst, ◌∙◌, Global, Vec, arith}
use Rattle.std.proofs.lemmas.Bool.{ltb-true, lt-ltb}
use Rattle.dt_model.specs.declared.tree.Node.{Node}
use Rattle.dt_model.specs.declared.tree.Node.TheOpen.{Node-F}
use Rattle.dt_model.specs.declared.tree.Node.TheViews.{out-Node, roll-Node, roll-out-Node, out-roll-Node}
use Rattle.dt_model.specs.declared.tree.Node.TheFolds.{fold-Node, fold-roll-Node}
use Rattle.dt_model.specs.declared.tree.Property.{Property}
use Rattle.dt_model.specs.Node.{name_of, properties_of}
use Rattle.hv_config.specs.Meaning.{children_of}
use Rattle.hv_read.specs.Made.{vector, empty_vector, vector_of, node_of}

-- ---- vectors

pub items-vector : {X : Type 0} (xs : List X) → length xs < 2 ^ 63 → (vector_of xs).items ≡ xs
unfolding vector_of
items-vector {X} xs few =
    let yes : ltb (length xs) (2 ^ 63) ≡ true = lt-ltb (length xs) (2 ^ 63) few in
    elim (ltb (length xs) (2 ^ 63)) as (λ b. (e : ltb (length xs) (2 ^ 63) ≡ b)
    → (elim b as (λ b. ltb (length xs) (2 ^ 63) ≡ b → Vec X Global) [ true ↦ λ few. vector xs (ltb-true (length xs) (2 ^ 63) few) | false ↦ λ many. empty_vector {X = X} ] e).items ≡ xs)
    [ true ↦ λ e. refl | false ↦ λ e. absurd (let no : ltb (length xs) (2 ^ 63) ≡ false = e in cc) ] refl

pub few-items : {X : Type 0} (v : Vec X Global) → length v.items < 2 ^ 63
few-items v = let same = v.ok.0 in let within = v.ok.1 in let small = v.small in omega (arith, same, within, small)

-- ---- nodes

remade_step : Node-F Node → Node
remade_step layer = node_of layer.name layer.props.items layer.children.items

pub remade : Node → Node
remade = fold-Node Node remade_step

length-map : {X Y : Type 0} (f : X → Y) (xs : List X) → length (map f xs) ≡ length xs
length-map f [] = refl
length-map f (x ∷ xs) = ap suc (length-map f xs)

pub remade-roll : (x : Node-F Node) → remade (roll-Node x) ≡ node_of x.name x.props.items (map remade x.children.items)
unfolding remade remade_step
remade-roll x = fold-roll-Node Node remade_step x

remade-out : (node : Node) → remade node ≡ node_of (name_of node) (properties_of node) (map remade (children_of node))
remade-out node = ap remade (sym (roll-out-Node node)) ∙ remade-roll (out-Node node)

pub name-made : (name : List ℕ) (props : List Property) (children : List Node) → name_of (node_of name props children) ≡ name
unfolding node_of
name-made name props children = ap (λ (x : Node-F Node). x.name) (out-roll-Node _)

pub properties-made : (name : List ℕ) (props : List Property) (children : List Node) → length props < 2 ^ 63 → properties_of (node_of name props children) ≡ props
unfolding node_of
properties-made name props children few = ap (λ (x : Node-F Node). x.props.items) (out-roll-Node _) ∙ items-vector props few

pub children-made : (name : List ℕ) (props : List Property) (children : List Node) → length children < 2 ^ 63 → children_of (node_of name props children) ≡ children
unfolding node_of
children-made name props children few = ap (λ (x : Node-F Node). x.children.items) (out-roll-Node _) ∙ items-vector children few

pub name-remade : (node : Node) → name_of (remade node) ≡ name_of node
name-remade node = ap name_of (remade-out node) ∙ name-made (name_of node) (properties_of node) (map remade (children_of node))

pub properties-remade : (node : Node) → properties_of (remade node) ≡ properties_of node
properties-remade node =
    ap properties_of (remade-out node) ∙ properties-made (name_of node) (properties_of node) (map remade (children_of node)) (few-items (out-Node node).props)

pub children-remade : (node : Node) → children_of (remade node) ≡ map remade (children_of node)
children-remade node =
    ap children_of (remade-out node) ∙ children-made (name_of node) (properties_of node) (map remade (children_of node))
    (subst (λ (n : ℕ). n < 2 ^ 63) (sym (length-map remade (children_of node))) (few-items (out-Node node).children))
