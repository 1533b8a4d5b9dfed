-- The parts and the tokens of nodes that are made.
use Rattle.std.proofs.Common.{◌≡◌, ℕ, zero, suc, ◌+◌, List, [], ◌∷◌, ◌++◌, map, refl, sym, ap, ◌∙◌, arith, append_assoc, append-nil}
use Rattle.std.specs.List.{flat_map, range_with_len}
use Rattle.std.proofs.lemmas.Grind.{flat_map-append}
use Rattle.dt_model.specs.declared.tree.Node.{Node}
use Rattle.dt_model.specs.declared.tree.Node.TheOpen.{Node-F}
use Rattle.dt_model.specs.declared.tree.Node.TheViews.{roll-Node, out-roll-Node}
use Rattle.dt_model.specs.declared.tree.Node.TheFolds.{fold-roll-Node}
use Rattle.dt_model.specs.Token.{Token, BeginNode, EndNode}
use Rattle.dt_model.specs.Node.{property_token, tokens_step, node_tokens}
use Rattle.dt_make.specs.Nodes.{node, Has}

flat_map-mapped : (nodes : List Node) → flat_map (λ tokens. tokens) (map node_tokens nodes) ≡ flat_map node_tokens nodes
flat_map-mapped [] = refl
flat_map-mapped (node ∷ nodes) = ap (λ (tokens : List Token). node_tokens node ++ tokens) (flat_map-mapped nodes)

pub node_made : (x : Node-F Node) → node_tokens (roll-Node x) ≡ node x.name x.props.items (flat_map node_tokens x.children.items)
node_made x =
    fold-roll-Node (List Token) tokens_step x
    ∙ ap (λ (tokens : List Token). BeginNode x.name ∷ (map property_token x.props.items ++ (tokens ++ EndNode ∷ []))) (flat_map-mapped x.children.items)

pub node_has : (x : Node-F Node) → Has (roll-Node x) x.name x.props.items x.children.items
node_has x = record {
  name_is = ap (λ (y : Node-F Node). y.name) (out-roll-Node x);
  properties_are = ap (λ (y : Node-F Node). y.props.items) (out-roll-Node x);
  children_are = ap (λ (y : Node-F Node). y.children.items) (out-roll-Node x);
}

-- ---- lists that grow

range-more : {X : Type 0} (f : ℕ → List X) (first count : ℕ) → flat_map f (range_with_len first (count + 1)) ≡ flat_map f (range_with_len first count) ++ f (first + count)
range-more {X} f first zero = append-nil (f first) ∙ ap f (omega arith)
range-more {X} f first (suc count) =
    let longer : suc count + 1 ≡ suc (count + 1) = omega arith in
    let last : first + 1 + count ≡ first + suc count = omega arith in
    ap (λ n. flat_map f (range_with_len first n)) longer
    ∙ ap (λ (l : List X). f first ++ l) (range-more f (first + 1) count)
    ∙ sym (append_assoc (f first) (flat_map f (range_with_len (first + 1) count)) (f (first + 1 + count)))
    ∙ ap (λ n. (f first ++ flat_map f (range_with_len (first + 1) count)) ++ f n) last

-- one more node, where others stand in front
pub nodes_more : (f : ℕ → List Token) (front : List Token) (before after : List Node) (node : Node) (place : ℕ)
    → flat_map node_tokens before ≡ front ++ flat_map f (range_with_len 0 place) → after ≡ before ++ node ∷ [] → node_tokens node ≡ f place
    → flat_map node_tokens after ≡ front ++ flat_map f (range_with_len 0 (place + 1))
nodes_more f front before after node place e items is =
    ap (flat_map node_tokens) items ∙ flat_map-append node_tokens before (node ∷ [])
    ∙ ap (λ (tokens : List Token). tokens ++ (node_tokens node ++ [])) e
    ∙ append_assoc front (flat_map f (range_with_len 0 place)) (node_tokens node ++ [])
    ∙ ap (λ (tokens : List Token). front ++ (flat_map f (range_with_len 0 place) ++ tokens)) (append-nil (node_tokens node) ∙ is ∙ ap f (omega arith))
    ∙ ap (λ (tokens : List Token). front ++ tokens) (sym (range-more f 0 place))
