-- The tree that a blob says is the tree that it is a blob of, made anew.
use Rattle.std.proofs.Common.{◌≡◌, ℕ, List, [], ◌∷◌, ◌++◌, map, refl, ap, subst, ◌∙◌, append_assoc}
use Rattle.std.specs.List.{flat_map}
use Rattle.dt_model.specs.declared.tree.Node.{Node}
use Rattle.dt_model.specs.declared.tree.Node.TheOpen.{Node-F}
use Rattle.dt_model.specs.declared.tree.Node.TheViews.{roll-Node}
use Rattle.dt_model.specs.declared.tree.Node.TheFolds.{ind-Node}
use Rattle.dt_model.specs.declared.tree.Property.{Property}
use Rattle.dt_model.specs.declared.tree.Tree.{Tree}
use Rattle.dt_model.specs.Token.{Token, EndNode, Finish}
use Rattle.dt_model.specs.Node.{property_token, node_tokens, tokens_of}
use Rattle.dt_model.specs.Blob.{IsBlobOf}
use Rattle.dt_model.proofs.Rules.{inside, node_tokens-roll}
use Rattle.std.proofs.lemmas.List.{append-nil}
use Rattle.dt_model.proofs.Blobs.{found_of}
use Rattle.hv_read.specs.Said.{Part, nothing, with_property, with_child, parts_of, first_child, tree_said}
use Rattle.hv_read.proofs.Remade.{remade, remade-roll}

-- the innermost node has these in front
abbrev with_properties : List Property → List Part → List Part
with_properties [] parts = parts
with_properties (property ∷ props) parts = with_property property (with_properties props parts)

abbrev with_children : List Node → Part → List Part → List Part
with_children children part outer = record { props = part.props; children = children ++ part.children } ∷ outer

parts-properties : (props : List Property) (tokens : List Token) → parts_of (map property_token props ++ tokens) ≡ with_properties props (parts_of tokens)
parts-properties [] tokens = refl
parts-properties (property ∷ props) tokens = ap (with_property property) (parts-properties props tokens)

properties-front : (props : List Property) (part : Part) (outer : List Part) → with_properties props (part ∷ outer) ≡ record { props = props ++ part.props; children = part.children } ∷ outer
properties-front [] part outer = refl
properties-front (property ∷ props) part outer = ap (with_property property) (properties-front props part outer)

-- a node's tokens put it, made anew, in front of what its parent has
abbrev Puts : Node → Type 0
Puts node = (tokens : List Token) (part : Part) (outer : List Part) → parts_of tokens ≡ part ∷ outer → parts_of (node_tokens node ++ tokens) ≡ with_children (remade node ∷ []) part outer

abbrev firsts : List ((node : Node) × Puts node) → List Node
firsts = map (λ e. e.0)

children-put : (nodes : List ((node : Node) × Puts node)) (tokens : List Token) (part : Part) (outer : List Part) → parts_of tokens ≡ part ∷ outer
    → parts_of (flat_map node_tokens (firsts nodes) ++ tokens) ≡ with_children (map remade (firsts nodes)) part outer
children-put [] tokens part outer e = e
children-put (node ∷ nodes) tokens part outer e =
    let below = children-put nodes tokens part outer e in
    let behind : Part = record { props = part.props; children = map remade (firsts nodes) ++ part.children } in
    ap parts_of (append_assoc (node_tokens node.0) (flat_map node_tokens (firsts nodes)) tokens)
    ∙ node.1 (flat_map node_tokens (firsts nodes) ++ tokens) behind outer below

pub node-puts : (x : Node-F Node) (tokens : List Token) (part : Part) (outer : List Part) → parts_of tokens ≡ part ∷ outer
    → ((tokens : List Token) (part : Part) (outer : List Part) → parts_of tokens ≡ part ∷ outer → parts_of (flat_map node_tokens x.children.items ++ tokens) ≡ with_children (map remade x.children.items) part outer)
    → parts_of (node_tokens (roll-Node x) ++ tokens) ≡ with_children (remade (roll-Node x) ∷ []) part outer
node-puts x tokens part outer e children =
    let kids = x.children.items in
    let props = x.props.items in
    let open_node : Part = record { props = []; children = map remade kids ++ [] } in
    let below : parts_of (flat_map node_tokens kids ++ EndNode ∷ tokens) ≡ open_node ∷ part ∷ outer =
    children (EndNode ∷ tokens) nothing (part ∷ outer) (ap (λ (parts : List Part). nothing ∷ parts) e) in
    let all : parts_of (map property_token props ++ (flat_map node_tokens kids ++ EndNode ∷ tokens)) ≡ record { props = props ++ []; children = map remade kids ++ [] } ∷ part ∷ outer =
    parts-properties props (flat_map node_tokens kids ++ EndNode ∷ tokens) ∙ ap (with_properties props) below ∙ properties-front props open_node (part ∷ outer) in
    let regrouped : inside x ++ tokens ≡ map property_token props ++ (flat_map node_tokens kids ++ EndNode ∷ tokens) =
    append_assoc (map property_token props) (flat_map node_tokens kids ++ EndNode ∷ []) tokens
    ∙ ap (λ (ts : List Token). map property_token props ++ ts) (append_assoc (flat_map node_tokens kids) (EndNode ∷ []) tokens) in
    ap (λ (ts : List Token). parts_of (ts ++ tokens)) (node_tokens-roll x)
    ∙ ap (λ (ts : List Token). with_child x.name (parts_of ts)) regrouped
    ∙ ap (with_child x.name) all
    ∙ rw (append-nil props, append-nil (map remade kids), remade-roll x) refl

node-put : (node : Node) → Puts node
node-put = ind-Node Puts (λ x y is tokens part outer e. node-puts x tokens part outer e
    (subst (λ (z : Node-F Node). (tokens : List Token) (part : Part) (outer : List Part) → parts_of tokens ≡ part ∷ outer
    → parts_of (flat_map node_tokens z.children.items ++ tokens) ≡ with_children (map remade z.children.items) part outer) is (children-put y.children.items)))

-- the tokens of a tree say its root, made anew
pub root-put : (tree : Tree) → first_child (parts_of (tokens_of tree)) ≡ remade tree.root
root-put tree = ap first_child (node-put tree.root (Finish ∷ []) nothing [] refl)

pub root-said : (bytes : List ℕ) (tree : Tree) → IsBlobOf bytes tree → (tree_said bytes).root ≡ remade tree.root
unfolding tree_said
root-said bytes tree blob =
    ap (λ (ts : List Token). first_child (parts_of ts)) (found_of bytes tree blob).same ∙ root-put tree
