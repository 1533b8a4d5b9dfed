-- What the tokens of a node leave behind, and lists of tokens one behind the other.
use Rattle.std.proofs.Common.{◌≡◌, ℕ, suc, Bool, true, false, cond, eqb, length, List, [], ◌∷◌, ◌++◌, map, Option, Some, None, refl, sym, ap, subst, ◌∙◌, arith}
use Rattle.std.specs.List.{flat_map}
use Rattle.std.proofs.lemmas.Bool.{ne_eqb}
use Rattle.dt_model.specs.declared.tree.Node.{Node}
use Rattle.dt_model.specs.declared.tree.Node.TheOpen.{Node-F}
use Rattle.dt_model.specs.declared.tree.Node.TheViews.{out-Node, roll-Node, out-roll-Node, roll-out-Node}
use Rattle.dt_model.specs.declared.tree.Node.TheFolds.{fold-roll-Node, ind-Node}
use Rattle.dt_model.specs.declared.tree.Property.{Property}
use Rattle.dt_model.specs.Token.{Token, BeginNode, Prop, EndNode, Nop, Finish, onto}
use Rattle.dt_model.specs.Node.{property_token, tokens_step, node_tokens, name_of}
use Rattle.dt_model.specs.Rule.{node_count, depth, properties_back, children_back, is_none_of, or_else, broken, first_broken}

pub onto-append : (xs ys before : List Token) → onto (xs ++ ys) before ≡ onto ys (onto xs before)
onto-append [] ys before = refl
onto-append (BeginNode n ∷ xs) ys before = onto-append xs ys (BeginNode n ∷ before)
onto-append (Prop n v ∷ xs) ys before = onto-append xs ys (Prop n v ∷ before)
onto-append (EndNode ∷ xs) ys before = onto-append xs ys (EndNode ∷ before)
onto-append (Nop ∷ xs) ys before = onto-append xs ys before
onto-append (Finish ∷ xs) ys before = onto-append xs ys (Finish ∷ before)

-- neither of two faults, and none of a chain
pub or_else-is_none : (a b : Option ℕ) → or_else a b ≡ None → (a ≡ None) × (b ≡ None)
or_else-is_none None b e = (refl, e)
or_else-is_none (Some n) b e = absurd cc

pub cond-is_none : (b : Bool) (rule : ℕ) (other : Option ℕ) → cond b (Some rule) other ≡ None → (b ≡ false) × (other ≡ None)
cond-is_none true rule other e = absurd cc
cond-is_none false rule other e = (refl, e)

or_else-assoc : (a b c : Option ℕ) → or_else a (or_else b c) ≡ or_else (or_else a b) c
or_else-assoc None b c = refl
or_else-assoc (Some a) b c = refl

step_more : (before : List Token) (t : Token) (a b c : Option ℕ) → a ≡ or_else b c → or_else (broken before t) a ≡ or_else (or_else (broken before t) b) c
step_more before t a b c e = ap (or_else (broken before t)) e ∙ or_else-assoc (broken before t) b c

pub first_broken-append : (xs ys before : List Token) → first_broken before (xs ++ ys) ≡ or_else (first_broken before xs) (first_broken (onto xs before) ys)
first_broken-append [] ys before = refl
first_broken-append (BeginNode n ∷ xs) ys before = step_more before (BeginNode n) _ _ _ (first_broken-append xs ys (BeginNode n ∷ before))
first_broken-append (Prop n v ∷ xs) ys before = step_more before (Prop n v) _ _ _ (first_broken-append xs ys (Prop n v ∷ before))
first_broken-append (EndNode ∷ xs) ys before = step_more before EndNode _ _ _ (first_broken-append xs ys (EndNode ∷ before))
first_broken-append (Nop ∷ xs) ys before = first_broken-append xs ys before
first_broken-append (Finish ∷ xs) ys before = step_more before Finish _ _ _ (first_broken-append xs ys (Finish ∷ before))

-- ---- the tokens of a node

-- those behind its beginning
abbrev pub inside : Node-F Node → List Token
inside x = map property_token x.props.items ++ (flat_map node_tokens x.children.items ++ EndNode ∷ [])

flat_map-mapped : (children : List Node) → flat_map (λ (ts : List Token). ts) (map node_tokens children) ≡ flat_map node_tokens children
flat_map-mapped [] = refl
flat_map-mapped (child ∷ others) = ap (λ (ts : List Token). node_tokens child ++ ts) (flat_map-mapped others)

pub node_tokens-roll : (x : Node-F Node) → node_tokens (roll-Node x) ≡ BeginNode x.name ∷ inside x
node_tokens-roll x =
    fold-roll-Node (List Token) tokens_step x
    ∙ ap (λ (ts : List Token). BeginNode x.name ∷ (map property_token x.props.items ++ (ts ++ EndNode ∷ []))) (flat_map-mapped x.children.items)

pub node_tokens-out : (node : Node) → node_tokens node ≡ BeginNode (name_of node) ∷ inside (out-Node node)
node_tokens-out node = ap node_tokens (sym (roll-out-Node node)) ∙ node_tokens-roll (out-Node node)

pub name_of-roll : (x : Node-F Node) → name_of (roll-Node x) ≡ x.name
name_of-roll x = ap (λ (y : Node-F Node). y.name) (out-roll-Node x)

-- ---- properties leave the nodes as they are

pub properties-depth : (ps : List Property) (before : List Token) → depth (onto (map property_token ps) before) ≡ depth before
properties-depth [] before = refl
properties-depth (p ∷ ps) before = properties-depth ps (property_token p ∷ before)

pub properties-nodes : (ps : List Property) (before : List Token) → node_count (onto (map property_token ps) before) ≡ node_count before
properties-nodes [] before = refl
properties-nodes (p ∷ ps) before = properties-nodes ps (property_token p ∷ before)

pub properties-children : (ps : List Property) (before : List Token) (k : ℕ) → children_back k (onto (map property_token ps) before) ≡ children_back k before
properties-children [] before k = refl
properties-children (p ∷ ps) before k = properties-children ps (property_token p ∷ before) k

pub properties-outer : (ps : List Property) (before : List Token) (k : ℕ) → properties_back (suc k) (onto (map property_token ps) before) ≡ properties_back (suc k) before
properties-outer [] before k = refl
properties-outer (p ∷ ps) before k = properties-outer ps (property_token p ∷ before) k

-- ---- a node leaves its name, and all else as it was

pub record Leaves (node : Node) (before : List Token) : Type 0 where
  pub depth_same : depth (onto (node_tokens node) before) ≡ depth before
  pub child : children_back 0 (onto (node_tokens node) before) ≡ name_of node ∷ children_back 0 before
  pub children : (k : ℕ) → children_back (suc k) (onto (node_tokens node) before) ≡ children_back (suc k) before
  pub properties : (k : ℕ) → properties_back k (onto (node_tokens node) before) ≡ properties_back k before

abbrev LeavesAlways : Node → Type 0
LeavesAlways node = (before : List Token) → Leaves node before

record AllLeave (nodes : List Node) (before : List Token) : Type 0 where
  depth_same : depth (onto (flat_map node_tokens nodes) before) ≡ depth before
  children : (k : ℕ) → children_back (suc k) (onto (flat_map node_tokens nodes) before) ≡ children_back (suc k) before
  properties : (k : ℕ) → properties_back k (onto (flat_map node_tokens nodes) before) ≡ properties_back k before

all_leave : (nodes : List ((node : Node) × LeavesAlways node)) (before : List Token) → AllLeave (map (λ e. e.0) nodes) before
all_leave [] before = record { depth_same = refl; children = λ k. refl; properties = λ k. refl }
all_leave (node ∷ others) before =
    let first = node.1 before in
    let rest = all_leave others (onto (node_tokens node.0) before) in
    let split = onto-append (node_tokens node.0) (flat_map node_tokens (map (λ e. e.0) others)) before in
    record {
      depth_same = rw split (rest.depth_same ∙ first.depth_same);
      children = λ k. rw split (rest.children k ∙ first.children k);
      properties = λ k. rw split (rest.properties k ∙ first.properties k);
    }

-- the place behind a node
pub behind : (x : Node-F Node) (before : List Token)
    → onto (node_tokens (roll-Node x)) before ≡ EndNode ∷ onto (flat_map node_tokens x.children.items) (onto (map property_token x.props.items) (BeginNode x.name ∷ before))
behind x before =
    ap (λ (ts : List Token). onto ts before) (node_tokens-roll x)
    ∙ onto-append (map property_token x.props.items) (flat_map node_tokens x.children.items ++ EndNode ∷ []) (BeginNode x.name ∷ before)
    ∙ onto-append (flat_map node_tokens x.children.items) (EndNode ∷ []) (onto (map property_token x.props.items) (BeginNode x.name ∷ before))

node_leaves : (x : Node-F Node) (before : List Token) → AllLeave x.children.items (onto (map property_token x.props.items) (BeginNode x.name ∷ before)) → Leaves (roll-Node x) before
node_leaves x before all =
    let place = BeginNode x.name ∷ before in
    let ps = x.props.items in
    record {
      depth_same = rw (behind x before, all.depth_same, properties-depth ps place) (omega arith);
      child = rw (behind x before, all.children 0, properties-children ps place 1, name_of-roll x) refl;
      children = λ k. rw (behind x before, all.children (suc k), properties-children ps place (suc (suc k))) refl;
      properties = λ k. rw (behind x before, all.properties (suc k), properties-outer ps place k) refl;
    }

pub leaves : (node : Node) → LeavesAlways node
leaves = ind-Node LeavesAlways (λ x y is before.
    node_leaves x before (subst (λ (z : Node-F Node). AllLeave z.children.items (onto (map property_token x.props.items) (BeginNode x.name ∷ before))) is
    (all_leave y.children.items (onto (map property_token x.props.items) (BeginNode x.name ∷ before)))))

pub children-depth : (nodes : List Node) (before : List Token) → depth (onto (flat_map node_tokens nodes) before) ≡ depth before
children-depth [] before = refl
children-depth (node ∷ others) before =
    rw (onto-append (node_tokens node) (flat_map node_tokens others) before) (children-depth others (onto (node_tokens node) before) ∙ (leaves node before).depth_same)

-- ---- whether a node has children

still_some : (nodes : List Node) (before : List Token) → is_none_of (children_back 0 before) ≡ false → is_none_of (children_back 0 (onto (flat_map node_tokens nodes) before)) ≡ false
still_some [] before some = some
still_some (node ∷ others) before some =
    rw (onto-append (node_tokens node) (flat_map node_tokens others) before)
    (still_some others (onto (node_tokens node) before) (ap is_none_of (leaves node before).child))

pub none_or_some : (nodes : List Node) (before : List Token) → children_back 0 before ≡ [] → is_none_of (children_back 0 (onto (flat_map node_tokens nodes) before)) ≡ eqb (length nodes) 0
none_or_some [] before none = ap is_none_of none
none_or_some (node ∷ others) before none =
    rw (onto-append (node_tokens node) (flat_map node_tokens others) before)
    (still_some others (onto (node_tokens node) before) (ap is_none_of (leaves node before).child) ∙ sym (ne_eqb (suc (length others)) 0 (omega arith)))
