-- Tokens laid out one behind the other.
use Rattle.std.proofs.Common.{◌≡◌, ℕ, ◌+◌, ◌<◌, ◌≤◌, Bool, true, false, List, [], ◌∷◌, ◌++◌, length, map, take, drop, get_or, refl, sym, ap, subst, ◌∙◌, arith, append_assoc, append-nil, length-append, take-append-drop}
use Rattle.std.specs.List.{flat_map}
use Rattle.std.proofs.lemmas.List.{take_more, map-append}
use Rattle.std.proofs.lemmas.Grind.{flat_map-append}
use Rattle.std.proofs.Math.ListN.{drop_of_length-le}
use Rattle.dt_model.specs.declared.tree.Node.{Node}
use Rattle.dt_model.specs.declared.tree.Node.TheOpen.{Node-F}
use Rattle.dt_model.specs.declared.tree.Node.TheViews.{out-Node}
use Rattle.dt_model.specs.declared.tree.Property.{Property}
use Rattle.dt_model.specs.Name.{has}
use Rattle.dt_model.specs.Token.{Token, BeginNode, Prop, EndNode, Nop, Finish}
use Rattle.dt_model.specs.Node.{node_tokens, property_token}
use Rattle.dt_model.specs.Canonical.{with_name, strings_of, spelling}
use Rattle.dt_model.proofs.Rules.{inside, node_tokens-out}
use Rattle.dt_write.specs.Layout.{Laid, with_token, with_tokens, size_of}
use Rattle.dt_write.proofs.Laid.{strings_push}

-- ---- what is laid out only grows

strings-grow : (names : List (List ℕ)) (name : List ℕ) (b : Bool) → has names name ≡ b → length (strings_of names) ≤ length (strings_of (with_name names name))
strings-grow names name true is = rw is (omega arith)
strings-grow names name false is = rw is (omega (arith, strings_push names name))

with_token-grows : (laid : Laid) (token : Token) → size_of laid ≤ size_of (with_token laid token)
unfolding with_token
with_token-grows laid (Prop name value) =
    omega (arith, length-append laid.structure (spelling (with_name laid.names name) (Prop name value)), strings-grow laid.names name _ refl)
with_token-grows laid (BeginNode name) = omega (arith, length-append laid.structure (spelling laid.names (BeginNode name)))
with_token-grows laid EndNode = omega (arith, length-append laid.structure (spelling laid.names EndNode))
with_token-grows laid Nop = omega (arith, length-append laid.structure (spelling laid.names Nop))
with_token-grows laid Finish = omega (arith, length-append laid.structure (spelling laid.names Finish))

with_tokens-grows : (laid : Laid) (tokens : List Token) → size_of laid ≤ size_of (with_tokens laid tokens)
with_tokens-grows laid [] = omega arith
with_tokens-grows laid (token ∷ tokens) = omega (arith, with_token-grows laid token, with_tokens-grows (with_token laid token) tokens)

pub with_tokens-append : (laid : Laid) (xs ys : List Token) → with_tokens laid (xs ++ ys) ≡ with_tokens (with_tokens laid xs) ys
with_tokens-append laid [] ys = refl
with_tokens-append laid (token ∷ xs) ys = with_tokens-append (with_token laid token) xs ys

-- what is too large stays so
pub still_large : (n : ℕ) (laid : Laid) (all xs ys : List Token) → all ≡ xs ++ ys → n < size_of (with_tokens laid xs) → n < size_of (with_tokens laid all)
still_large n laid all xs ys is large =
    let grown : size_of (with_tokens laid xs) ≤ size_of (with_tokens (with_tokens laid xs) ys) = with_tokens-grows (with_tokens laid xs) ys in
    let same : size_of (with_tokens laid all) ≡ size_of (with_tokens (with_tokens laid xs) ys) =
    ap (λ (ts : List Token). size_of (with_tokens laid ts)) is ∙ ap size_of (with_tokens-append laid xs ys) in
    omega arith

-- ---- properties

pub properties-next : (ps : List Property) (i : ℕ) (p : Property) → i < length ps → p ≡ get_or ps i p
    → map property_token (take (i + 1) ps) ≡ map property_token (take i ps) ++ property_token p ∷ []
properties-next ps i p lt is =
    ap (map property_token) (take_more ps i p lt) ∙ map-append property_token (take i ps) (get_or ps i p ∷ [])
    ∙ ap (λ (q : Property). map property_token (take i ps) ++ property_token q ∷ []) (sym is)

pub properties-split : (ps : List Property) (i : ℕ) → map property_token ps ≡ map property_token (take i ps) ++ map property_token (drop i ps)
properties-split ps i = ap (map property_token) (sym (take-append-drop i ps)) ∙ map-append property_token (take i ps) (drop i ps)

-- ---- a node

-- a node's tokens up to so many of its children
abbrev pub upto : Node-F Node → ℕ → List Token
upto x i = BeginNode x.name ∷ (map property_token x.props.items ++ flat_map node_tokens (take i x.children.items))

pub upto-next : (x : Node-F Node) (i : ℕ) (child : Node) → i < length x.children.items → child ≡ get_or x.children.items i child
    → upto x (i + 1) ≡ upto x i ++ node_tokens child
upto-next x i child lt is =
    let front = map property_token x.props.items in
    let more : flat_map node_tokens (take (i + 1) x.children.items) ≡ flat_map node_tokens (take i x.children.items) ++ node_tokens child =
    ap (flat_map node_tokens) (take_more x.children.items i child lt)
    ∙ flat_map-append node_tokens (take i x.children.items) (get_or x.children.items i child ∷ [])
    ∙ ap (λ (ts : List Token). flat_map node_tokens (take i x.children.items) ++ ts) (append-nil (node_tokens (get_or x.children.items i child)))
    ∙ ap (λ (n : Node). flat_map node_tokens (take i x.children.items) ++ node_tokens n) (sym is) in
    ap (λ (ts : List Token). BeginNode x.name ∷ (front ++ ts)) more
    ∙ ap (λ (ts : List Token). BeginNode x.name ∷ ts) (sym (append_assoc front (flat_map node_tokens (take i x.children.items)) (node_tokens child)))

-- the children from there on, and the node's end
abbrev pub from : Node-F Node → ℕ → List Token
from x i = flat_map node_tokens (drop i x.children.items) ++ EndNode ∷ []

pub node_tokens-split : (node : Node) (i : ℕ) → node_tokens node ≡ upto (out-Node node) i ++ from (out-Node node) i
node_tokens-split node i =
    let x = out-Node node in
    let front = map property_token x.props.items in
    let some = flat_map node_tokens (take i x.children.items) in
    let children : flat_map node_tokens x.children.items ≡ some ++ flat_map node_tokens (drop i x.children.items) =
    ap (flat_map node_tokens) (sym (take-append-drop i x.children.items)) ∙ flat_map-append node_tokens (take i x.children.items) (drop i x.children.items) in
    node_tokens-out node
    ∙ ap (λ (ts : List Token). BeginNode x.name ∷ (front ++ (ts ++ EndNode ∷ []))) children
    ∙ ap (λ (ts : List Token). BeginNode x.name ∷ (front ++ ts)) (append_assoc some (flat_map node_tokens (drop i x.children.items)) (EndNode ∷ []))
    ∙ ap (λ (ts : List Token). BeginNode x.name ∷ ts) (sym (append_assoc front some (from x i)))

-- ---- what is too large on the way is too large in the end

pub property_large : (n : ℕ) (laid here : Laid) (ps : List Property) (i : ℕ) (p : Property) → i < length ps → p ≡ get_or ps i p
    → here ≡ with_tokens laid (map property_token (take i ps)) → n < size_of (with_token here (property_token p))
    → n < size_of (with_tokens laid (map property_token ps))
property_large n laid here ps i p lt is so_far large =
    let front = map property_token (take i ps) in
    let one : with_token here (property_token p) ≡ with_tokens laid (front ++ property_token p ∷ []) =
    ap (λ (l : Laid). with_token l (property_token p)) so_far ∙ sym (with_tokens-append laid front (property_token p ∷ [])) in
    let split : map property_token ps ≡ (front ++ property_token p ∷ []) ++ map property_token (drop (i + 1) ps) =
    properties-split ps (i + 1) ∙ ap (λ (ts : List Token). ts ++ map property_token (drop (i + 1) ps)) (properties-next ps i p lt is) in
    still_large n laid (map property_token ps) (front ++ property_token p ∷ []) (map property_token (drop (i + 1) ps)) split (subst (λ (l : Laid). n < size_of l) one large)

pub property_laid : (laid here : Laid) (ps : List Property) (i : ℕ) (p : Property) → i < length ps → p ≡ get_or ps i p
    → here ≡ with_tokens laid (map property_token (take i ps)) → with_token here (property_token p) ≡ with_tokens laid (map property_token (take (i + 1) ps))
property_laid laid here ps i p lt is so_far =
    let front = map property_token (take i ps) in
    ap (λ (l : Laid). with_token l (property_token p)) so_far ∙ sym (with_tokens-append laid front (property_token p ∷ []))
    ∙ ap (with_tokens laid) (sym (properties-next ps i p lt is))

pub begin_large : (n : ℕ) (laid : Laid) (node : Node) → n < size_of (with_token laid (BeginNode (out-Node node).name))
    → n < size_of (with_tokens laid (node_tokens node))
begin_large n laid node large = still_large n laid _ (BeginNode (out-Node node).name ∷ []) (inside (out-Node node)) (node_tokens-out node) large

pub properties_large : (n : ℕ) (laid begun : Laid) (node : Node) → begun ≡ with_token laid (BeginNode (out-Node node).name)
    → n < size_of (with_tokens begun (map property_token (out-Node node).props.items)) → n < size_of (with_tokens laid (node_tokens node))
properties_large n laid begun node is large =
    let x = out-Node node in
    let front = map property_token x.props.items in
    still_large n laid _ (BeginNode x.name ∷ front) (flat_map node_tokens x.children.items ++ EndNode ∷ []) (node_tokens-out node)
    (subst (λ (l : Laid). n < size_of (with_tokens l front)) is large)

pub child_laid : (laid here : Laid) (node : Node) (i : ℕ) (child : Node) → i < length (out-Node node).children.items → child ≡ get_or (out-Node node).children.items i child
    → here ≡ with_tokens laid (upto (out-Node node) i) → with_tokens here (node_tokens child) ≡ with_tokens laid (upto (out-Node node) (i + 1))
child_laid laid here node i child lt is so_far =
    ap (λ (l : Laid). with_tokens l (node_tokens child)) so_far ∙ sym (with_tokens-append laid (upto (out-Node node) i) (node_tokens child))
    ∙ ap (with_tokens laid) (sym (upto-next (out-Node node) i child lt is))

pub child_large : (n : ℕ) (laid here : Laid) (node : Node) (i : ℕ) (child : Node) → i < length (out-Node node).children.items
    → child ≡ get_or (out-Node node).children.items i child → here ≡ with_tokens laid (upto (out-Node node) i)
    → n < size_of (with_tokens here (node_tokens child)) → n < size_of (with_tokens laid (node_tokens node))
child_large n laid here node i child lt is so_far large =
    still_large n laid (node_tokens node) (upto (out-Node node) (i + 1)) (from (out-Node node) (i + 1)) (node_tokens-split node (i + 1))
    (subst (λ (l : Laid). n < size_of l) (child_laid laid here node i child lt is so_far) large)

-- behind the last child only the node's end is missing
pub end_laid : (laid here : Laid) (node : Node) (i : ℕ) → length (out-Node node).children.items ≤ i → here ≡ with_tokens laid (upto (out-Node node) i)
    → with_token here EndNode ≡ with_tokens laid (node_tokens node)
end_laid laid here node i last so_far =
    let x = out-Node node in
    let none : from x i ≡ EndNode ∷ [] = ap (λ (ns : List Node). flat_map node_tokens ns ++ EndNode ∷ []) (drop_of_length-le x.children.items last) in
    ap (λ (l : Laid). with_token l EndNode) so_far ∙ sym (with_tokens-append laid (upto x i) (EndNode ∷ []))
    ∙ ap (λ (ts : List Token). with_tokens laid (upto x i ++ ts)) (sym none) ∙ ap (with_tokens laid) (sym (node_tokens-split node i))
