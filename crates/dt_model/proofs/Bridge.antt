-- A tree is walked to its end exactly where its tokens keep the rules.
use Rattle.std.proofs.Common.{◌≡◌, ℕ, zero, suc, ◌+◌, ◌<◌, ◌≤◌, Bool, true, false, cond, not, ◌&&◌, ltb, leb, eqb, List, [], ◌∷◌, ◌++◌, map, length, Option, Some, None, refl, sym, ap, subst, ◌∙◌, arith, inl, inr}
use Rattle.std.specs.Prelude.{IsTrue, option_and_then, is_none, is_some, ◌||◌}
use Rattle.std.specs.List.{flat_map, list_all}
use Rattle.std.specs.Str.{bytes_eq}
use Rattle.std.proofs.lemmas.Bool.{cases_lt, cases_Bool, lt-ltb, le-ltb, ne_eqb, and_parts, and_from, leb-true, le-leb, both_ways}
use Rattle.dt_model.specs.declared.tree.Node.{Node}
use Rattle.dt_model.specs.declared.tree.Node.TheOpen.{Node-F}
use Rattle.dt_model.specs.declared.tree.Node.TheViews.{out-Node, roll-Node, out-roll-Node}
use Rattle.dt_model.specs.declared.tree.Node.TheFolds.{map-Node, ind-Node}
use Rattle.dt_model.specs.declared.tree.Property.{Property}
use Rattle.dt_model.specs.declared.fitting.Counts.{Counts}
use Rattle.dt_model.specs.declared.tree.Tree.{Tree}
use Rattle.dt_model.specs.Fit.{Fits, is_entry}
use Rattle.dt_model.specs.Name.{is_node_name, is_property_name, has, SameNames}
use Rattle.dt_model.specs.Token.{Token, BeginNode, Prop, EndNode, Nop, Finish, onto}
use Rattle.dt_model.specs.Node.{property_token, node_tokens, name_of}
use Rattle.dt_model.specs.Rule.{node_count, property_count, depth, properties_back, children_back, or_else, broken_by_begin, broken_by_property, broken_by_end, broken_by_finish, first_broken}
use Rattle.dt_model.specs.Walk.{may_follow, may_begin, property_walk, children_walk, node_walk, walks, is_walked}
use Rattle.dt_model.proofs.Rules.{node_tokens-out, onto-append, first_broken-append, inside, node_tokens-roll, name_of-roll, leaves, properties-depth, properties-nodes, properties-children, children-depth}
use Rattle.dt_model.proofs.Walks.{node_walk-roll}

-- ---- one token

none_from : (o : Option ℕ) → is_none o ≡ true → o ≡ None
none_from None e = refl
none_from (Some n) e = absurd cc

not-ltb : (m n : ℕ) → not (ltb m n) ≡ ltb n (m + 1)
not-ltb m n =
    elim (cases_lt m n) [
      | inl lt ↦ rw (lt-ltb m n lt, le-ltb n (m + 1) (omega arith)) refl
      | inr le ↦ rw (le-ltb m n le, lt-ltb n (m + 1) (omega arith)) refl
    ]

chain-3 : (p c h : Bool) → is_none {T = ℕ} (cond (not p) (Some 9) (cond c (Some 13) (cond h (Some 14) None))) ≡ ((p && not c) && not h)
chain-3 true true true = refl
chain-3 true true false = refl
chain-3 true false true = refl
chain-3 true false false = refl
chain-3 false c h = refl

chain-4 : (p d c h : Bool) → is_none {T = ℕ} (cond (not p) (Some 9) (cond d (Some 10) (cond c (Some 13) (cond h (Some 14) None)))) ≡ (((p && not d) && not c) && not h)
chain-4 true true c h = refl
chain-4 true false true h = refl
chain-4 true false false true = refl
chain-4 true false false false = refl
chain-4 false d c h = refl

or-comm : (a b : Bool) → (a || b) ≡ (b || a)
or-comm true true = refl
or-comm true false = refl
or-comm false true = refl
or-comm false false = refl

or-assoc : (a b c : Bool) → (a || (b || c)) ≡ ((a || b) || c)
or-assoc true b c = refl
or-assoc false b c = refl

has-push : (xs : List (List ℕ)) (new name : List ℕ) → has (xs ++ new ∷ []) name ≡ (bytes_eq new name || has xs name)
has-push [] new name = refl
has-push (x ∷ xs) new name =
    ap (λ b. bytes_eq x name || b) (has-push xs new name)
    ∙ or-assoc (bytes_eq x name) (bytes_eq new name) (has xs name)
    ∙ ap (λ b. b || has xs name) (or-comm (bytes_eq x name) (bytes_eq new name))
    ∙ sym (or-assoc (bytes_eq new name) (bytes_eq x name) (has xs name))

SameNames-push : (xs ys : List (List ℕ)) (new : List ℕ) → SameNames xs ys → SameNames (xs ++ new ∷ []) (new ∷ ys)
SameNames-push xs ys new same name = has-push xs new name ∙ ap (λ b. bytes_eq new name || b) (same name)

property_rule : (before : List Token) (name : List ℕ) (earlier : List (List ℕ)) (count : ℕ) → 0 < depth before → children_back 0 before ≡ [] → property_count before ≡ count
    → SameNames earlier (properties_back 0 before) → is_none (broken_by_property before name) ≡ may_follow earlier count name
unfolding broken_by_property may_follow
property_rule before name earlier count is_open none counted same =
    rw (lt-ltb 0 (depth before) is_open, none, counted, ← same name)
    (chain-3 (is_property_name name) (ltb 65535 count) (has earlier name) ∙ ap (λ b. (is_property_name name && b) && not (has earlier name)) (not-ltb 65535 count))

begin_rule : (before : List Token) (name : List ℕ) (earlier : List (List ℕ)) (nodes : ℕ) → 0 < depth before → 0 < node_count before → node_count before ≡ nodes
    → SameNames earlier (children_back 0 before) → is_none (broken_by_begin before name) ≡ may_begin earlier (depth before) nodes name
unfolding broken_by_begin may_begin
begin_rule before name earlier nodes is_open begun counted same =
    rw (lt-ltb 0 (node_count before) begun, lt-ltb 0 (depth before) is_open, counted, ← same name)
    (chain-4 (is_node_name name) (ltb 31 (depth before)) (ltb 65535 nodes) (has earlier name)
    ∙ ap (λ b. ((is_node_name name && b) && not (ltb 65535 nodes)) && not (has earlier name)) (not-ltb 31 (depth before))
    ∙ ap (λ b. ((is_node_name name && ltb (depth before) 32) && b) && not (has earlier name)) (not-ltb 65535 nodes))

-- ---- properties

-- a count that a walk gave, and the fault of the tokens on the way to a place
abbrev AgreesOnProperties : Option ℕ → Option ℕ → List Token → Type 0
AgreesOnProperties None fault after = is_none fault ≡ false
AgreesOnProperties (Some count) fault after = (fault ≡ None) × (property_count after ≡ count)

some_behind : (a b : Option ℕ) → is_none a ≡ false → is_none (or_else a b) ≡ false
some_behind None b e = absurd cc
some_behind (Some n) b e = e

properties_agree : (ps : List Property) (before : List Token) (earlier : List (List ℕ)) (count : ℕ) → 0 < depth before → children_back 0 before ≡ [] → property_count before ≡ count
    → SameNames earlier (properties_back 0 before) → AgreesOnProperties (property_walk earlier ps count) (first_broken before (map property_token ps)) (onto (map property_token ps) before)
properties_agree [] before earlier count is_open none counted same = (refl, counted)
properties_agree (p ∷ ps) before earlier count is_open none counted same =
    let rule = property_rule before p.name earlier count is_open none counted same in
    let rest = properties_agree ps (Prop p.name p.value ∷ before) (earlier ++ p.name ∷ []) (count + 1) is_open none (ap (λ n. n + 1) counted) (SameNames-push earlier (properties_back 0 before) p.name same) in
    elim (cases_Bool (may_follow earlier count p.name)) [
      | inl may ↦ rw (may, none_from (broken_by_property before p.name) (rule ∙ may)) rest
      | inr bars ↦ rw bars (some_behind (broken_by_property before p.name) _ (rule ∙ bars))
    ]

-- ---- nodes

abbrev Agrees : Option Counts → Option ℕ → List Token → Type 0
Agrees None fault after = is_none fault ≡ false
Agrees (Some counts) fault after = (fault ≡ None) × (node_count after ≡ counts.nodes) × (property_count after ≡ counts.properties)

agrees_then : (o : Option Counts) (f : Counts → Option Counts) (first second : Option ℕ) (middle after : List Token) → Agrees o first middle
    → ((counts : Counts) → node_count middle ≡ counts.nodes → property_count middle ≡ counts.properties → Agrees (f counts) second after) → Agrees (option_and_then f o) (or_else first second) after
agrees_then None f first second middle after agrees go_on = some_behind first second agrees
agrees_then (Some counts) f first second middle after agrees go_on = rw agrees.0 (go_on counts agrees.1 agrees.2)

-- a token in front that breaks nothing
agrees_behind : (o : Option Counts) (first second : Option ℕ) (after : List Token) → first ≡ None → Agrees o second after → Agrees o (or_else first second) after
agrees_behind o first second after none agrees = rw none agrees

pub count_rises : (tokens before : List Token) → node_count before ≤ node_count (onto tokens before)
count_rises [] before = omega arith
count_rises (BeginNode n ∷ tokens) before = omega (arith, count_rises tokens (BeginNode n ∷ before))
count_rises (Prop n v ∷ tokens) before = count_rises tokens (Prop n v ∷ before)
count_rises (EndNode ∷ tokens) before = count_rises tokens (EndNode ∷ before)
count_rises (Nop ∷ tokens) before = count_rises tokens before
count_rises (Finish ∷ tokens) before = count_rises tokens (Finish ∷ before)

-- the tokens of a node behind its beginning, after which they leave the place behind the node
abbrev NodeAgrees : Node → Type 0
NodeAgrees node = (before : List Token) (counts : Counts) → node_count before ≡ counts.nodes → property_count before ≡ counts.properties
    → Agrees (node_walk node (depth before) counts) (first_broken (BeginNode (name_of node) ∷ before) (inside (out-Node node))) (onto (node_tokens node) before)

children_agree : (nodes : List ((node : Node) × NodeAgrees node)) (before : List Token) (earlier : List (List ℕ)) (counts : Counts) → 0 < depth before → 0 < node_count before
    → node_count before ≡ counts.nodes → property_count before ≡ counts.properties → SameNames earlier (children_back 0 before)
    → Agrees (children_walk (depth before) earlier (walks (map (λ e. e.0) nodes)) counts) (first_broken before (flat_map node_tokens (map (λ e. e.0) nodes))) (onto (flat_map node_tokens (map (λ e. e.0) nodes)) before)
children_agree [] before earlier counts is_open begun nodes properties same = (refl, nodes, properties)
children_agree (node ∷ others) before earlier counts is_open begun nodes properties same =
    let rule = begin_rule before (name_of node.0) earlier counts.nodes is_open begun nodes same in
    let rest = flat_map node_tokens (map (λ e. e.0) others) in
    let middle = onto (node_tokens node.0) before in
    let split = first_broken-append (node_tokens node.0) rest before in
    let first : first_broken before (node_tokens node.0) ≡ or_else (broken_by_begin before (name_of node.0)) (first_broken (BeginNode (name_of node.0) ∷ before) (inside (out-Node node.0)))
    = ap (first_broken before) (node_tokens-out node.0) in
    let left = leaves node.0 before in
    elim (cases_Bool (may_begin earlier (depth before) counts.nodes (name_of node.0))) [
      | inl may ↦
          let here = agrees_behind _ (broken_by_begin before (name_of node.0)) _ middle (none_from _ (rule ∙ may)) (node.1 before counts nodes properties) in
          let after : (c : Counts) → node_count middle ≡ c.nodes → property_count middle ≡ c.properties
          → Agrees (children_walk (depth before) (earlier ++ name_of node.0 ∷ []) (walks (map (λ e. e.0) others)) c) (first_broken middle rest) (onto rest middle)
          = λ c n p. subst (λ (d : ℕ). Agrees (children_walk d (earlier ++ name_of node.0 ∷ []) (walks (map (λ e. e.0) others)) c) (first_broken middle rest) (onto rest middle)) left.depth_same
          (children_agree others middle (earlier ++ name_of node.0 ∷ []) c (omega (arith, left.depth_same)) (omega (arith, count_rises (node_tokens node.0) before)) n p
          (λ name. SameNames-push earlier (children_back 0 before) (name_of node.0) same name ∙ ap (λ (l : List (List ℕ)). has l name) (sym left.child))) in
          rw (may, split, first, onto-append (node_tokens node.0) rest before)
          (agrees_then (node_walk node.0 (depth before) counts) _ _ _ middle _ here after)
      | inr bars ↦ rw (bars, split, first) (some_behind _ _ (some_behind (broken_by_begin before (name_of node.0)) _ (rule ∙ bars)))
    ]

children_are : (x : Node-F Node) (y : Node-F ((node : Node) × NodeAgrees node)) → map-Node ((node : Node) × NodeAgrees node) Node (λ e. e.0) y ≡ x
    → (before : List Token) (earlier : List (List ℕ)) (counts : Counts) → 0 < depth before → 0 < node_count before
    → node_count before ≡ counts.nodes → property_count before ≡ counts.properties → SameNames earlier (children_back 0 before)
    → Agrees (children_walk (depth before) earlier (walks x.children.items) counts) (first_broken before (flat_map node_tokens x.children.items)) (onto (flat_map node_tokens x.children.items) before)
children_are x y is before earlier counts is_open begun nodes properties same =
    subst (λ (z : Node-F Node). Agrees (children_walk (depth before) earlier (walks z.children.items) counts) (first_broken before (flat_map node_tokens z.children.items)) (onto (flat_map node_tokens z.children.items) before)) is
    (children_agree y.children.items before earlier counts is_open begun nodes properties same)

or_else-none : (fault : Option ℕ) → or_else fault None ≡ fault
or_else-none None = refl
or_else-none (Some n) = refl

agrees_at_end : (o : Option Counts) (fault : Option ℕ) (after : List Token) → Agrees o fault after → Agrees o (or_else fault None) (EndNode ∷ after)
agrees_at_end None fault after agrees = some_behind fault None agrees
agrees_at_end (Some counts) fault after agrees = (or_else-none fault ∙ agrees.0, agrees.1, agrees.2)

agrees_inside : (o : Option ℕ) (f : ℕ → Option Counts) (first second last : Option ℕ) (middle after : List Token) → AgreesOnProperties o first middle → last ≡ None
    → ((count : ℕ) → property_count middle ≡ count → Agrees (f count) second after) → Agrees (option_and_then f o) (or_else first (or_else second last)) (EndNode ∷ after)
agrees_inside None f first second last middle after agrees none go_on = some_behind first (or_else second last) agrees
agrees_inside (Some count) f first second last middle after agrees none go_on = rw (agrees.0, none) (agrees_at_end (f count) second after (go_on count agrees.1))

end_breaks_nothing : (before : List Token) → 0 < depth before → first_broken before (EndNode ∷ []) ≡ None
unfolding broken_by_end
end_breaks_nothing before is_open = rw (lt-ltb 0 (depth before) is_open) refl

-- the walk inside a node
inside_agrees : (x : Node-F Node) (y : Node-F ((node : Node) × NodeAgrees node)) → map-Node ((node : Node) × NodeAgrees node) Node (λ e. e.0) y ≡ x
    → (before : List Token) (counts : Counts) → node_count before ≡ counts.nodes → property_count before ≡ counts.properties
    → Agrees (node_walk (roll-Node x) (depth before) counts) (first_broken (BeginNode x.name ∷ before) (inside x)) (onto (inside x) (BeginNode x.name ∷ before))
inside_agrees x y is before counts nodes properties =
    let place = BeginNode x.name ∷ before in
    let ps = map property_token x.props.items in
    let children = flat_map node_tokens x.children.items in
    let middle = onto ps place in
    let first = properties_agree x.props.items place [] counts.properties (omega arith) refl properties (λ name. refl) in
    let depth_is : depth middle ≡ depth before + 1 = properties-depth x.props.items place in
    let nodes_is : node_count middle ≡ counts.nodes + 1 = properties-nodes x.props.items place ∙ ap (λ n. n + 1) nodes in
    let names : SameNames [] (children_back 0 middle) = λ name. ap (λ (l : List (List ℕ)). has l name) (sym (properties-children x.props.items place 0)) in
    let end : onto (inside x) place ≡ EndNode ∷ onto children middle = onto-append ps (children ++ EndNode ∷ []) place ∙ onto-append children (EndNode ∷ []) middle in
    let fault : first_broken place (inside x) ≡ or_else (first_broken place ps) (or_else (first_broken middle children) (first_broken (onto children middle) (EndNode ∷ [])))
    = first_broken-append ps (children ++ EndNode ∷ []) place ∙ ap (or_else (first_broken place ps)) (first_broken-append children (EndNode ∷ []) middle) in
    let last = end_breaks_nothing (onto children middle) (omega (arith, children-depth x.children.items middle, depth_is)) in
    let go_on : (count : ℕ) → property_count middle ≡ count → Agrees (children_walk (depth before + 1) [] (walks x.children.items) (record { nodes = counts.nodes + 1; properties = count })) (first_broken middle children) (onto children middle)
    = λ count counted. subst (λ (d : ℕ). Agrees (children_walk d [] (walks x.children.items) (record { nodes = counts.nodes + 1; properties = count })) (first_broken middle children) (onto children middle)) depth_is
    (children_are x y is middle [] (record { nodes = counts.nodes + 1; properties = count }) (omega (arith, depth_is)) (omega (arith, nodes_is)) nodes_is counted names) in
    rw (node_walk-roll x (depth before) counts, fault, end) (agrees_inside (property_walk [] x.props.items counts.properties) _ _ _ _ middle (onto children middle) first last go_on)

pub node_agrees : (node : Node) → NodeAgrees node
node_agrees = ind-Node NodeAgrees (λ x y is before counts nodes properties.
    rw (node_tokens-roll x, name_of-roll x, out-roll-Node x) (inside_agrees x y is before counts nodes properties))

-- ---- the whole tree

finish_breaks_nothing : (before : List Token) → 0 < node_count before → depth before ≡ 0 → first_broken before (Finish ∷ []) ≡ None
unfolding broken_by_finish
finish_breaks_nothing before begun closed = rw (lt-ltb 0 (node_count before) begun, closed) refl

none_above : (n : ℕ) → is_none {T = ℕ} (cond (ltb 0 n) (Some 11) None) ≡ eqb n 0
none_above zero = refl
none_above (suc n) = rw (lt-ltb 0 (suc n) (omega arith), ne_eqb (suc n) 0 (omega arith)) refl

root_rule : (name : List ℕ) → is_none (broken_by_begin [] name) ≡ eqb (length name) 0
unfolding broken_by_begin
root_rule name = none_above (length name)

same_answer : (o : Option Counts) (name : Bool) (first second : Option ℕ) (after : List Token) → is_none first ≡ name → Agrees o second after
    → (name && is_some o) ≡ is_none (or_else first second)
same_answer None true first second after named agrees = rw (none_from first named) (sym agrees)
same_answer (Some counts) true first second after named agrees = rw (none_from first named, agrees.0) refl
same_answer o false first second after named agrees = sym (some_behind first second named)

pub is_walked-is : (root : Node) → is_walked root ≡ is_none (first_broken [] (node_tokens root ++ Finish ∷ []))
is_walked-is root =
    let behind_root = onto (node_tokens root) [] in
    let begun : 0 < node_count behind_root = rw (node_tokens-out root) (omega (arith, count_rises (inside (out-Node root)) (BeginNode (name_of root) ∷ []))) in
    let last = finish_breaks_nothing behind_root begun (leaves root []).depth_same in
    let first : first_broken [] (node_tokens root) ≡ or_else (broken_by_begin [] (name_of root)) (first_broken (BeginNode (name_of root) ∷ []) (inside (out-Node root)))
    = ap (first_broken []) (node_tokens-out root) in
    let nothing : Counts = record { nodes = 0; properties = 0 } in
    same_answer (node_walk root 0 nothing) (eqb (length (name_of root)) 0) _ _ behind_root (root_rule (name_of root)) (node_agrees root [] nothing refl refl)
    ∙ ap (is_none {T = ℕ}) (sym (first_broken-append (node_tokens root) (Finish ∷ []) [] ∙ rw (first, last) (or_else-none _)))

pub fits_where_walked : (tree : Tree) (answer : Bool) → (leb (length tree.reserve.items) 1024 && list_all is_entry tree.reserve.items) ≡ true → answer ≡ is_walked tree.root
    → (IsTrue answer → Fits tree) × (Fits tree → IsTrue answer)
fits_where_walked tree answer map is =
    let whole = is ∙ is_walked-is tree.root in
    let parts = and_parts _ _ map in
    (λ holds. record { few_entries = leb-true _ _ parts.0; entries = parts.1; tokens = none_from _ (sym whole ∙ holds) }, λ fits. whole ∙ ap (is_none {T = ℕ}) fits.tokens)

pub fits_nowhere : (tree : Tree) → (leb (length tree.reserve.items) 1024 && list_all is_entry tree.reserve.items) ≡ false → Fits tree → ⊥
fits_nowhere tree bars fits = both_ways _ bars (and_from _ _ (le-leb _ _ fits.few_entries) fits.entries)
