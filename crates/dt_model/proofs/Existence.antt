-- Bytes without a fault are a blob of a tree.
use Rattle.std.proofs.Common.{◌≡◌, ℕ, zero, suc, ◌+◌, ◌^◌, ◌<◌, ◌≤◌, Bool, true, false, cond, not, ltb, eqb, List, [], ◌∷◌, ◌++◌, map, length, drop, None, Result, Ok, Err, Vec, Global, refl, sym, ap, ◌∙◌, arith, inl, inr}
use Rattle.std.specs.List.{flat_map, list_all}
use Rattle.std.proofs.lemmas.List.{map-append, nil_from_length}
use Rattle.std.proofs.lemmas.List.Concat.{flat_map-append}
use Rattle.std.proofs.lemmas.Bool.{lt-ltb, ltb-true, ltb-false, not-false, eqb-true, cases_Bool, and_from, and_parts, or_parts}
use Rattle.dt_model.specs.declared.tree.Node.{Node}
use Rattle.dt_model.specs.declared.tree.Node.TheOpen.{Node-F}
use Rattle.dt_model.specs.declared.tree.Node.TheViews.{roll-Node, out-Node}
use Rattle.dt_model.specs.declared.tree.Property.{Property}
use Rattle.dt_model.specs.declared.tree.Reserve.{Reserve}
use Rattle.dt_model.specs.declared.tree.Tree.{Tree}
use Rattle.dt_model.specs.Token.{Token, BeginNode, Prop, EndNode, Nop, Finish, onto, without_nops}
use Rattle.dt_model.specs.Node.{property_token, node_tokens, name_of}
use Rattle.dt_model.specs.Rule.{node_count, property_count, depth, children_back, is_none_of, broken_by_begin, broken_by_property, broken_by_end, broken_by_finish, first_broken}
use Rattle.dt_model.proofs.Rules.{or_else-is_none, cond-is_none, node_tokens-out, onto-append, behind, leaves, properties-depth, properties-children, children-depth, none_or_some, inside}
use Rattle.dt_model.proofs.Bridge.{count_rises}
use Rattle.dt_model.specs.Fit.{is_entry}
use Rattle.dt_model.specs.Header.{header_of, header_fault, reserve_part, structure_part, strings_part}
use Rattle.dt_model.specs.Reserve.{entry_of, last_entry, IsReserveMap}
use Rattle.dt_model.specs.Fault.{lacks_end, reserve_fault, found_from, found_in, tokens_in, fault_in, token_at, first_fault}
use Rattle.dt_model.specs.Blob.{IsBlobOf}
use Rattle.dt_model.proofs.Found.{are_inner-node, without_nops-inner, same_but_nops}
use Rattle.dt_model.proofs.Blobs.{IsBlobOf-read}
use denote.RawPtr.{null_ptr}

-- ---- vectors

vec_of : {X : Type 0} → Global → (xs : List X) → length xs < 2 ^ 63 → Vec X Global
vec_of heap xs few = record { ptr = null_ptr; len = length xs; cap = length xs; alloc = heap; items = xs; ok = (refl, omega arith); small = few }

items-vec_of : {X : Type 0} (heap : Global) (xs : List X) (few : length xs < 2 ^ 63) → (vec_of heap xs few).items ≡ xs
unfolding vec_of
items-vec_of heap xs few = refl

-- ---- nodes whose end is yet to come

record OpenNode : Type 0 where
  name : List ℕ
  props : List Property
  children : List Node

abbrev behind_node : List Token → OpenNode → List Token
behind_node before node = onto (flat_map node_tokens node.children) (onto (map property_token node.props) (BeginNode node.name ∷ before))

-- the innermost first
abbrev behind_stack : List OpenNode → List Token
behind_stack [] = []
behind_stack (node ∷ outer) = behind_node (behind_stack outer) node

depth-stack : (stack : List OpenNode) → depth (behind_stack stack) ≡ length stack
depth-stack [] = refl
depth-stack (node ∷ outer) =
    let place = onto (map property_token node.props) (BeginNode node.name ∷ behind_stack outer) in
    omega (arith, children-depth node.children place, properties-depth node.props (BeginNode node.name ∷ behind_stack outer), depth-stack outer)

-- what tokens can have left behind
data State (before : List Token) : Type 0 where
  nothing : before ≡ [] → State before
  within : (node : OpenNode) → (outer : List OpenNode) → behind_stack (node ∷ outer) ≡ before → State before
  closed : (root : Node) → onto (node_tokens root) [] ≡ before → State before

-- ---- few nodes and properties

one_counted : (node : Node) (before : List Token) → node_count before + 1 ≤ node_count (onto (node_tokens node) before)
one_counted node before = rw (node_tokens-out node) (count_rises (inside (out-Node node)) (BeginNode (name_of node) ∷ before))

children_counted : (nodes : List Node) (before : List Token) → node_count before + length nodes ≤ node_count (onto (flat_map node_tokens nodes) before)
children_counted [] before = omega arith
children_counted (node ∷ others) before =
    rw (onto-append (node_tokens node) (flat_map node_tokens others) before) (omega (arith, one_counted node before, children_counted others (onto (node_tokens node) before)))

properties_counted : (ps : List Property) (before : List Token) → property_count before + length ps ≤ property_count (onto (map property_token ps) before)
properties_counted [] before = omega arith
properties_counted (p ∷ ps) before = omega (arith, properties_counted ps (property_token p ∷ before))

properties_rise : (tokens before : List Token) → property_count before ≤ property_count (onto tokens before)
properties_rise [] before = omega arith
properties_rise (BeginNode n ∷ tokens) before = properties_rise tokens (BeginNode n ∷ before)
properties_rise (Prop n v ∷ tokens) before = omega (arith, properties_rise tokens (Prop n v ∷ before))
properties_rise (EndNode ∷ tokens) before = properties_rise tokens (EndNode ∷ before)
properties_rise (Nop ∷ tokens) before = properties_rise tokens before
properties_rise (Finish ∷ tokens) before = properties_rise tokens (Finish ∷ before)

record IsFew (before : List Token) : Type 0 where
  nodes : node_count before ≤ 65536
  properties : property_count before ≤ 65536

few_children : (node : OpenNode) (before t : List Token) → behind_node before node ≡ t → IsFew t → length node.children < 2 ^ 63
few_children node before t is few =
    let place = onto (map property_token node.props) (BeginNode node.name ∷ before) in
    omega (arith, children_counted node.children place, ap node_count is, few.nodes)

few_props : (node : OpenNode) (before t : List Token) → behind_node before node ≡ t → IsFew t → length node.props < 2 ^ 63
few_props node before t is few =
    let place = onto (map property_token node.props) (BeginNode node.name ∷ before) in
    omega (arith, properties_counted node.props (BeginNode node.name ∷ before), properties_rise (flat_map node_tokens node.children) place, ap property_count is, few.properties)

-- ---- what a token that breaks nothing says of its place

begun_inside : (b inside named : Bool) → cond b (not inside) named ≡ false → b ≡ true → inside ≡ true
begun_inside true inside named e is = not-false inside e
begun_inside false inside named e is = absurd cc

record BeginNeeds (before : List Token) : Type 0 where
  inside : 0 < node_count before → 0 < depth before
  few : node_count before ≤ 65535

begin_needs : (before : List Token) (name : List ℕ) → broken_by_begin before name ≡ None → BeginNeeds before
unfolding broken_by_begin
begin_needs before name e =
    let a = cond-is_none _ 9 _ e in
    let b = cond-is_none _ 10 _ a.1 in
    let c = cond-is_none _ 11 _ b.1 in
    let d = cond-is_none _ 13 _ c.1 in
    record {
      inside = λ begun. ltb-true 0 (depth before) (begun_inside (ltb 0 (node_count before)) (ltb 0 (depth before)) (ltb 0 (length name)) c.0 (lt-ltb 0 (node_count before) begun));
      few = ltb-false 65535 (node_count before) d.0;
    }

record PropertyNeeds (before : List Token) : Type 0 where
  inside : 0 < depth before
  childless : is_none_of (children_back 0 before) ≡ true
  few : property_count before ≤ 65535

property_needs : (before : List Token) (name : List ℕ) → broken_by_property before name ≡ None → PropertyNeeds before
unfolding broken_by_property
property_needs before name e =
    let a = cond-is_none _ 9 _ e in
    let b = cond-is_none _ 11 _ a.1 in
    let c = cond-is_none _ 12 _ b.1 in
    let d = cond-is_none _ 13 _ c.1 in
    record {
      inside = ltb-true 0 (depth before) (not-false _ b.0);
      childless = not-false _ c.0;
      few = ltb-false 65535 (property_count before) d.0;
    }

end_needs : (before : List Token) → broken_by_end before ≡ None → 0 < depth before
unfolding broken_by_end
end_needs before e =
    elim (cases_Bool (ltb 0 (depth before))) [
      | inl open_here ↦ ltb-true 0 (depth before) open_here
      | inr none ↦ absurd (let odd = rw none at e in cc)
    ]

record FinishNeeds (before : List Token) : Type 0 where
  begun : 0 < node_count before
  outside : depth before ≤ 0

finish_needs : (before : List Token) → broken_by_finish before ≡ None → FinishNeeds before
unfolding broken_by_finish
finish_needs before e =
    let a = cond-is_none _ 11 _ e in
    let b = cond-is_none _ 12 _ a.1 in
    record { begun = ltb-true 0 (node_count before) (not-false _ a.0); outside = ltb-false 0 (depth before) b.0 }

-- ---- the state after a token

inside_depth : (before : List Token) (node : OpenNode) (outer : List OpenNode) → behind_stack (node ∷ outer) ≡ before → 0 < depth before
inside_depth before node outer is = omega (arith, depth-stack (node ∷ outer), ap depth is)

closed_depth : (before : List Token) (root : Node) → onto (node_tokens root) [] ≡ before → depth before ≡ 0
closed_depth before root is = ap depth (sym is) ∙ (leaves root []).depth_same

closed_begun : (before : List Token) (root : Node) → onto (node_tokens root) [] ≡ before → 0 < node_count before
closed_begun before root is = omega (arith, one_counted root [], ap node_count is)

after_begin : (before : List Token) (name : List ℕ) → broken_by_begin before name ≡ None → State before → State (BeginNode name ∷ before)
after_begin before name e (nothing is) = within (record { name = name; props = []; children = [] }) [] (ap (λ (t : List Token). BeginNode name ∷ t) (sym is))
after_begin before name e (within node outer is) = within (record { name = name; props = []; children = [] }) (node ∷ outer) (ap (λ (t : List Token). BeginNode name ∷ t) is)
after_begin before name e (closed root is) = absurd (omega (arith, (begin_needs before name e).inside (closed_begun before root is), closed_depth before root is))

after_property : (before : List Token) (name value : List ℕ) → broken_by_property before name ≡ None → State before → State (Prop name value ∷ before)
after_property before name value e (nothing is) = absurd (omega (arith, (property_needs before name e).inside, ap depth is))
after_property before name value e (within node outer is) =
    let place = onto (map property_token node.props) (BeginNode node.name ∷ behind_stack outer) in
    let none = sym (none_or_some node.children place (properties-children node.props (BeginNode node.name ∷ behind_stack outer) 0)) ∙ ap (λ (t : List Token). is_none_of (children_back 0 t)) is ∙ (property_needs before name e).childless in
    let childless : node.children ≡ [] = nil_from_length node.children (eqb-true _ _ none) in
    let plain : place ≡ before = ap (λ (cs : List Node). onto (flat_map node_tokens cs) place) (sym childless) ∙ is in
    let longer : onto (map property_token (node.props ++ record { name = name; value = value } ∷ [])) (BeginNode node.name ∷ behind_stack outer) ≡ Prop name value ∷ place
    = ap (λ (ts : List Token). onto ts (BeginNode node.name ∷ behind_stack outer)) (map-append property_token node.props (record { name = name; value = value } ∷ []))
    ∙ onto-append (map property_token node.props) (Prop name value ∷ []) (BeginNode node.name ∷ behind_stack outer) in
    within (record { name = node.name; props = node.props ++ record { name = name; value = value } ∷ []; children = [] }) outer (longer ∙ ap (λ (t : List Token). Prop name value ∷ t) plain)
after_property before name value e (closed root is) = absurd (omega (arith, (property_needs before name e).inside, closed_depth before root is))

layer : Global → (node : OpenNode) → length node.props < 2 ^ 63 → length node.children < 2 ^ 63 → Node-F Node
layer heap node props children = record { name = node.name; props = vec_of heap node.props props; children = vec_of heap node.children children }

ends_layer : (heap : Global) (node : OpenNode) (props : length node.props < 2 ^ 63) (children : length node.children < 2 ^ 63) (before : List Token)
    → onto (node_tokens (roll-Node (layer heap node props children))) before ≡ EndNode ∷ behind_node before node
unfolding layer vec_of
ends_layer heap node props children before = behind (layer heap node props children) before

after_end : Global → (before : List Token) → IsFew before → broken_by_end before ≡ None → State before → State (EndNode ∷ before)
after_end heap before few e (nothing is) = absurd (omega (arith, end_needs before e, ap depth is))
after_end heap before few e (within node [] is) =
    let props = few_props node [] before is few in
    let children = few_children node [] before is few in
    closed (roll-Node (layer heap node props children)) (ends_layer heap node props children [] ∙ ap (λ (t : List Token). EndNode ∷ t) is)
after_end heap before few e (within node (parent ∷ outer) is) =
    let props = few_props node (behind_stack (parent ∷ outer)) before is few in
    let children = few_children node (behind_stack (parent ∷ outer)) before is few in
    let child = roll-Node (layer heap node props children) in
    let place = onto (map property_token parent.props) (BeginNode parent.name ∷ behind_stack outer) in
    let split : flat_map node_tokens (parent.children ++ child ∷ []) ≡ flat_map node_tokens parent.children ++ (node_tokens child ++ []) = flat_map-append node_tokens parent.children (child ∷ []) in
    let grown : onto (flat_map node_tokens (parent.children ++ child ∷ [])) place ≡ EndNode ∷ behind_node (behind_stack (parent ∷ outer)) node
    = ap (λ (ts : List Token). onto ts place) split
    ∙ onto-append (flat_map node_tokens parent.children) (node_tokens child ++ []) place
    ∙ onto-append (node_tokens child) [] (behind_stack (parent ∷ outer))
    ∙ ends_layer heap node props children (behind_stack (parent ∷ outer)) in
    within (record { name = parent.name; props = parent.props; children = parent.children ++ child ∷ [] }) outer (grown ∙ ap (λ (t : List Token). EndNode ∷ t) is)
after_end heap before few e (closed root is) = absurd (omega (arith, end_needs before e, closed_depth before root is))

-- ---- all tokens

-- END comes last, and nowhere else
abbrev Ends : List Token → Type 0
Ends [] = ⊥
Ends (Finish ∷ tokens) = tokens ≡ []
Ends (token ∷ tokens) = Ends tokens

from_token : (most : ℕ) (strings : List ℕ) (r : Result (Token × List ℕ) ℕ) → ((rest : List ℕ) → (found_in most strings rest).stop ≡ None → Ends (found_in most strings rest).tokens)
    → (found_from r (found_in most strings)).stop ≡ None → Ends (found_from r (found_in most strings)).tokens
from_token most strings (Err rule) others none = absurd cc
from_token most strings (Ok (Finish, rest)) others none = refl
from_token most strings (Ok (BeginNode n, rest)) others none = others rest none
from_token most strings (Ok (Prop n v, rest)) others none = others rest none
from_token most strings (Ok (EndNode, rest)) others none = others rest none
from_token most strings (Ok (Nop, rest)) others none = others rest none

found_in-ends : (most : ℕ) (strings bytes : List ℕ) → (found_in most strings bytes).stop ≡ None → Ends (found_in most strings bytes).tokens
found_in-ends zero strings bytes none = absurd cc
found_in-ends (suc most) strings bytes none = from_token most strings (token_at strings bytes) (found_in-ends most strings) none

at_finish : (before : List Token) → broken_by_finish before ≡ None → State before → (root : Node) × (Finish ∷ before ≡ Finish ∷ onto (node_tokens root) [])
at_finish before e (nothing is) = absurd (omega (arith, (finish_needs before e).begun, ap node_count is))
at_finish before e (within node outer is) = absurd (omega (arith, (finish_needs before e).outside, inside_depth before node outer is))
at_finish before e (closed root is) = (root, ap (λ (t : List Token). Finish ∷ t) (sym is))

tree_of_tokens : (heap : Global) (tokens before : List Token) → IsFew before → State before → first_broken before tokens ≡ None → Ends tokens → (root : Node) × (onto tokens before ≡ Finish ∷ onto (node_tokens root) [])
tree_of_tokens heap [] before few state e ends = absurd ends
tree_of_tokens heap (BeginNode n ∷ tokens) before few state e ends =
    let parts = or_else-is_none (broken_by_begin before n) (first_broken (BeginNode n ∷ before) tokens) e in
    let more : IsFew (BeginNode n ∷ before) = record { nodes = omega (arith, (begin_needs before n parts.0).few); properties = few.properties } in
    tree_of_tokens heap tokens (BeginNode n ∷ before) more (after_begin before n parts.0 state) parts.1 ends
tree_of_tokens heap (Prop n v ∷ tokens) before few state e ends =
    let parts = or_else-is_none (broken_by_property before n) (first_broken (Prop n v ∷ before) tokens) e in
    let more : IsFew (Prop n v ∷ before) = record { nodes = few.nodes; properties = omega (arith, (property_needs before n parts.0).few) } in
    tree_of_tokens heap tokens (Prop n v ∷ before) more (after_property before n v parts.0 state) parts.1 ends
tree_of_tokens heap (EndNode ∷ tokens) before few state e ends =
    let parts = or_else-is_none (broken_by_end before) (first_broken (EndNode ∷ before) tokens) e in
    tree_of_tokens heap tokens (EndNode ∷ before) (record { nodes = few.nodes; properties = few.properties }) (after_end heap before few parts.0 state) parts.1 ends
tree_of_tokens heap (Nop ∷ tokens) before few state e ends = tree_of_tokens heap tokens before few state e ends
tree_of_tokens heap (Finish ∷ tokens) before few state e ends =
    let parts = or_else-is_none (broken_by_finish before) (first_broken (Finish ∷ before) tokens) e in
    let last = at_finish before parts.0 state in
    (last.0, ap (λ (ts : List Token). onto ts (Finish ∷ before)) ends ∙ last.1)

-- ---- the reserve map

record HasMap (most : ℕ) (bytes : List ℕ) : Type 0 where
  entries : List Reserve
  few : length entries ≤ most
  all : list_all is_entry entries ≡ true
  spelled : IsReserveMap bytes entries

pub last_of : (entry : Reserve) → is_entry entry ≡ false → entry ≡ last_entry
last_of entry e =
    let both = and_parts (eqb entry.address 0) (eqb entry.size 0) (not-false _ e) in
    let address = eqb-true _ _ both.0 in
    let size = eqb-true _ _ both.1 in
    λ i. record { address = address i; size = size i }

no_entries : (most : ℕ) (bytes : List ℕ) → 16 ≤ length bytes → is_entry (entry_of bytes) ≡ false → HasMap most bytes
no_entries most bytes long e = record { entries = []; few = omega arith; all = refl; spelled = (long, last_of (entry_of bytes) e) }

has_map : (most : ℕ) (bytes : List ℕ) → lacks_end most bytes ≡ false → HasMap most bytes
has_map zero bytes e =
    let both = or_parts (ltb (length bytes) 16) (is_entry (entry_of bytes)) e in
    no_entries 0 bytes (ltb-false (length bytes) 16 both.0) both.1
has_map (suc most) bytes e =
    elim (cases_Bool (ltb (length bytes) 16)) [
      | inl short ↦ absurd (let odd = rw short at e in cc)
      | inr long ↦
          let rest = rw long at e in
          elim (cases_Bool (is_entry (entry_of bytes))) [
            | inl real ↦
                let others = has_map most (drop 16 bytes) (rw real at rest) in
                record {
                  entries = entry_of bytes ∷ others.entries;
                  few = omega (arith, others.few);
                  all = and_from (is_entry (entry_of bytes)) (list_all is_entry others.entries) real others.all;
                  spelled = (ltb-false (length bytes) 16 long, refl, others.spelled);
                }
            | inr last ↦ no_entries (suc most) bytes (ltb-false (length bytes) 16 long) last
          ]
    ]

map_of : (bytes : List ℕ) → reserve_fault bytes ≡ None → HasMap 1024 bytes
unfolding reserve_fault
map_of bytes e = has_map 1024 bytes (cond-is_none _ 6 _ e).0

-- ---- the whole blob

pub a_tree : (heap : Global) (bytes : List ℕ) → first_fault bytes ≡ None → (tree : Tree) × IsBlobOf bytes tree
unfolding first_fault vec_of
a_tree heap bytes e =
    let found = tokens_in (strings_part bytes) (structure_part bytes) in
    let first = or_else-is_none (header_fault bytes) _ e in
    let second = or_else-is_none (reserve_fault (reserve_part bytes)) (fault_in [] found) first.1 in
    let kept = or_else-is_none (first_broken [] found.tokens) found.stop second.1 in
    let map = map_of (reserve_part bytes) second.0 in
    let ends = found_in-ends (length (structure_part bytes)) (strings_part bytes) (structure_part bytes) kept.1 in
    let root = tree_of_tokens heap found.tokens [] (record { nodes = omega arith; properties = omega arith }) (nothing refl) kept.0 ends in
    let same : without_nops found.tokens ≡ node_tokens root.0 ++ Finish ∷ []
    = same_but_nops found.tokens (node_tokens root.0 ++ Finish ∷ []) (root.1 ∙ sym (onto-append (node_tokens root.0) (Finish ∷ []) [])) ∙ without_nops-inner (node_tokens root.0) (are_inner-node root.0) in
    let tree : Tree = record { reserve = vec_of heap map.entries (omega (arith, map.few)); boot_cpu = (header_of bytes).boot_cpu; root = root.0 } in
    (tree, IsBlobOf-read bytes tree first.0 refl map.spelled map.few map.all second.1 same)
