-- Checking tokens with what is open at hand: names only, since of tokens so few no count is too large.
use Rattle.std.proofs.Common.{◌≡◌, ℕ, zero, suc, ◌+◌, ◌<◌, ◌≤◌, Bool, true, false, cond, not, ◌&&◌, ltb, List, [], ◌∷◌, ◌++◌, length, Option, Some, None, refl, ap, ◌∙◌, arith}
use Rattle.std.specs.Prelude.{option_and_then}
use Rattle.std.proofs.lemmas.Bool.{lt-ltb, le-ltb, ltb-true}
use Rattle.dt_model.specs.Name.{is_node_name, is_property_name, has}
use Rattle.dt_model.specs.Token.{Token, BeginNode, Prop, EndNode, Nop, Finish}
use Rattle.dt_model.specs.Rule.{node_count, property_count, depth, properties_back, children_back, is_none_of, broken_by_begin, broken_by_property, broken_by_end, broken_by_finish, first_broken}

-- the names in an open node
pub record Open : Type 0 where
  pub properties : List (List ℕ)
  pub children : List (List ℕ)

-- it isn't empty
abbrev pub is_some_open : List Open → Bool
is_some_open [] = false
is_some_open (here ∷ outer) = true

abbrev pub empty : Open
empty = record { properties = []; children = [] }

abbrev pub with_child : Open → List ℕ → Open
with_child here name = record { properties = here.properties; children = name ∷ here.children }

abbrev pub with_property : Open → List ℕ → Open
with_property here name = record { properties = name ∷ here.properties; children = here.children }

abbrev pub open_at : List Open → ℕ → Open
open_at [] k = empty
open_at (here ∷ outer) zero = here
open_at (here ∷ outer) (suc k) = open_at outer k

-- What is open after a token, the innermost node first, and behind the root what stands beside it. None where a rule is broken.
abbrev pub pass : List Open → Token → Option (List Open)
pass [] token = None
pass (here ∷ outer) (BeginNode name) =
    cond (is_node_name name && (is_some_open outer && (ltb (length outer) 32 && not (has here.children name))))
    (Some (empty ∷ with_child here name ∷ outer)) None
pass (here ∷ outer) (Prop name value) =
    cond (is_property_name name && (is_some_open outer && (is_none_of here.children && not (has here.properties name))))
    (Some (with_property here name ∷ outer)) None
pass (here ∷ outer) EndNode = cond (is_some_open outer) (Some outer) None
pass (here ∷ outer) Nop = None
pass (here ∷ outer) Finish = cond (not (is_some_open outer)) (Some (here ∷ outer)) None

abbrev pub passes : List Open → List Token → Option (List Open)
passes opened [] = Some opened
passes opened (token ∷ tokens) = option_and_then (λ (next : List Open). passes next tokens) (pass opened token)

-- ---- what is open, and the tokens before a place

pub record Holds (opened : List Open) (before : List Token) : Type 0 where
  pub deep : depth before + 1 ≡ length opened
  pub properties : (k : ℕ) → properties_back k before ≡ (open_at opened k).properties
  pub children : (k : ℕ) → children_back k before ≡ (open_at opened k).children

nodes-few : (before : List Token) → node_count before ≤ length before
nodes-few [] = omega arith
nodes-few (BeginNode n ∷ before) = omega (arith, nodes-few before)
nodes-few (Prop n v ∷ before) = omega (arith, nodes-few before)
nodes-few (EndNode ∷ before) = omega (arith, nodes-few before)
nodes-few (Nop ∷ before) = omega (arith, nodes-few before)
nodes-few (Finish ∷ before) = omega (arith, nodes-few before)

properties-few : (before : List Token) → property_count before ≤ length before
properties-few [] = omega arith
properties-few (BeginNode n ∷ before) = omega (arith, properties-few before)
properties-few (Prop n v ∷ before) = omega (arith, properties-few before)
properties-few (EndNode ∷ before) = omega (arith, properties-few before)
properties-few (Nop ∷ before) = omega (arith, properties-few before)
properties-few (Finish ∷ before) = omega (arith, properties-few before)

stepping : (b : Bool) (next : List Open) (tokens : List Token) (after : List Open)
    → option_and_then (λ (opened : List Open). passes opened tokens) (cond b (Some next) None) ≡ Some after → (b ≡ true) × (passes next tokens ≡ Some after)
stepping true next tokens after e = (refl, e)
stepping false next tokens after e = absurd cc

four : (a b c d : Bool) → (a && (b && (c && d))) ≡ true → (a ≡ true) × (b ≡ true) × (c ≡ true) × (d ≡ true)
four true true true true e = (refl, refl, refl, refl)
four true true true false e = absurd cc
four true true false d e = absurd cc
four true false c d e = absurd cc
four false b c d e = absurd cc

some-inside : (outer : List Open) → is_some_open outer ≡ true → 0 < length outer
some-inside [] e = absurd cc
some-inside (here ∷ outer) e = omega arith

none-inside : (outer : List Open) → is_some_open outer ≡ false → length outer ≡ 0
none-inside [] e = refl
none-inside (here ∷ outer) e = absurd cc

not-true : (b : Bool) → not b ≡ true → b ≡ false
not-true false e = refl
not-true true e = absurd cc

-- ---- one token

begin-none : (here : Open) (outer : List Open) (before : List Token) (name : List ℕ) → Holds (here ∷ outer) before → 0 < node_count before → length before ≤ 65535
    → (is_node_name name && (is_some_open outer && (ltb (length outer) 32 && not (has here.children name)))) ≡ true → broken_by_begin before name ≡ None
unfolding broken_by_begin
begin-none here outer before name holds begun few e =
    let parts = four (is_node_name name) (is_some_open outer) (ltb (length outer) 32) (not (has here.children name)) e in
    let deep : depth before ≡ length outer = omega (arith, holds.deep) in
    let inside = some-inside outer parts.1 in
    let low = ltb-true (length outer) 32 parts.2 in
    let child = not-true (has here.children name) parts.3 in
    let names : has (children_back 0 before) name ≡ false = ap (λ (names : List (List ℕ)). has names name) (holds.children 0) ∙ child in
    rw (lt-ltb 0 (node_count before) begun, parts.0, deep, le-ltb 31 (length outer) (omega (arith, low)), lt-ltb 0 (length outer) inside, le-ltb 65535 (node_count before) (omega (arith, few, nodes-few before)), names) refl

begin-holds : (here : Open) (outer : List Open) (before : List Token) (name : List ℕ) → Holds (here ∷ outer) before → Holds (empty ∷ with_child here name ∷ outer) (BeginNode name ∷ before)
begin-holds here outer before name holds = record {
  deep = omega (arith, holds.deep);
  properties = λ k. elim k as (λ k. properties_back k (BeginNode name ∷ before) ≡ (open_at (empty ∷ with_child here name ∷ outer) k).properties) [
    | zero ↦ refl
    | suc j ↦ elim j as (λ j. properties_back j before ≡ (open_at (with_child here name ∷ outer) j).properties) [ zero ↦ holds.properties 0 | suc i ↦ holds.properties (suc i) ]
  ];
  children = λ k. elim k as (λ k. children_back k (BeginNode name ∷ before) ≡ (open_at (empty ∷ with_child here name ∷ outer) k).children) [
    | zero ↦ refl
    | suc j ↦ elim j as (λ j. children_back (suc j) (BeginNode name ∷ before) ≡ (open_at (with_child here name ∷ outer) j).children) [
      | zero ↦ ap (λ (names : List (List ℕ)). name ∷ names) (holds.children 0)
      | suc i ↦ holds.children (suc i)
    ]
  ];
}

property-none : (here : Open) (outer : List Open) (before : List Token) (name : List ℕ) → Holds (here ∷ outer) before → length before ≤ 65535
    → (is_property_name name && (is_some_open outer && (is_none_of here.children && not (has here.properties name)))) ≡ true → broken_by_property before name ≡ None
unfolding broken_by_property
property-none here outer before name holds few e =
    let parts = four (is_property_name name) (is_some_open outer) (is_none_of here.children) (not (has here.properties name)) e in
    let deep : depth before ≡ length outer = omega (arith, holds.deep) in
    let inside = some-inside outer parts.1 in
    let none : is_none_of (children_back 0 before) ≡ true = ap is_none_of (holds.children 0) ∙ parts.2 in
    let names : has (properties_back 0 before) name ≡ false = ap (λ (names : List (List ℕ)). has names name) (holds.properties 0) ∙ not-true (has here.properties name) parts.3 in
    rw (parts.0, deep, lt-ltb 0 (length outer) inside, none, le-ltb 65535 (property_count before) (omega (arith, few, properties-few before)), names) refl

property-holds : (here : Open) (outer : List Open) (before : List Token) (name value : List ℕ) → Holds (here ∷ outer) before → Holds (with_property here name ∷ outer) (Prop name value ∷ before)
property-holds here outer before name value holds = record {
  deep = holds.deep;
  properties = λ k. elim k as (λ k. properties_back k (Prop name value ∷ before) ≡ (open_at (with_property here name ∷ outer) k).properties) [
    | zero ↦ ap (λ (names : List (List ℕ)). name ∷ names) (holds.properties 0)
    | suc j ↦ holds.properties (suc j)
  ];
  children = λ k. elim k as (λ k. children_back k (Prop name value ∷ before) ≡ (open_at (with_property here name ∷ outer) k).children) [
    | zero ↦ holds.children 0
    | suc j ↦ elim j as (λ j. children_back (suc j) (Prop name value ∷ before) ≡ (open_at outer j).children) [ zero ↦ holds.children 1 | suc i ↦ holds.children (suc (suc i)) ]
  ];
}

end-none : (here : Open) (outer : List Open) (before : List Token) → Holds (here ∷ outer) before → is_some_open outer ≡ true → broken_by_end before ≡ None
unfolding broken_by_end
end-none here outer before holds e =
    let deep : depth before ≡ length outer = omega (arith, holds.deep) in
    rw (deep, lt-ltb 0 (length outer) (some-inside outer e)) refl

end-holds : (here : Open) (outer : List Open) (before : List Token) → Holds (here ∷ outer) before → is_some_open outer ≡ true → Holds outer (EndNode ∷ before)
end-holds here outer before holds e =
    let inside = some-inside outer e in
    record {
      deep = omega (arith, holds.deep, inside);
      properties = λ k. holds.properties (suc k);
      children = λ k. elim k as (λ k. children_back k (EndNode ∷ before) ≡ (open_at outer k).children) [ zero ↦ holds.children 1 | suc j ↦ holds.children (suc (suc j)) ];
    }

finish-none : (here : Open) (outer : List Open) (before : List Token) → Holds (here ∷ outer) before → 0 < node_count before → is_some_open outer ≡ false → broken_by_finish before ≡ None
unfolding broken_by_finish
finish-none here outer before holds begun e =
    let deep : depth before ≡ length outer = omega (arith, holds.deep) in
    rw (lt-ltb 0 (node_count before) begun, deep, none-inside outer e) refl

finish-holds : (opened : List Open) (before : List Token) → Holds opened before → Holds opened (Finish ∷ before)
finish-holds opened before holds = record {
  deep = holds.deep;
  properties = λ k. elim k as (λ k. properties_back k (Finish ∷ before) ≡ (open_at opened k).properties) [ zero ↦ holds.properties 0 | suc j ↦ holds.properties (suc j) ];
  children = λ k. elim k as (λ k. children_back k (Finish ∷ before) ≡ (open_at opened k).children) [
    | zero ↦ holds.children 0
    | suc j ↦ elim j as (λ j. children_back (suc j) (Finish ∷ before) ≡ (open_at opened (suc j)).children) [ zero ↦ holds.children 1 | suc i ↦ holds.children (suc (suc i)) ]
  ];
}

-- ---- all tokens

-- tokens that pass behind these break no rule
pub passing : (tokens : List Token) (opened : List Open) (before : List Token) (after : List Open) → Holds opened before → 0 < node_count before → length before + length tokens ≤ 65535
    → passes opened tokens ≡ Some after → first_broken before tokens ≡ None
passing [] opened before after holds begun few e = refl
passing (token ∷ tokens) [] before after holds begun few e = absurd cc
passing (BeginNode name ∷ tokens) (here ∷ outer) before after holds begun few e =
    let may = is_node_name name && (is_some_open outer && (ltb (length outer) 32 && not (has here.children name))) in
    let goes = stepping may (empty ∷ with_child here name ∷ outer) tokens after e in
    rw (begin-none here outer before name holds begun (omega (arith, few)) goes.0)
    (passing tokens (empty ∷ with_child here name ∷ outer) (BeginNode name ∷ before) after (begin-holds here outer before name holds) (omega (arith, begun)) (omega (arith, few)) goes.1)
passing (Prop name value ∷ tokens) (here ∷ outer) before after holds begun few e =
    let may = is_property_name name && (is_some_open outer && (is_none_of here.children && not (has here.properties name))) in
    let goes = stepping may (with_property here name ∷ outer) tokens after e in
    rw (property-none here outer before name holds (omega (arith, few)) goes.0)
    (passing tokens (with_property here name ∷ outer) (Prop name value ∷ before) after (property-holds here outer before name value holds) begun (omega (arith, few)) goes.1)
passing (EndNode ∷ tokens) (here ∷ outer) before after holds begun few e =
    let goes = stepping (is_some_open outer) outer tokens after e in
    rw (end-none here outer before holds goes.0)
    (passing tokens outer (EndNode ∷ before) after (end-holds here outer before holds goes.0) begun (omega (arith, few)) goes.1)
passing (Nop ∷ tokens) (here ∷ outer) before after holds begun few e = absurd cc
passing (Finish ∷ tokens) (here ∷ outer) before after holds begun few e =
    let goes = stepping (not (is_some_open outer)) (here ∷ outer) tokens after e in
    rw (finish-none here outer before holds begun (not-true (is_some_open outer) goes.0))
    (passing tokens (here ∷ outer) (Finish ∷ before) after (finish-holds (here ∷ outer) before holds) begun (omega (arith, few)) goes.1)

-- the root's tokens behind its beginning
pub root-holds : Holds (empty ∷ with_child empty [] ∷ []) (BeginNode [] ∷ [])
root-holds = record {
  deep = refl;
  properties = λ k. elim k as (λ k. properties_back k (BeginNode [] ∷ []) ≡ (open_at (empty ∷ with_child empty [] ∷ []) k).properties) [
    | zero ↦ refl
    | suc j ↦ elim j as (λ j. properties_back j [] ≡ (open_at (with_child empty [] ∷ []) j).properties) [ zero ↦ refl | suc i ↦ refl ]
  ];
  children = λ k. elim k as (λ k. children_back k (BeginNode [] ∷ []) ≡ (open_at (empty ∷ with_child empty [] ∷ []) k).children) [
    | zero ↦ refl
    | suc j ↦ elim j as (λ j. children_back (suc j) (BeginNode [] ∷ []) ≡ (open_at (with_child empty [] ∷ []) j).children) [ zero ↦ refl | suc i ↦ refl ]
  ];
}

-- ---- one behind the other

then_passes : (next : Option (List Open)) (middle after : List Open) (tokens others : List Token)
    → ((opened : List Open) → passes opened tokens ≡ Some middle → passes opened (tokens ++ others) ≡ Some after)
    → option_and_then (λ (o : List Open). passes o tokens) next ≡ Some middle → option_and_then (λ (o : List Open). passes o (tokens ++ others)) next ≡ Some after
then_passes None middle after tokens others go_on e = absurd cc
then_passes (Some next) middle after tokens others go_on e = go_on next e

pub passes-append : (opened middle after : List Open) (tokens others : List Token) → passes opened tokens ≡ Some middle → passes middle others ≡ Some after → passes opened (tokens ++ others) ≡ Some after
passes-append opened middle after [] others e f =
    let same : opened ≡ middle = cc in ap (λ (o : List Open). passes o others) same ∙ f
passes-append opened middle after (token ∷ tokens) others e f =
    then_passes (pass opened token) middle after tokens others (λ next g. passes-append next middle after tokens others g f) e
