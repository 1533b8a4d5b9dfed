-- Of names that differ each is there once.
use Rattle.std.proofs.Common.{◌≡◌, ℕ, zero, suc, ◌+◌, Bool, true, false, ◌&&◌, ◌||◌, not, List, [], ◌∷◌, ◌++◌, map, Some, refl, sym, ap, subst, ◌∙◌, arith}
use Rattle.std.specs.Prelude.{count_by, slice_get}
use Rattle.std.specs.List.{list_any, position_from}
use Rattle.std.specs.Str.{bytes_eq}
use Rattle.std.proofs.lemmas.Bool.{and_parts, false_from_ne_true}
use Rattle.std.proofs.lemmas.Slice.Eq.{bytes_eq-Decides}
use Rattle.std.proofs.lemmas.List.Folds.{list_any-append}
use Rattle.dt_model.specs.Name.{has, is_node_name}
use Rattle.dt_model.specs.Kept.{are_apart}
use Rattle.config_rules.proofs.Lists.{count-cons}
use Rattle.config_rules.proofs.Names.{same_name, name-itself}
use Rattle.config_rules.proofs.Numbers.{not_false}

-- the element has the name
abbrev pub is_called : {X : Type 0} → (X → List ℕ) → List ℕ → X → Bool
is_called called name x = bytes_eq (called x) name

pub same-way : (a b : List ℕ) → bytes_eq a b ≡ bytes_eq b a
same-way a b =
    elim (bytes_eq a b) as (λ c. bytes_eq a b ≡ c → c ≡ bytes_eq b a) [
      | true ↦ λ t. let same : a ≡ b = same_name a b t in sym ((bytes_eq-Decides b a).1 (sym same))
      | false ↦ λ t. sym (false_from_ne_true (bytes_eq b a) (λ e. let yes : bytes_eq a b ≡ true = (bytes_eq-Decides a b).1 (sym (same_name b a e)) in absurd cc))
    ] refl

has-more : (earlier : List (List ℕ)) (name other : List ℕ) → has earlier name ≡ true → has (earlier ++ other ∷ []) name ≡ true
has-more earlier name other e = list_any-append (λ x. bytes_eq x name) earlier (other ∷ []) ∙ rw e refl

has-pushed : (earlier : List (List ℕ)) (name other : List ℕ) → bytes_eq other name ≡ true → has (earlier ++ other ∷ []) name ≡ true
has-pushed earlier name other e =
    list_any-append (λ x. bytes_eq x name) earlier (other ∷ [])
    ∙ rw e (elim (list_any (λ x. bytes_eq x name) earlier) as (λ b. (b || (true || false)) ≡ true) [ true ↦ refl | false ↦ refl ])

-- a name that stands before isn't there again
none-again : {X : Type 0} (called : X → List ℕ) (name : List ℕ) (earlier : List (List ℕ)) (xs : List X) → has earlier name ≡ true → are_apart earlier (map called xs) ≡ true
    → count_by (is_called called name) xs ≡ 0
none-again called name earlier [] h e = refl
none-again called name earlier (x ∷ xs) h e =
    let parts = and_parts (is_node_name (called x) && not (has earlier (called x))) (are_apart (earlier ++ called x ∷ []) (map called xs)) e in
    let other : has earlier (called x) ≡ false = not_false (has earlier (called x)) (and_parts (is_node_name (called x)) (not (has earlier (called x))) parts.0).1 in
    let no : is_called called name x ≡ false = false_from_ne_true (bytes_eq (called x) name) (λ t.
    let same : called x ≡ name = same_name (called x) name t in
    let yes : has earlier (called x) ≡ true = rw same h in
    absurd cc) in
    let below : count_by (is_called called name) xs ≡ 0 = none-again called name (earlier ++ called x ∷ []) xs (has-more earlier name (called x) h) parts.1 in
    count-cons (is_called called name) x xs ∙ rw (no, below) refl

called-from : {X : Type 0} (called : X → List ℕ) (name : List ℕ) (earlier : List (List ℕ)) (xs : List X) → are_apart earlier (map called xs) ≡ true
    → list_any (is_called called name) xs ≡ true → count_by (is_called called name) xs ≡ 1
called-from called name earlier [] e any = absurd cc
called-from called name earlier (x ∷ xs) e any =
    let parts = and_parts (is_node_name (called x) && not (has earlier (called x))) (are_apart (earlier ++ called x ∷ []) (map called xs)) e in
    elim (is_called called name x) as (λ b. is_called called name x ≡ b → (b || list_any (is_called called name) xs) ≡ true → count_by (is_called called name) (x ∷ xs) ≡ 1) [
      | true ↦ λ t any.
          let below : count_by (is_called called name) xs ≡ 0 = none-again called name (earlier ++ called x ∷ []) xs (has-pushed earlier name (called x) t) parts.1 in
          count-cons (is_called called name) x xs ∙ rw (t, below) refl
      | false ↦ λ t any.
          let below : count_by (is_called called name) xs ≡ 1 = called-from called name (earlier ++ called x ∷ []) xs parts.1 any in
          count-cons (is_called called name) x xs ∙ rw (t, below) refl
    ] refl any

-- where names differ and one is there, it is there once
pub called-once : {X : Type 0} (called : X → List ℕ) (name : List ℕ) (xs : List X) → are_apart [] (map called xs) ≡ true
    → list_any (is_called called name) xs ≡ true → count_by (is_called called name) xs ≡ 1
called-once called name xs e any = called-from called name [] xs e any

-- ---- numbers

-- an element's name has the element's place
pub number-from : {X : Type 0} (called : X → List ℕ) (earlier : List (List ℕ)) (n i : ℕ) (xs : List X) (x : X) → are_apart earlier (map called xs) ≡ true
    → slice_get xs i ≡ Some x → (position_from (is_called called (called x)) n xs ≡ Some (n + i)) × (has earlier (called x) ≡ false)
number-from called earlier n i [] x e at = absurd cc
number-from {X} called earlier n zero (y ∷ ys) x e at =
    let parts = and_parts (is_node_name (called y) && not (has earlier (called y))) (are_apart (earlier ++ called y ∷ []) (map called ys)) e in
    let same : y ≡ x = cc in
    let here : bytes_eq (called y) (called x) ≡ true = rw same (name-itself (called x)) in
    let place : n ≡ n + 0 = omega arith in
    (rw here (ap (λ (k : ℕ). Some k) place), subst (λ (z : X). has earlier (called z) ≡ false) same (not_false (has earlier (called y)) (and_parts (is_node_name (called y)) (not (has earlier (called y))) parts.0).1))
number-from {X} called earlier n (suc i) (y ∷ ys) x e at =
    let parts = and_parts (is_node_name (called y) && not (has earlier (called y))) (are_apart (earlier ++ called y ∷ []) (map called ys)) e in
    let below = number-from called (earlier ++ called y ∷ []) (n + 1) i ys x parts.1 at in
    let other : bytes_eq (called y) (called x) ≡ false = false_from_ne_true (bytes_eq (called y) (called x)) (λ t.
    let yes : has (earlier ++ called y ∷ []) (called x) ≡ true = has-pushed earlier (called x) (called y) t in
    let no = below.1 in
    absurd cc) in
    let before : has earlier (called x) ≡ false = false_from_ne_true (has earlier (called x)) (λ t.
    let yes : has (earlier ++ called y ∷ []) (called x) ≡ true = has-more earlier (called x) (called y) t in
    let no = below.1 in
    absurd cc) in
    let place : (n + 1) + i ≡ n + suc i = omega arith in
    (rw other (below.0 ∙ ap (λ (k : ℕ). Some k) place), before)
