-- Lists in which none meets an earlier one.
use Rattle.std.proofs.Common.{◌≡◌, ℕ, zero, suc, ◌<◌, Bool, true, false, ◌&&◌, ◌||◌, not, List, [], ◌∷◌, ◌++◌, Some, refl, sym, subst, ◌∙◌, ◌⊎◌, ⊎_elim, arith}
use Rattle.std.specs.List.{list_any, slice_get}
use Rattle.std.proofs.lemmas.Bool.{false≢true, cases_order}
use Rattle.std.proofs.lemmas.List.Folds.{list_any-append}
use Rattle.machine_desc.specs.Ranges.{none_meets}

first_part : (a b : Bool) → (not a && b) ≡ true → a ≡ false
first_part true b h = absurd cc
first_part false b h = refl

second_part : (a b : Bool) → (not a && b) ≡ true → b ≡ true
second_part true b h = absurd cc
second_part false b h = h

not_former : (a b : Bool) → (a || b) ≡ false → a ≡ false
not_former true b h = absurd cc
not_former false b h = refl

not_latter : (a b : Bool) → (a || (b || false)) ≡ false → b ≡ false
not_latter true b h = absurd cc
not_latter false true h = absurd cc
not_latter false false h = refl

-- an element meets none of those that stand before the list
meets_none_before : {X : Type 0} (meets : X → X → Bool) (earlier xs : List X) (j : ℕ) (y : X) → none_meets meets earlier xs ≡ true → slice_get xs j ≡ Some y
    → list_any (meets y) earlier ≡ false
meets_none_before meets earlier [] j y h e = absurd cc
meets_none_before meets earlier (x ∷ xs) zero y h e =
    let same : x ≡ y = cc in
    subst (λ z. list_any (meets z) earlier ≡ false) same (first_part _ _ h)
meets_none_before meets earlier (x ∷ xs) (suc j) y h e =
    let all : list_any (meets y) (earlier ++ x ∷ []) ≡ false = meets_none_before meets (earlier ++ x ∷ []) xs j y (second_part _ _ h) e in
    not_former _ _ (sym (list_any-append (meets y) earlier (x ∷ [])) ∙ all)

-- an element meets none that stands at an earlier place
pub earlier_apart : {X : Type 0} (meets : X → X → Bool) (earlier xs : List X) (i j : ℕ) (x y : X) → none_meets meets earlier xs ≡ true
    → slice_get xs i ≡ Some x → slice_get xs j ≡ Some y → i < j → meets y x ≡ false
earlier_apart meets earlier [] i j x y h at there below = absurd cc
earlier_apart meets earlier (z ∷ xs) i zero x y h at there below = absurd (omega arith)
earlier_apart meets earlier (z ∷ xs) zero (suc j) x y h at there below =
    let same : z ≡ x = cc in
    let all : list_any (meets y) (earlier ++ z ∷ []) ≡ false = meets_none_before meets (earlier ++ z ∷ []) xs j y (second_part _ _ h) there in
    subst (λ w. meets y w ≡ false) same (not_latter _ _ (sym (list_any-append (meets y) earlier (z ∷ [])) ∙ all))
earlier_apart meets earlier (z ∷ xs) (suc i) (suc j) x y h at there below =
    earlier_apart meets (earlier ++ z ∷ []) xs i j x y (second_part _ _ h) at there (omega arith)

-- two elements of which each meets the other stand at one place
pub one_place : {X : Type 0} (meets : X → X → Bool) (xs : List X) (i j : ℕ) (x y : X) → none_meets meets [] xs ≡ true
    → slice_get xs i ≡ Some x → slice_get xs j ≡ Some y → meets x y ≡ true → meets y x ≡ true → i ≡ j
one_place meets xs i j x y h at there one other =
    ⊎_elim (λ (same : i ≡ j). same)
    (
    λ (apart : (i < j) ⊎ (j < i)). ⊎_elim
    (λ (l : i < j). absurd (false≢true (sym (earlier_apart meets [] xs i j x y h at there l) ∙ other)))
    (λ (l : j < i). absurd (false≢true (sym (earlier_apart meets [] xs j i y x h there at l) ∙ one))) apart
    )
    (cases_order i j)
