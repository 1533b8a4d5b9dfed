-- The partition of a name, by its number.
use Rattle.std.proofs.Common.{◌≡◌, ℕ, ◌<◌, Bool, List, [], ◌∷◌, length, Option, None, Some, ap, ◌∙◌, arith}
use Rattle.std.specs.Prelude.{find, position, slice_get, slice_index_or, unwrap_or}
use Rattle.std.proofs.lemmas.Option.{slice_get-get_or, slice_get_past}
use Rattle.std.proofs.lemmas.List.Quantifiers.{position-Some}
use Rattle.outside.proofs.Places.{find_at_position}

pub found_at : {X : Type 0} (p : X → Bool) (xs : List X) (i : ℕ) (d : X) → position p xs ≡ Some i → i < length xs → find p xs ≡ Some (slice_index_or xs i d)
found_at p xs i d e few = find_at_position p xs ∙ ap (λ (o : Option ℕ). slice_get xs (unwrap_or o (length xs))) e ∙ slice_get-get_or xs i d few

pub found_nowhere : {X : Type 0} (p : X → Bool) (xs : List X) → position p xs ≡ None → find p xs ≡ None
found_nowhere p xs e =
    find_at_position p xs ∙ ap (λ (o : Option ℕ). slice_get xs (unwrap_or o (length xs))) e ∙ slice_get_past xs (length xs) (omega arith)

-- a list with a place has an element
pub element : {X : Type 0} (xs : List X) (i : ℕ) → i < length xs → X
element [] i few = absurd (omega (arith, few))
element (x ∷ xs) i few = x

pub within : {X : Type 0} (p : X → Bool) (xs : List X) (i : ℕ) → position p xs ≡ Some i → i < length xs
within p [] i e = absurd cc
within p (x ∷ xs) i e = (position-Some p (x ∷ xs) i x e).0
