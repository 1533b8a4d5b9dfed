-- Where the first element is that passes a test.
use Rattle.std.proofs.Common.{◌≡◌, ℕ, Bool, true, false, List, length, find, position, unwrap_or, Some, None, nat_lt, cond, sym, ◌∙◌, refl, arith}
use Rattle.std.specs.List.{slice_get, position_or_len}
use Rattle.std.proofs.lemmas.List.Folds.{find_at}
use Rattle.std.proofs.lemmas.Option.{slice_get_past}
use Rattle.std.proofs.lemmas.Bool.{ltb-false}

-- at the place that a search gave, or past the end where it gave none
at_place : {X : Type 0} (xs : List X) (place : ℕ) (b : Bool) → nat_lt place (length xs) ≡ b
    → slice_get xs place ≡ slice_get xs (unwrap_or (cond b (Some place) None) (length xs))
at_place xs place true inside = refl
at_place xs place false past = slice_get_past xs place (ltb-false place (length xs) past) ∙ sym (slice_get_past xs (length xs) (omega arith))

pub find_at_position : {X : Type 0} (p : X → Bool) (xs : List X) → find p xs ≡ slice_get xs (unwrap_or (position p xs) (length xs))
find_at_position p xs = find_at p xs ∙ at_place xs (position_or_len p xs) _ refl
