-- The best of the numbers below a bound: of those that are eligible the one of the highest priority, then the lowest.
use Rattle.std.proofs.Common.{◌≡◌, ◌≢◌, ℕ, ◌+◌, ◌<◌, ◌≤◌, ◌==◌, Bool, true, false, not, ◌&&◌, ◌||◌, cond, nat_lt, Option, Some, None, refl, ap, sym, ◌∙◌, ◌⊎◌, inl, inr, arith}
use Rattle.std.specs.List.{range_with_len, list_all}
use Rattle.std.proofs.lemmas.Bool.{ltb-true, ltb-false}
use Rattle.std.proofs.lemmas.Bool.Decides.{nat_tests}

-- another eligible number isn't before the best: not above it in priority, and not below it in number where both are equal
pub record IsNotBefore (priority : ℕ → ℕ) (m best : ℕ) : Type 0 where
  pub above : priority m ≤ priority best
  pub first : priority m ≡ priority best → best ≤ m

pub record IsBestOne (eligible : ℕ → Bool) (priority : ℕ → ℕ) (bound best : ℕ) : Type 0 where
  pub number : best < bound
  pub eligible_self : eligible best ≡ true
  pub others : (m : ℕ) → m < bound → eligible m ≡ true → IsNotBefore priority m best

unfoldable pub IsBest : (ℕ → Bool) → (ℕ → ℕ) → ℕ → Option ℕ → Type 0
IsBest eligible priority bound None = (m : ℕ) → m < bound → eligible m ≡ false
IsBest eligible priority bound (Some best) = IsBestOne eligible priority bound best

unfoldable pub goes_before : (ℕ → ℕ) → Option ℕ → ℕ → Bool
goes_before priority None n = true
goes_before priority (Some best) n = nat_lt (priority best) (priority n)

-- ---- one more number

last_or_before : (m k : ℕ) → m < k + 1 → (m < k) ⊎ (m ≡ k)
last_or_before m k h = grind arith

clash : {A : Type 0} (b : Bool) → b ≡ true → b ≡ false → A
clash b e f = let no : true ≡ false = sym e ∙ f in absurd cc

none_more : (eligible : ℕ → Bool) (priority : ℕ → ℕ) (k : ℕ) → IsBest eligible priority k None → eligible k ≡ false → IsBest eligible priority (k + 1) None
unfolding IsBest
none_more eligible priority k h e m small =
    elim (last_or_before m k small) [
      | inl before ↦ h m before
      | inr here ↦ ap eligible here ∙ e
    ]

first_more : (eligible : ℕ → Bool) (priority : ℕ → ℕ) (k : ℕ) → IsBest eligible priority k None → eligible k ≡ true → IsBest eligible priority (k + 1) (Some k)
unfolding IsBest
first_more eligible priority k h e = record {
  number = omega arith;
  eligible_self = e;
  others = λ m small f.
      elim (last_or_before m k small) [
        | inl before ↦ clash (eligible m) f (h m before)
        | inr here ↦ record { above = omega (arith, ap priority here); first = λ _. omega (arith, here) }
      ];
}

kept_more : (eligible : ℕ → Bool) (priority : ℕ → ℕ) (k best : ℕ) → IsBestOne eligible priority k best → (eligible k ≡ true → priority k ≤ priority best)
    → IsBestOne eligible priority (k + 1) best
kept_more eligible priority k best h low = record {
  number = omega (arith, h.number);
  eligible_self = h.eligible_self;
  others = λ m small f.
      elim (last_or_before m k small) [
        | inl before ↦ h.others m before f
        | inr here ↦ record { above = omega (arith, ap priority here, low (sym (ap eligible here) ∙ f)); first = λ _. omega (arith, here, h.number) }
      ];
}

higher_more : (eligible : ℕ → Bool) (priority : ℕ → ℕ) (k best : ℕ) → IsBestOne eligible priority k best → eligible k ≡ true → priority best < priority k
    → IsBestOne eligible priority (k + 1) k
higher_more eligible priority k best h e high = record {
  number = omega arith;
  eligible_self = e;
  others = λ m small f.
      elim (last_or_before m k small) [
        | inl before ↦ let other = h.others m before f in record { above = omega (arith, high, other.above); first = λ same. absurd (omega (arith, high, other.above, same)) }
        | inr here ↦ record { above = omega (arith, ap priority here); first = λ _. omega (arith, here) }
      ];
}

by_tests : (eligible : ℕ → Bool) (priority : ℕ → ℕ) (k : ℕ) (best : Option ℕ) (e b : Bool) → eligible k ≡ e → goes_before priority best k ≡ b → IsBest eligible priority k best
    → IsBest eligible priority (k + 1) (cond (e && b) (Some k) best)
unfolding IsBest goes_before
by_tests eligible priority k None true true e f h = first_more eligible priority k h e
by_tests eligible priority k None true false e f h = absurd cc
by_tests eligible priority k None false b e f h = none_more eligible priority k h e
by_tests eligible priority k (Some best) true true e f h = higher_more eligible priority k best h e (ltb-true (priority best) (priority k) f)
by_tests eligible priority k (Some best) true false e f h = kept_more eligible priority k best h (λ _. ltb-false (priority best) (priority k) f)
by_tests eligible priority k (Some best) false b e f h = kept_more eligible priority k best h (λ g. clash (eligible k) g e)

pub best_more : (eligible : ℕ → Bool) (priority : ℕ → ℕ) (k : ℕ) (best : Option ℕ) → IsBest eligible priority k best
    → IsBest eligible priority (k + 1) (cond (eligible k && goes_before priority best k) (Some k) best)
best_more eligible priority k best h = by_tests eligible priority k best (eligible k) (goes_before priority best k) refl refl h

-- ---- all numbers

unfoldable pub before : (ℕ → ℕ) → ℕ → ℕ → Bool
before priority m n = nat_lt (priority n) (priority m) || ((priority m == priority n) && nat_lt m n)

unfoldable pub is_first : (ℕ → Bool) → (ℕ → ℕ) → ℕ → ℕ → Bool
is_first eligible priority count n = eligible n && list_all (λ m. not (eligible m && before priority m n)) (range_with_len 0 count)

pub not_before : (priority : ℕ → ℕ) (m best : ℕ) → IsNotBefore priority m best → before priority m best ≡ false
unfolding before
not_before priority m best h = let above = h.above in let first = h.first in grind (arith, nat_tests)

pub comes_before : (priority : ℕ → ℕ) (m best : ℕ) → IsNotBefore priority m best → m ≢ best → before priority best m ≡ true
unfolding before
comes_before priority m best h other = let above = h.above in let first = h.first in grind (arith, nat_tests)
