-- The best of all numbers is the one that is chosen.
use Rattle.std.proofs.Common.{◌≡◌, ℕ, zero, suc, ◌+◌, ◌<◌, Bool, true, false, not, ◌&&◌, cond, nat_lt, length, Option, Some, None, refl, ap, sym, subst, ◌∙◌, arith}
use Rattle.std.specs.List.{range_with_len, list_all, find}
use Rattle.std.proofs.lemmas.Bool.Decides.{nat_tests}
use Rattle.vpic.specs.Controller.{Controller, priority_of}
use Rattle.vpic.specs.Choice.{is_eligible, is_chosen, chosen}
use Rattle.vpic.proofs.Ranges.{all_pass, one_fails, each_passes, none_found, first_found, IsFound, found}
use Rattle.vpic.proofs.Best.{IsNotBefore, IsBestOne, IsBest, goes_before, best_more, before, is_first, not_before, comes_before}

-- ---- numbers that aren't first

not_eligible : (eligible : ℕ → Bool) (priority : ℕ → ℕ) (count n : ℕ) → eligible n ≡ false → is_first eligible priority count n ≡ false
unfolding is_first
not_eligible eligible priority count n e = rw e refl

passed_by : (eligible : ℕ → Bool) (priority : ℕ → ℕ) (best m : ℕ) (e : Bool) → eligible m ≡ e → (eligible m ≡ true → IsNotBefore priority m best)
    → not (e && before priority m best) ≡ true
passed_by eligible priority best m true e h = ap not (not_before priority m best (h e))
passed_by eligible priority best m false e h = refl

is_the_first : (eligible : ℕ → Bool) (priority : ℕ → ℕ) (count best : ℕ) → IsBestOne eligible priority count best → is_first eligible priority count best ≡ true
unfolding is_first
is_the_first eligible priority count best h =
    rw h.eligible_self (all_pass (λ m. not (eligible m && before priority m best)) 0 count (λ m low high. passed_by eligible priority best m (eligible m) refl (h.others m (omega (arith, high)))))

later_by : (eligible : ℕ → Bool) (priority : ℕ → ℕ) (count best m : ℕ) (e : Bool) → eligible m ≡ e → IsBestOne eligible priority count best → m < best
    → is_first eligible priority count m ≡ false
unfolding is_first
later_by eligible priority count best m false e h small = rw e refl
later_by eligible priority count best m true e h small =
    let other = h.others m (omega (arith, small, h.number)) e in
    let first : before priority best m ≡ true = comes_before priority m best other (λ here. absurd (omega (arith, small, here))) in
    let fails : not (eligible best && before priority best m) ≡ false = rw (h.eligible_self, first) refl in
    rw (one_fails (λ k. not (eligible k && before priority k m)) count best h.number fails, e) refl

pub best_found : (eligible : ℕ → Bool) (priority : ℕ → ℕ) (count : ℕ) (best : Option ℕ) → IsBest eligible priority count best
    → find (is_first eligible priority count) (range_with_len 0 count) ≡ best
unfolding IsBest
best_found eligible priority count None h =
    none_found (is_first eligible priority count) 0 count (λ m low high. not_eligible eligible priority count m (h m (omega (arith, high))))
best_found eligible priority count (Some best) h =
    first_found (is_first eligible priority count) count best best 0 (omega arith) h.number (is_the_first eligible priority count best h)
    (λ m low high. later_by eligible priority count best m (eligible m) refl h high)

-- ---- the controller

pub best_chosen : (controller : Controller) (levels : ℕ) (best : Option ℕ) → IsBest (is_eligible controller levels) (priority_of controller) (length controller.sources) best
    → chosen controller levels ≡ best
unfolding chosen is_chosen is_first before
best_chosen controller levels best h = best_found (is_eligible controller levels) (priority_of controller) (length controller.sources) best h

pub best_of : (ℕ → Bool) → (ℕ → ℕ) → ℕ → Option ℕ
best_of eligible priority zero = None
best_of eligible priority (suc k) = cond (eligible k && goes_before priority (best_of eligible priority k) k) (Some k) (best_of eligible priority k)

-- there is a best one of any numbers
pub is_best : (eligible : ℕ → Bool) (priority : ℕ → ℕ) (count : ℕ) → IsBest eligible priority count (best_of eligible priority count)
unfolding IsBest best_of
is_best eligible priority zero = λ m small. absurd (omega (arith, small))
is_best eligible priority (suc k) =
    let next : k + 1 ≡ suc k = omega arith in
    subst (λ n. IsBest eligible priority n (best_of eligible priority (suc k))) next (best_more eligible priority k (best_of eligible priority k) (is_best eligible priority k))

-- ---- the laws

found_first : (eligible : ℕ → Bool) (priority : ℕ → ℕ) (count : ℕ) → find (is_first eligible priority count) (range_with_len 0 count) ≡ best_of eligible priority count
found_first eligible priority count = best_found eligible priority count (best_of eligible priority count) (is_best eligible priority count)

none_best : (eligible : ℕ → Bool) (priority : ℕ → ℕ) (count n : ℕ) → best_of eligible priority count ≡ None → n < count → eligible n ≡ false
unfolding IsBest
none_best eligible priority count n e small =
    let none : IsBest eligible priority count None = subst (IsBest eligible priority count) e (is_best eligible priority count) in
    none n small

pub none_eligible : (controller : Controller) (levels n : ℕ) → chosen controller levels ≡ None → n < length controller.sources → is_eligible controller levels n ≡ false
unfolding chosen is_chosen is_first before
none_eligible controller levels n e small =
    let eligible = is_eligible controller levels in
    let priority = priority_of controller in
    let count = length controller.sources in
    none_best eligible priority count n (sym (found_first eligible priority count) ∙ e) small

pub chosen_passes : (controller : Controller) (levels n : ℕ) → chosen controller levels ≡ Some n → (is_chosen controller levels n ≡ true) × (n < length controller.sources)
unfolding chosen IsFound
chosen_passes controller levels n e = let h = found (is_chosen controller levels) (length controller.sources) 0 n e in (h.0, omega (arith, h.1.1))

pub both_pass : (n k : ℕ) (b : Bool) → n < k → b ≡ true → (nat_lt n k && b) ≡ true
both_pass n k b small e = grind (arith, nat_tests)

two_first : (priority : ℕ → ℕ) (n m : ℕ) → before priority n m ≡ false → before priority m n ≡ false → n ≡ m
unfolding before
two_first priority n m e f = grind (arith, nat_tests)

parts : (a b : Bool) → (a && b) ≡ true → (a ≡ true) × (b ≡ true)
parts true true e = (refl, refl)
parts true false e = absurd cc
parts false b e = absurd cc

negated : (a b : Bool) → a ≡ true → not (a && b) ≡ true → b ≡ false
negated true false e f = refl
negated true true e f = sym f
negated false b e f = absurd cc

one_first : (eligible : ℕ → Bool) (priority : ℕ → ℕ) (count n m : ℕ) → n < count → m < count → is_first eligible priority count n ≡ true → is_first eligible priority count m ≡ true → n ≡ m
unfolding is_first
one_first eligible priority count n m e f h k =
    let of_n = parts (eligible n) (list_all (λ j. not (eligible j && before priority j n)) (range_with_len 0 count)) h in
    let of_m = parts (eligible m) (list_all (λ j. not (eligible j && before priority j m)) (range_with_len 0 count)) k in
    two_first priority n m
    (negated (eligible n) (before priority n m) of_n.0 (each_passes (λ j. not (eligible j && before priority j m)) count n e of_m.1))
    (negated (eligible m) (before priority m n) of_m.0 (each_passes (λ j. not (eligible j && before priority j n)) count m f of_n.1))

pub one_chosen : (controller : Controller) (levels n m : ℕ) → n < length controller.sources → m < length controller.sources
    → is_chosen controller levels n ≡ true → is_chosen controller levels m ≡ true → n ≡ m
unfolding is_chosen is_first before
one_chosen controller levels n m e f h k = one_first (is_eligible controller levels) (priority_of controller) (length controller.sources) n m e f h k
