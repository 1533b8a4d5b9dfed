-- The search among those that are ready.
use Rattle.std.proofs.Common.{◌≡◌, ℕ, zero, suc, ◌+◌, ◌-◌, ◌^◌, ◌<◌, ◌≤◌, ◌==◌, Bool, true, false, not, ◌&&◌, ◌||◌, cond, max, min, bit_and, bit_or, length, Option, Some, None, refl, ap, sym, subst, ◌∙◌, arith}
use Rattle.std.specs.Int.{w128, bit_at, bit_not}
use Rattle.std.proofs.lemmas.Bool.Decides.{nat_tests}
use Rattle.std.proofs.lemmas.Nat.Bits.{bit_at_or, bit_at_and, bit_at_not, bit_at-lt, bit_at-zero}
use Rattle.vpic.specs.Numbers.{has}
use Rattle.vpic.specs.Controller.{Controller, priority_of}
use Rattle.vpic.specs.Choice.{is_above_all, is_eligible, chosen}
use Rattle.vpic.specs.Search.{ready, is_free, exceeds, better}
use Rattle.vpic.proofs.Best.{IsBest, goes_before, best_more}
use Rattle.vpic.proofs.Chosen.{best_chosen, best_of, is_best}

-- ---- ready is up, not masked and not in service

ready_bit : (controller : Controller) (levels n : ℕ) → controller.in_service < 2 ^ 128 → n < 128
    → bit_at (ready controller levels) n ≡ min (min (max (bit_at levels n) (bit_at controller.latched n)) (bit_at controller.unmasked n)) (1 - bit_at controller.in_service n)
unfolding ready
ready_bit controller levels n fits small =
    rw (
      bit_at_and (bit_and (bit_or levels controller.latched) controller.unmasked) (bit_not w128 controller.in_service) n,
      bit_at_and (bit_or levels controller.latched) controller.unmasked n,
      bit_at_or levels controller.latched n,
      bit_at_not w128 controller.in_service n fits small,
    )

or_bits : (a b : ℕ) → a < 2 → b < 2 → (max a b == 1) ≡ ((a == 1) || (b == 1))
or_bits a b e f = grind (arith, nat_tests)

and_bits : (a b : ℕ) → a < 2 → b < 2 → (min a b == 1) ≡ ((a == 1) && (b == 1))
and_bits a b e f = grind (arith, nat_tests)

not_bit : (a : ℕ) → a < 2 → (1 - a == 1) ≡ not (a == 1)
not_bit a e = grind (arith, nat_tests)

by_second : (b c d : Bool) → ((b && c) && d) ≡ (b && (c && d))
by_second true c d = refl
by_second false c d = refl

regrouped : (a b c d : Bool) → (((a && b) && c) && d) ≡ (a && (b && (c && d)))
regrouped true b c d = by_second b c d
regrouped false b c d = refl

by_bits : (l a u s : ℕ) (above : Bool) → l < 2 → a < 2 → u < 2 → s < 2
    → ((min (min (max l a) u) (1 - s) == 1) && above) ≡ (((l == 1) || (a == 1)) && ((u == 1) && (not (s == 1) && above)))
by_bits l a u s above e f g h =
    rw (
      and_bits (min (max l a) u) (1 - s) (omega (arith, e, f, g)) (omega (arith, h)),
      and_bits (max l a) u (omega (arith, e, f)) g,
      or_bits l a e f,
      not_bit s h,
    ) (regrouped ((l == 1) || (a == 1)) (u == 1) (not (s == 1)) above)

pub free_is_eligible : (controller : Controller) (levels n : ℕ) → controller.in_service < 2 ^ 128 → n < 128 → is_free controller (ready controller levels) n ≡ is_eligible controller levels n
unfolding is_eligible
free_is_eligible controller levels n fits small =
    let above = is_above_all controller (priority_of controller n) in
    ap (λ b. (b == 1) && above) (ready_bit controller levels n fits small)
    ∙ by_bits (bit_at levels n) (bit_at controller.latched n) (bit_at controller.unmasked n) (bit_at controller.in_service n) above
    (bit_at-lt levels n) (bit_at-lt controller.latched n) (bit_at-lt controller.unmasked n) (bit_at-lt controller.in_service n)

-- ---- the search

pub IsBestReady : Controller → ℕ → ℕ → Option ℕ → Type 0
IsBestReady controller set bound best = IsBest (is_free controller set) (priority_of controller) bound best

pub none_yet : (controller : Controller) (set : ℕ) → IsBestReady controller set 0 None
unfolding IsBestReady IsBest
none_yet controller set m small = absurd (omega (arith, small))

exceeds_is : (controller : Controller) (best : Option ℕ) (n : ℕ) → exceeds controller best n ≡ goes_before (priority_of controller) best n
unfolding goes_before
exceeds_is controller None n = refl
exceeds_is controller (Some best) n = refl

pub better_more : (controller : Controller) (set n : ℕ) (best new : Option ℕ) → IsBestReady controller set n best → new ≡ better controller set best n → IsBestReady controller set (n + 1) new
unfolding IsBestReady better
better_more controller set n best new h e =
    let same : new ≡ cond (is_free controller set n && goes_before (priority_of controller) best n) (Some n) best =
    e ∙ ap (λ b. cond (is_free controller set n && b) (Some n) best) (exceeds_is controller best n)
    in
    subst (IsBest (is_free controller set) (priority_of controller) (n + 1)) (sym same) (best_more (is_free controller set) (priority_of controller) n best h)

-- numbers that aren't ready change nothing
passed_by : (controller : Controller) (set k count : ℕ) (best : Option ℕ) → ((m : ℕ) → k ≤ m → m < count + k → has set m ≡ false) → IsBestReady controller set k best
    → IsBestReady controller set (count + k) best
unfolding IsBestReady better
passed_by controller set k zero best none h = let e : k ≡ 0 + k = omega arith in subst (λ n. IsBestReady controller set n best) e h
passed_by controller set k (suc count) best none h =
    let n = count + k in
    let before = passed_by controller set k count best (λ m low high. none m low (omega (arith, high))) h in
    let same : best ≡ better controller set best n =
    sym (ap (λ b. cond ((b && is_above_all controller (priority_of controller n)) && exceeds controller best n) (Some n) best) (none n (omega arith) (omega arith)))
    in
    let e : n + 1 ≡ suc count + k = omega arith in
    subst (λ i. IsBestReady controller set i best) e (better_more controller set n best best before same)

pub passed_over : (controller : Controller) (set n k : ℕ) (best : Option ℕ) → IsBestReady controller set k best → k ≤ n → ((m : ℕ) → k ≤ m → m < n → has set m ≡ false)
    → IsBestReady controller set n best
passed_over controller set n k best h order none =
    let e : n - k + k ≡ n = omega (arith, order) in
    subst (λ i. IsBestReady controller set i best) e (passed_by controller set k (n - k) best (λ m low high. none m low (omega (arith, high, e))) h)

-- the best among numbers that are eligible alike
same_best : (e f : ℕ → Bool) (priority : ℕ → ℕ) (bound : ℕ) (best : Option ℕ) → ((m : ℕ) → m < bound → f m ≡ e m) → IsBest e priority bound best → IsBest f priority bound best
unfolding IsBest
same_best e f priority bound None same h = λ m small. same m small ∙ h m small
same_best e f priority bound (Some best) same h = record {
  number = h.number;
  eligible_self = same best h.number ∙ h.eligible_self;
  others = λ m small g. h.others m small (sym (same m small) ∙ g);
}

pub ready_chosen : (controller : Controller) (levels set bound : ℕ) (best : Option ℕ) → set ≡ ready controller levels → controller.in_service < 2 ^ 128 → length controller.sources ≤ 128
    → bound ≡ length controller.sources → IsBestReady controller set bound best → best ≡ chosen controller levels
unfolding IsBestReady
ready_chosen controller levels set bound best is_set fits few all h =
    let eligible : (m : ℕ) → m < bound → is_eligible controller levels m ≡ is_free controller set m =
    λ m small. sym (free_is_eligible controller levels m fits (omega (arith, small, few, all))) ∙ ap (λ s. is_free controller s m) (sym is_set)
    in
    let found = same_best (is_free controller set) (is_eligible controller levels) (priority_of controller) bound best eligible h in
    sym (best_chosen controller levels best (subst (λ k. IsBest (is_eligible controller levels) (priority_of controller) k best) all found))

-- of no numbers none is the best
pub none_ready : (controller : Controller) (set bound : ℕ) → set ≡ 0 → IsBestReady controller set bound None
unfolding IsBestReady IsBest
none_ready controller set bound e m small = rw (e, bit_at-zero m) refl

-- none is chosen where all are masked
and_false : (a : Bool) → (a && false) ≡ false
and_false true = refl
and_false false = refl

masked : (controller : Controller) (levels n : ℕ) → controller.unmasked ≡ 0 → is_eligible controller levels n ≡ false
unfolding is_eligible
masked controller levels n e =
    let none : has controller.unmasked n ≡ false = rw (e, bit_at-zero n) refl in
    rw none (and_false (has levels n || has controller.latched n))

pub masked_quiet : (controller : Controller) (levels : ℕ) → controller.unmasked ≡ 0 → chosen controller levels ≡ None
unfolding IsBest
masked_quiet controller levels e = best_chosen controller levels None (λ m small. masked controller levels m e)

-- the levels of those that are masked change nothing
cut_test : (l a u : ℕ) (rest : Bool) → l < 2 → u < 2 → (((min l u == 1) || (a == 1)) && ((u == 1) && rest)) ≡ (((l == 1) || (a == 1)) && ((u == 1) && rest))
cut_test l a u rest e f = rw (and_bits l u e f) (cut_by (l == 1) (a == 1) (u == 1) rest)
  where
    cut_by : (l a u rest : Bool) → (((l && u) || a) && (u && rest)) ≡ ((l || a) && (u && rest))
    cut_by true a true rest = refl
    cut_by true true false rest = refl
    cut_by true false false rest = refl
    cut_by false a u rest = refl

cut_eligible : (controller : Controller) (levels n : ℕ) → is_eligible controller (bit_and levels controller.unmasked) n ≡ is_eligible controller levels n
unfolding is_eligible
cut_eligible controller levels n =
    let u = bit_at controller.unmasked n in
    let rest = not (has controller.in_service n) && is_above_all controller (priority_of controller n) in
    ap (λ b. ((b == 1) || has controller.latched n) && ((u == 1) && rest)) (bit_at_and levels controller.unmasked n)
    ∙ cut_test (bit_at levels n) (bit_at controller.latched n) u rest (bit_at-lt levels n) (bit_at-lt controller.unmasked n)

pub unmasked_alone : (controller : Controller) (levels : ℕ) → chosen controller (bit_and levels controller.unmasked) ≡ chosen controller levels
unmasked_alone controller levels =
    let cut = bit_and levels controller.unmasked in
    let priority = priority_of controller in
    let count = length controller.sources in
    let best = best_of (is_eligible controller levels) priority count in
    let all = is_best (is_eligible controller levels) priority count in
    best_chosen controller cut best (same_best (is_eligible controller levels) (is_eligible controller cut) priority count best (λ m small. cut_eligible controller levels m) all)
    ∙ sym (best_chosen controller levels best all)
