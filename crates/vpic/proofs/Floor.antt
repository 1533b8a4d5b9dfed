-- The highest priority that holds others back.
use Rattle.std.proofs.Common.{◌≡◌, ℕ, zero, suc, ◌+◌, ◌-◌, ◌<◌, ◌≤◌, max, Bool, true, false, not, ◌&&◌, ◌||◌, cond, nat_lt, length, refl, ap, sym, subst, ◌∙◌, arith}
use Rattle.std.specs.List.{range_with_len, list_all}
use Rattle.vpic.specs.Numbers.{has}
use Rattle.vpic.specs.Controller.{Controller, priority_of}
use Rattle.vpic.specs.Choice.{is_above_all}
use Rattle.vpic.specs.Search.{IsFloor, raised}
use Rattle.std.proofs.lemmas.Bool.Decides.{nat_tests}
use Rattle.vpic.proofs.Ranges.{all_more}

-- whether a priority is above that of a source, if it is in service
abbrev pub is_above : Controller → ℕ → ℕ → Bool
is_above controller priority m = not (has controller.in_service m) || nat_lt (priority_of controller m) priority

-- the floor of the first sources
pub IsFloorOf : Controller → ℕ → ℕ → Type 0
IsFloorOf controller count floor = (priority : ℕ) → nat_lt floor priority ≡ (nat_lt controller.task priority && list_all (is_above controller priority) (range_with_len 0 count))

and_true : (b : Bool) → (b && true) ≡ b
and_true true = refl
and_true false = refl

and_assoc : (a b c : Bool) → ((a && b) && c) ≡ (a && (b && c))
and_assoc true b c = refl
and_assoc false b c = refl

pub no_source : (controller : Controller) → IsFloorOf controller 0 controller.task
unfolding IsFloorOf
no_source controller priority = sym (and_true (nat_lt controller.task priority))

both : (a b p : ℕ) → nat_lt (max a b) p ≡ (nat_lt a p && nat_lt b p)
both a b p = grind (arith, nat_tests)

by_service : (controller : Controller) (n floor priority : ℕ) (serves : Bool) → has controller.in_service n ≡ serves
    → nat_lt (cond serves (max floor (priority_of controller n)) floor) priority ≡ (nat_lt floor priority && (not serves || nat_lt (priority_of controller n) priority))
by_service controller n floor priority true e = both floor (priority_of controller n) priority
by_service controller n floor priority false e = sym (and_true (nat_lt floor priority))

pub one_more : (controller : Controller) (n floor : ℕ) → IsFloorOf controller n floor → IsFloorOf controller (n + 1) (raised controller floor n)
unfolding IsFloorOf
one_more controller n floor h priority =
    by_service controller n floor priority (has controller.in_service n) refl
    ∙ (ap (λ b. b && is_above controller priority n) (h priority)
    ∙ (and_assoc (nat_lt controller.task priority) (list_all (is_above controller priority) (range_with_len 0 n)) (is_above controller priority n)
    ∙ ap (λ b. nat_lt controller.task priority && b) (sym (all_more (is_above controller priority) n))))

pub all_sources : (controller : Controller) (count floor : ℕ) → count ≡ length controller.sources → IsFloorOf controller count floor → IsFloor controller floor
unfolding IsFloorOf is_above_all
all_sources controller count floor e h priority = h priority ∙ ap (λ k. nat_lt controller.task priority && list_all (is_above controller priority) (range_with_len 0 k)) e

-- numbers that aren't in service raise nothing
passed_by : (controller : Controller) (k floor count : ℕ) → ((m : ℕ) → k ≤ m → m < count + k → has controller.in_service m ≡ false) → IsFloorOf controller k floor
    → IsFloorOf controller (count + k) floor
passed_by controller k floor zero none h = let e : k ≡ 0 + k = omega arith in subst (λ n. IsFloorOf controller n floor) e h
passed_by controller k floor (suc count) none h =
    let before = passed_by controller k floor count (λ m low high. none m low (omega (arith, high))) h in
    let same : raised controller floor (count + k) ≡ floor =
    ap (λ b. cond b (max floor (priority_of controller (count + k))) floor) (none (count + k) (omega arith) (omega arith))
    in
    let e : count + k + 1 ≡ suc count + k = omega arith in
    subst (λ n. IsFloorOf controller n floor) e (subst (IsFloorOf controller (count + k + 1)) same (one_more controller (count + k) floor before))

pub passed_over : (controller : Controller) (serving n k floor : ℕ) → serving ≡ controller.in_service → IsFloorOf controller k floor → k ≤ n
    → ((m : ℕ) → k ≤ m → m < n → has serving m ≡ false) → IsFloorOf controller n floor
passed_over controller serving n k floor same h order none =
    let e : n - k + k ≡ n = omega (arith, order) in
    subst (λ i. IsFloorOf controller i floor) e
    (passed_by controller k floor (n - k) (λ m low high. sym (ap (λ set. has set m) same) ∙ none m low (omega (arith, high, e))) h)
