-- Tests of the numbers of a range.
use Rattle.std.proofs.Common.{◌≡◌, ℕ, zero, suc, ◌+◌, ◌<◌, ◌≤◌, Bool, true, false, ◌&&◌, cond, [], ◌∷◌, ◌++◌, length, Some, None, refl, ap, sym, ◌∙◌, arith}
use Rattle.std.specs.List.{range_with_len, list_all, find}
use Rattle.std.proofs.lemmas.List.FromFn.{length-range_with_len, get_or-range_with_len}
use Rattle.std.proofs.lemmas.List.Folds.{list_all_at, list_all-append}

-- all pass where each does
pub all_pass : (test : ℕ → Bool) (a n : ℕ) → ((m : ℕ) → a ≤ m → m < a + n → test m ≡ true) → list_all test (range_with_len a n) ≡ true
all_pass test a zero each = refl
all_pass test a (suc n) each =
    let rest = all_pass test (a + 1) n (λ m low high. each m (omega (arith, low)) (omega (arith, high))) in
    rw (each a (omega arith) (omega arith), rest) refl

-- not all do where one doesn't
pub one_fails : (test : ℕ → Bool) (n m : ℕ) → m < n → test m ≡ false → list_all test (range_with_len 0 n) ≡ false
one_fails test n m small fails =
    let place : m < length (range_with_len 0 n) = omega (arith, small, length-range_with_len 0 n) in
    let here : 0 + m ≡ m = omega arith in
    list_all_at test (range_with_len 0 n) m 0 place (ap test (get_or-range_with_len 0 n m 0 small ∙ here) ∙ fails)

-- where all pass each does
by_test : (test : ℕ → Bool) (n m : ℕ) (b : Bool) → test m ≡ b → m < n → list_all test (range_with_len 0 n) ≡ true → test m ≡ true
by_test test n m true e small all = e
by_test test n m false e small all = let no : true ≡ false = sym all ∙ one_fails test n m small e in cc

pub each_passes : (test : ℕ → Bool) (n m : ℕ) → m < n → list_all test (range_with_len 0 n) ≡ true → test m ≡ true
each_passes test n m small all = by_test test n m (test m) refl small all

-- one more number
more : (a n : ℕ) → range_with_len a (suc n) ≡ range_with_len a n ++ (a + n) ∷ []
more a zero =
    let here : a ≡ a + 0 = omega arith in
    ap (λ k. k ∷ []) here
more a (suc n) =
    let last : a + 1 + n ≡ a + suc n = omega arith in
    ap (λ ks. a ∷ ks) (more (a + 1) n ∙ ap (λ k. range_with_len (a + 1) n ++ k ∷ []) last)

last : (a : Bool) → (a && true) ≡ a
last true = refl
last false = refl

pub all_more : (test : ℕ → Bool) (n : ℕ) → list_all test (range_with_len 0 (n + 1)) ≡ (list_all test (range_with_len 0 n) && test n)
all_more test n =
    let next : n + 1 ≡ suc n = omega arith in
    let here : 0 + n ≡ n = omega arith in
    ap (λ k. list_all test (range_with_len 0 k)) next
    ∙ (ap (list_all test) (more 0 n) ∙ (list_all-append test (range_with_len 0 n) ((0 + n) ∷ [])
    ∙ (ap (λ k. list_all test (range_with_len 0 n) && (test k && true)) here ∙ ap (λ b. list_all test (range_with_len 0 n) && b) (last (test n)))))

-- none is found where none passes
pub none_found : (test : ℕ → Bool) (a n : ℕ) → ((m : ℕ) → a ≤ m → m < a + n → test m ≡ false) → find test (range_with_len a n) ≡ None
none_found test a zero each = refl
none_found test a (suc n) each =
    let rest = none_found test (a + 1) n (λ m low high. each m (omega (arith, low)) (omega (arith, high))) in
    rw (each a (omega arith) (omega arith)) rest

-- the first that passes is found
pub first_found : (test : ℕ → Bool) (n d b : ℕ) → (a : ℕ) → b ≡ a + d → d < n → test b ≡ true → ((m : ℕ) → a ≤ m → m < b → test m ≡ false) → find test (range_with_len a n) ≡ Some b
first_found test zero d b a e small passes each = absurd (omega (arith, small))
first_found test (suc n) zero b a e small passes each =
    let here : b ≡ a = omega (arith, e) in
    rw (sym here) (rw passes refl)
first_found test (suc n) (suc d) b a e small passes each =
    rw (each a (omega arith) (omega (arith, e))) (first_found test n d b (a + 1) (omega (arith, e)) (omega (arith, small)) passes (λ m low high. each m (omega (arith, low)) high))

-- what is found passes, and is one of the numbers
unfoldable pub IsFound : (ℕ → Bool) → ℕ → ℕ → ℕ → Type 0
IsFound test a n b = (test b ≡ true) × ((a ≤ b) × (b < a + n))

by_first : (test : ℕ → Bool) (a n b : ℕ) (first : Bool) → test a ≡ first → cond first (Some a) (find test (range_with_len (a + 1) n)) ≡ Some b
    → (find test (range_with_len (a + 1) n) ≡ Some b → IsFound test (a + 1) n b) → IsFound test a (suc n) b
unfolding IsFound
by_first test a n b true e h rest =
    let same : a ≡ b = cc in
    (ap test (sym same) ∙ e, (omega (arith, same), omega (arith, same)))
by_first test a n b false e h rest = let later = rest h in (later.0, (omega (arith, later.1.0), omega (arith, later.1.1)))

pub found : (test : ℕ → Bool) (n a b : ℕ) → find test (range_with_len a n) ≡ Some b → IsFound test a n b
found test zero a b e = absurd cc
found test (suc n) a b e = by_first test a n b (test a) refl e (found test n (a + 1) b)
