-- Sets of numbers as bits.
use Rattle.std.proofs.Common.{◌≡◌, ◌≢◌, ℕ, zero, suc, ◌+◌, ◌-◌, ◌/◌, ◌%◌, ◌^◌, ◌<◌, ◌≤◌, ◌==◌, Bool, true, false, not, ◌&&◌, ◌||◌, refl, sym, ap, ◌∙◌, eqb-true, arith}
use Rattle.std.specs.Int.{w128, bit_at, bit_not, trailing_zeros}
use Rattle.std.specs.Int.Count.{trailing_of_zero}
use Rattle.std.proofs.Math.Nat.{mod-lt, div-le_self}
use Rattle.std.proofs.Math.Pow.{pow-lt}
use Rattle.std.proofs.lemmas.Nat.{div-add-mod', pow_pos}
use Rattle.std.proofs.lemmas.Bool.Decides.{nat_tests}
use Rattle.std.proofs.lemmas.Nat.Bits.{bit_at-pow_same, bit_at-pow_other, bit_at_or, bit_at_and, bit_at_not, bit_at-lt, bit_at-zero, bit_at_cat_high, bit_at-trailing_zeros}
use Rattle.vpic.specs.Numbers.{has, with_number, without_number}

different : (m n : ℕ) → (m == n) ≡ false → m ≢ n
different m n e here = grind (arith, nat_tests)

-- ---- a number put in

put_same : (set n : ℕ) → bit_at (with_number set n) n ≡ 1
put_same set n = bit_at_or set (2 ^ n) n ∙ rw (bit_at-pow_same n) (omega (arith, bit_at-lt set n))

put_other : (set n m : ℕ) → m ≢ n → bit_at (with_number set n) m ≡ bit_at set m
put_other set n m other = bit_at_or set (2 ^ n) m ∙ rw (bit_at-pow_other n m other) (omega (arith, bit_at-lt set m))

put_by : (set n m : ℕ) (same : Bool) → (m == n) ≡ same → has (with_number set n) m ≡ (same || has set m)
put_by set n m true e =
    let here : m ≡ n = eqb-true m n e in
    ap (λ b. b == 1) (ap (bit_at (with_number set n)) here ∙ put_same set n)
put_by set n m false e = ap (λ b. b == 1) (put_other set n m (different m n e))

pub put_in : (set n m : ℕ) → n < 128 → has (with_number set n) m ≡ ((m == n) || has set m)
put_in set n m small = put_by set n m (m == n) refl

-- ---- a number taken out

fits : (n : ℕ) → n < 128 → 2 ^ n < 2 ^ 128
fits n small = pow-lt small

pub taken_same : (set n : ℕ) → n < 128 → bit_at (without_number set n) n ≡ 0
taken_same set n small =
    bit_at_and set (bit_not w128 (2 ^ n)) n ∙ rw (bit_at_not w128 (2 ^ n) n (fits n small) small, bit_at-pow_same n) (omega (arith, bit_at-lt set n))

pub taken_other : (set n m : ℕ) → n < 128 → m < 128 → m ≢ n → bit_at (without_number set n) m ≡ bit_at set m
taken_other set n m small below other =
    bit_at_and set (bit_not w128 (2 ^ n)) m ∙ rw (bit_at_not w128 (2 ^ n) m (fits n small) below, bit_at-pow_other n m other) (omega (arith, bit_at-lt set m))

taken_by : (set n m : ℕ) (same : Bool) → n < 128 → m < 128 → (m == n) ≡ same → has (without_number set n) m ≡ (not same && has set m)
taken_by set n m true small below e =
    let here : m ≡ n = eqb-true m n e in
    ap (λ b. b == 1) (ap (bit_at (without_number set n)) here ∙ taken_same set n small)
taken_by set n m false small below e = ap (λ b. b == 1) (taken_other set n m small below (different m n e))

pub taken_out : (set n m : ℕ) → n < 128 → m < 128 → has (without_number set n) m ≡ (not (m == n) && has set m)
taken_out set n m small below = taken_by set n m (m == n) small below refl

-- ---- the next number

-- the numbers of a set from k on
shifted : (set k i : ℕ) → bit_at (set / 2 ^ k) i ≡ bit_at set (k + i)
shifted set k i =
    let e : k + i - k ≡ i = omega arith in
    sym (ap (λ n. bit_at n (k + i)) (sym (div-add-mod' set (2 ^ k))) ∙ bit_at_cat_high (set / 2 ^ k) k (set % 2 ^ k) (k + i) (mod-lt set (pow_pos k)) (omega arith) ∙ ap (bit_at (set / 2 ^ k)) e)

pub low_free : (set : ℕ) → set < 2 ^ 128 → (i : ℕ) → i < trailing_zeros w128 set → bit_at set i ≡ 0
low_free zero small i low = bit_at-zero i
low_free (suc set) small i low = (bit_at-trailing_zeros w128 (suc set) (omega arith) small).2 i low

pub none_before : (set k m : ℕ) → set < 2 ^ 128 → k ≤ m → m < k + trailing_zeros w128 (set / 2 ^ k) → has set m ≡ false
none_before set k m small low high =
    let here : k + (m - k) ≡ m = omega (arith, low) in
    let left : set / 2 ^ k < 2 ^ 128 = omega (arith, small, div-le_self set (2 ^ k)) in
    let bit : bit_at set m ≡ 0 = sym (ap (bit_at set) here) ∙ sym (shifted set k (m - k)) ∙ low_free (set / 2 ^ k) left (m - k) (omega (arith, low, high)) in
    ap (λ b. b == 1) bit

lowest : (set : ℕ) → set < 2 ^ 128 → trailing_zeros w128 set < 128 → bit_at set (trailing_zeros w128 set) ≡ 1
lowest zero small some =
    let none : trailing_zeros w128 0 ≡ 128 = trailing_of_zero 128 in
    absurd (omega (arith, some, none))
lowest (suc set) small some = (bit_at-trailing_zeros w128 (suc set) (omega arith) small).1

-- the first number from k on is in the set, where there is one
pub found_first : (set k : ℕ) → set < 2 ^ 128 → trailing_zeros w128 (set / 2 ^ k) < 128 → has set (k + trailing_zeros w128 (set / 2 ^ k)) ≡ true
found_first set k small some =
    let left : set / 2 ^ k < 2 ^ 128 = omega (arith, small, div-le_self set (2 ^ k)) in
    let bit : bit_at set (k + trailing_zeros w128 (set / 2 ^ k)) ≡ 1 = sym (shifted set k (trailing_zeros w128 (set / 2 ^ k))) ∙ lowest (set / 2 ^ k) left some in
    ap (λ b. b == 1) bit
