-- Sizes of pages, and multiples of them.
use Rattle.std.proofs.Common.{arith, ap, sym, ◌∙◌, ◌≡◌, ℕ, ◌+◌, ◌-◌, ◌*◌, ◌/◌, ◌%◌, ◌^◌, ◌<◌, ◌≤◌, nat_lt, true}
use Rattle.std.proofs.Math.Nat.{pow-le-pow_right, mul_assoc, mul-le-mul_right, mul-mod_left}
use Rattle.std.proofs.lemmas.Nat.{pow-add, div_below, div-add-mod'}
use Rattle.std.proofs.lemmas.Bool.{lt-ltb}

-- of up to 4 ^ 15 KiB
pub size_is_small : (t : ℕ) → t < 16 → 4 ^ t < 2 ^ 32
size_is_small t h = let le : 4 ^ t ≤ 4 ^ 15 = pow-le-pow_right {n = 4} (omega arith) {i = t} {j = 15} (omega arith) in omega arith

pub size_is_positive : (t : ℕ) → 0 < 4 ^ t
size_is_positive t = let le : 4 ^ 0 ≤ 4 ^ t = pow-le-pow_right {n = 4} (omega arith) {i = 0} {j = t} (omega arith) in omega arith

-- of 4 ^ 11 KiB and more
pub size_is_large : (ea epn t : ℕ) → 11 ≤ t → ea < 2 ^ 32 → nat_lt ea (epn + 4 ^ t * 2 ^ 10) ≡ true
size_is_large ea epn t h k = let le : 4 ^ 11 ≤ 4 ^ t = pow-le-pow_right {n = 4} (omega arith) {i = 11} {j = t} h in lt-ltb ea (epn + 4 ^ t * 2 ^ 10) (omega arith)

-- a size is a multiple of 4 KiB
pub size_of_pages : (t : ℕ) → 1 ≤ t → 4 ^ t * 2 ^ 10 ≡ 4 ^ (t - 1) * 2 ^ 12
size_of_pages t h =
    let one : 1 + (t - 1) ≡ t = omega arith in
    let step : 4 ^ (1 + (t - 1)) ≡ 4 ^ 1 * 4 ^ (t - 1) = pow-add 4 1 (t - 1) in
    let power : 4 ^ t ≡ 4 ^ 1 * 4 ^ (t - 1) = ap (λ n. 4 ^ n) (sym one) ∙ step in
    omega (arith, power)

-- and so many of it are 4 GiB
pub sizes_in_space : (t : ℕ) → t ≤ 11 → 4 ^ (11 - t) * (4 ^ t * 2 ^ 10) ≡ 2 ^ 32
sizes_in_space t h =
    let all : 11 - t + t ≡ 11 = omega arith in
    let power : 4 ^ (11 - t + t) ≡ 4 ^ (11 - t) * 4 ^ t = pow-add 4 (11 - t) t in
    let whole : 4 ^ (11 - t) * 4 ^ t ≡ 4 ^ 11 = sym power ∙ ap (λ n. 4 ^ n) all in
    sym (mul_assoc (4 ^ (11 - t)) (4 ^ t) (2 ^ 10)) ∙ ap (λ n. n * 2 ^ 10) whole

-- the last multiple of a size
aligned_is : (s x : ℕ) → x - x % s ≡ x / s * s
aligned_is s x = omega (arith, div-add-mod' x s)

pub aligned_whole : (s x : ℕ) → (x - x % s) % s ≡ 0
aligned_whole s x = ap (λ n. n % s) (aligned_is s x) ∙ mul-mod_left (x / s) s

pub aligned_page : (s m x : ℕ) → s ≡ m * 2 ^ 12 → (x - x % s) % 2 ^ 12 ≡ 0
aligned_page s m x e =
    ap (λ n. n % 2 ^ 12) (aligned_is s x ∙ (ap (λ n. x / s * n) e ∙ sym (mul_assoc (x / s) m (2 ^ 12)))) ∙ mul-mod_left (x / s * m) (2 ^ 12)

-- a multiple of it below a multiple of it
pub aligned_ends : (s k x : ℕ) → 0 < s → x < k * s → x - x % s + s ≤ k * s
aligned_ends s k x positive h =
    let below : x / s < k = div_below x s k positive h in
    let le : (x / s + 1) * s ≤ k * s = mul-le-mul_right s (omega arith) in
    omega (arith, aligned_is s x, le)
