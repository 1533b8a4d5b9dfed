-- Replacing one digit of a number of 32 bits.
use Rattle.std.proofs.Common.{◌≡◌, ℕ, ◌+◌, ◌-◌, ◌*◌, ◌/◌, ◌%◌, ◌^◌, ◌<◌, refl, subst, arith}
use Rattle.std.proofs.lemmas.Nat.{pow-add, mul-add-lt, div_below, mod_below, mul-le, div-add-mod'}
use Rattle.std.proofs.Math.Nat.{mul-mod_left}
use Rattle.insn_alu.specs.Fields.{replaced}

-- a power divides a greater one
pub power_divides : (j k : ℕ) → 2 ^ (j + k) % 2 ^ k ≡ 0
power_divides j k = rw (pow-add 2 j k) (mul-mod_left (2 ^ j) (2 ^ k))

pub field_divides : (n : ℕ) → n < 8 → 2 ^ 32 % (16 * 2 ^ (28 - 4 * n)) ≡ 0
field_divides n h =
    let whole : 2 ^ (4 + (28 - 4 * n)) ≡ 16 * 2 ^ (28 - 4 * n) = pow-add 2 4 (28 - 4 * n) in
    let all : 4 * n + (4 + (28 - 4 * n)) ≡ 32 = omega arith in
    let divides : 2 ^ (4 * n + (4 + (28 - 4 * n))) % 2 ^ (4 + (28 - 4 * n)) ≡ 0 = power_divides (4 * n) (4 + (28 - 4 * n)) in
    let P : ℕ → Type 0 = λ m. 2 ^ 32 % m ≡ 0 in
    let Q : ℕ → Type 0 = λ m. 2 ^ m % 2 ^ (4 + (28 - 4 * n)) ≡ 0 in
    subst P whole (subst Q all divides)

pub bit_divides : (n : ℕ) → n < 32 → 2 ^ 32 % (2 * 2 ^ (31 - n)) ≡ 0
bit_divides n h =
    let whole : 2 ^ (1 + (31 - n)) ≡ 2 * 2 ^ (31 - n) = pow-add 2 1 (31 - n) in
    let all : n + (1 + (31 - n)) ≡ 32 = omega arith in
    let divides : 2 ^ (n + (1 + (31 - n))) % 2 ^ (1 + (31 - n)) ≡ 0 = power_divides n (1 + (31 - n)) in
    let P : ℕ → Type 0 = λ m. 2 ^ 32 % m ≡ 0 in
    let Q : ℕ → Type 0 = λ m. 2 ^ m % 2 ^ (1 + (31 - n)) ≡ 0 in
    subst P whole (subst Q all divides)

-- the parts stay below a whole that their base divides
parts_fit : (high m q d p b low : ℕ) → high < q → m ≡ b * p → d < b → low < p → high * m + d * p + low < q * m
parts_fit high m q d p b low h e k l =
    let inner : d * p + low < m = omega (arith, mul-add-lt d p low b k l, e) in
    let outer : high * m + (d * p + low) < m * q = mul-add-lt high m (d * p + low) q h inner in
    omega arith

pub digit_fits : (base place digit number : ℕ) → 2 ^ 32 % (base * place) ≡ 0 → 0 < place → digit < base → number < 2 ^ 32 → replaced base place digit number < 2 ^ 32
digit_fits base place digit number whole positive small below =
    let m : ℕ = base * place in
    let some : 0 < base * place = omega (arith, mul-le 1 place base place (omega arith) (omega arith)) in
    let split : 2 ^ 32 / (base * place) * (base * place) + 2 ^ 32 % (base * place) ≡ 2 ^ 32 = div-add-mod' (2 ^ 32) (base * place) in
    let high : number / (base * place) < 2 ^ 32 / (base * place) = div_below number (base * place) (2 ^ 32 / (base * place)) some (omega arith) in
    let low : number % place < place = mod_below number place positive in
    let fits : number / (base * place) * (base * place) + digit * place + number % place < 2 ^ 32 / (base * place) * (base * place) = parts_fit (number / (base * place)) (base * place) (2 ^ 32 / (base * place)) digit place base (number % place) high refl small low in
    omega arith
