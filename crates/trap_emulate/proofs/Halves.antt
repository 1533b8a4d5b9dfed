-- The address of a handler, joined from its parts.
use Rattle.std.proofs.Common.{◌≡◌, ℕ, ◌+◌, ◌*◌, ◌/◌, ◌%◌, ◌^◌, ◌<◌, bit_and, bit_or, lit<, lit≤, arith}
use Rattle.std.specs.Int.Bits.{and_zero_l, and_zero_r}
use Rattle.std.proofs.lemmas.Nat.{and_block, or_disjoint}
use Rattle.std.proofs.lemmas.Nat.Bits.{and_high, and_high_mask}

-- a number below 2 ^ 16 shares no bit with a multiple of it
apart : (a s : ℕ) → s < 2 ^ 16 → bit_and (a * 2 ^ 16) s ≡ 0
apart a s h =
    let e : bit_and (a * 2 ^ 16 + 0) (0 * 2 ^ 16 + s) ≡ bit_and a 0 * 2 ^ 16 + bit_and 0 s = and_block 16 a 0 0 s (lit< tt) h in
    let left : a * 2 ^ 16 + 0 ≡ a * 2 ^ 16 = omega arith in
    let right : 0 * 2 ^ 16 + s ≡ s = omega arith in
    let k : bit_and (a * 2 ^ 16) s ≡ bit_and a 0 * 2 ^ 16 + bit_and 0 s = rw left at rw right at e in
    omega (arith, k, and_zero_r a, and_zero_l s)

pub halves_join : (p v : ℕ) → p < 2 ^ 32 → bit_or (bit_and p 0xFFFF0000) (bit_and v 0xFFF0) ≡ p / 2 ^ 16 * 2 ^ 16 + v / 2 ^ 4 % 2 ^ 12 * 2 ^ 4
halves_join p v h =
    let high : bit_and p 0xFFFF0000 ≡ p / 2 ^ 16 * 2 ^ 16 = and_high_mask 32 16 (lit≤ tt) p h in
    let low : bit_and v 0xFFF0 ≡ v / 2 ^ 4 % 2 ^ 12 * 2 ^ 4 = and_high v 12 4 in
    rw high (rw low (or_disjoint (p / 2 ^ 16 * 2 ^ 16) (v / 2 ^ 4 % 2 ^ 12 * 2 ^ 4) (apart (p / 2 ^ 16) (v / 2 ^ 4 % 2 ^ 12 * 2 ^ 4) (grind arith))))
