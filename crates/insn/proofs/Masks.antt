-- What each class of mask leaves of a word, as sums of the word's fields.
use Rattle.std.proofs.Common.{◌≡◌, ℕ, ◌+◌, ◌*◌, ◌/◌, ◌%◌, ◌^◌, ◌<◌, bit_and, sym, ◌∙◌, ap, arith}
use Rattle.std.proofs.lemmas.Nat.{and_block, and_mask, shr_split, pow_pos}
use Rattle.std.proofs.lemmas.Nat.Bits.{and_high, and_pow}

-- a mask of two parts takes from each part of the word
pub and_parts : (k w high low : ℕ) → low < 2 ^ k → bit_and w (high * 2 ^ k + low) ≡ bit_and (w / 2 ^ k) high * 2 ^ k + bit_and (w % 2 ^ k) low
and_parts k w high low h =
    let below : w % 2 ^ k < 2 ^ k = omega (arith, pow_pos k) in
    ap (λ v. bit_and v (high * 2 ^ k + low)) (sym (shr_split w k)) ∙ and_block k (w / 2 ^ k) high (w % 2 ^ k) low below h

pub and_primary : (w : ℕ) → w < 2 ^ 32 → bit_and w 0xFC000000 ≡ w / 2 ^ 26 * 2 ^ 26
and_primary w h =
    let kept : bit_and w 0xFC000000 ≡ w / 2 ^ 26 % 64 * 2 ^ 26 = and_high w 6 26 in
    omega arith

pub and_extended : (w : ℕ) → w < 2 ^ 32 → bit_and w 0xFC0007FE ≡ w / 2 ^ 26 * 2 ^ 26 + w / 2 % 1024 * 2
and_extended w h =
    let parts : bit_and w 0xFC0007FE ≡ bit_and (w / 2 ^ 11) 0x1F8000 * 2 ^ 11 + bit_and (w % 2 ^ 11) 0x7FE = and_parts 11 w 0x1F8000 0x7FE (omega arith) in
    let high : bit_and (w / 2 ^ 11) 0x1F8000 ≡ w / 2 ^ 11 / 2 ^ 15 % 64 * 2 ^ 15 = and_high (w / 2 ^ 11) 6 15 in
    let low : bit_and (w % 2 ^ 11) 0x7FE ≡ w % 2 ^ 11 / 2 % 1024 * 2 = and_high (w % 2 ^ 11) 10 1 in
    omega arith

pub and_arithmetic : (w : ℕ) → w < 2 ^ 32 → bit_and w 0xFC0003FE ≡ w / 2 ^ 26 * 2 ^ 26 + w / 2 % 512 * 2
and_arithmetic w h =
    let parts : bit_and w 0xFC0003FE ≡ bit_and (w / 2 ^ 10) 0x3F0000 * 2 ^ 10 + bit_and (w % 2 ^ 10) 0x3FE = and_parts 10 w 0x3F0000 0x3FE (omega arith) in
    let high : bit_and (w / 2 ^ 10) 0x3F0000 ≡ w / 2 ^ 10 / 2 ^ 16 % 64 * 2 ^ 16 = and_high (w / 2 ^ 10) 6 16 in
    let low : bit_and (w % 2 ^ 10) 0x3FE ≡ w % 2 ^ 10 / 2 % 512 * 2 = and_high (w % 2 ^ 10) 9 1 in
    omega arith

pub and_select : (w : ℕ) → w < 2 ^ 32 → bit_and w 0xFC00003E ≡ w / 2 ^ 26 * 2 ^ 26 + w / 2 % 32 * 2
and_select w h =
    let parts : bit_and w 0xFC00003E ≡ bit_and (w / 2 ^ 6) 0x3F00000 * 2 ^ 6 + bit_and (w % 2 ^ 6) 0x3E = and_parts 6 w 0x3F00000 0x3E (omega arith) in
    let high : bit_and (w / 2 ^ 6) 0x3F00000 ≡ w / 2 ^ 6 / 2 ^ 20 % 64 * 2 ^ 20 = and_high (w / 2 ^ 6) 6 20 in
    let low : bit_and (w % 2 ^ 6) 0x3E ≡ w % 2 ^ 6 / 2 % 32 * 2 = and_high (w % 2 ^ 6) 5 1 in
    omega arith

pub and_recorded : (w : ℕ) → w < 2 ^ 32 → bit_and w 0xFC0007FF ≡ w / 2 ^ 26 * 2 ^ 26 + w % 2 ^ 11
and_recorded w h =
    let parts : bit_and w 0xFC0007FF ≡ bit_and (w / 2 ^ 11) 0x1F8000 * 2 ^ 11 + bit_and (w % 2 ^ 11) 0x7FF = and_parts 11 w 0x1F8000 0x7FF (omega arith) in
    let high : bit_and (w / 2 ^ 11) 0x1F8000 ≡ w / 2 ^ 11 / 2 ^ 15 % 64 * 2 ^ 15 = and_high (w / 2 ^ 11) 6 15 in
    let low : bit_and (w % 2 ^ 11) 0x7FF ≡ w % 2 ^ 11 % 2 ^ 11 = and_mask (w % 2 ^ 11) 11 in
    omega arith

pub and_system_call : (w : ℕ) → w < 2 ^ 32 → bit_and w 0xFC000FE2 ≡ w / 2 ^ 26 * 2 ^ 26 + w / 2 ^ 5 % 128 * 2 ^ 5 + w / 2 % 2 * 2
and_system_call w h =
    let parts : bit_and w 0xFC000FE2 ≡ bit_and (w / 2 ^ 12) 0xFC000 * 2 ^ 12 + bit_and (w % 2 ^ 12) 0xFE2 = and_parts 12 w 0xFC000 0xFE2 (omega arith) in
    let high : bit_and (w / 2 ^ 12) 0xFC000 ≡ w / 2 ^ 12 / 2 ^ 14 % 64 * 2 ^ 14 = and_high (w / 2 ^ 12) 6 14 in
    let middle : bit_and (w % 2 ^ 12) 0xFE2 ≡ bit_and (w % 2 ^ 12 / 2 ^ 5) 0x7F * 2 ^ 5 + bit_and (w % 2 ^ 12 % 2 ^ 5) 2 = and_parts 5 (w % 2 ^ 12) 0x7F 2 (omega arith) in
    let level : bit_and (w % 2 ^ 12 / 2 ^ 5) 0x7F ≡ w % 2 ^ 12 / 2 ^ 5 % 2 ^ 7 = and_mask (w % 2 ^ 12 / 2 ^ 5) 7 in
    let low : bit_and (w % 2 ^ 12 % 2 ^ 5) 2 ≡ w % 2 ^ 12 % 2 ^ 5 / 2 % 2 * 2 = and_pow (w % 2 ^ 12 % 2 ^ 5) 1 in
    omega arith
