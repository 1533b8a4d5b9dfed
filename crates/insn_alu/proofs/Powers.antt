-- Powers of two, and signed shifts.
use Rattle.std.proofs.Common.{◌≡◌, ℕ, ◌*◌, ◌%◌, ◌^◌, ◌<◌, ◌≤◌, ℤ, pos, negsuc, refl, arith}
use Rattle.std.specs.Int.{int_div_euclid, int_shr}
use Rattle.std.proofs.lemmas.Nat.{one_shl, pow_pos}
use Rattle.std.proofs.Math.Pow.{pow_mono}

pub power_fits : (n : ℕ) → n ≤ 32 → ((1 * 2 ^ n) % 2 ^ 64 ≡ 2 ^ n) × (2 ^ n ≤ 2 ^ 32) × (0 < 2 ^ n)
power_fits n h = (one_shl n 64 (omega arith), pow_mono h, pow_pos n)

pub power_order : (m n : ℕ) → m ≤ n → 2 ^ m ≤ 2 ^ n
power_order m n h = pow_mono h

-- a signed shift rounds down
pub shr_div : (z : ℤ) (k : ℕ) → int_shr z k ≡ int_div_euclid z (pos (2 ^ k))
shr_div (pos a) k = refl
shr_div (negsuc a) k = refl
