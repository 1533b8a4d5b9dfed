-- Counts that stand still at the end of their type.
use Rattle.std.proofs.Common.{◌≡◌, ℕ, ◌-◌, ◌^◌, ◌==◌, min, arith}

pub once : (count : ℕ) → (min count (2 ^ 64 - 1) == 1) ≡ (count == 1)
once count = grind arith
