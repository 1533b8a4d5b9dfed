-- Sets of sources: number n is in one where bit n of it is set.
use Rattle.std.specs.Prelude.{ℕ, ◌^◌, ◌==◌, Bool, bit_and, bit_or}
use Rattle.std.specs.Int.{w128, bit_at, bit_not}

abbrev pub has : ℕ → ℕ → Bool
has set n = bit_at set n == 1

-- n is put in
abbrev pub with_number : ℕ → ℕ → ℕ
with_number set n = bit_or set (2 ^ n)

-- n is taken out
abbrev pub without_number : ℕ → ℕ → ℕ
without_number set n = bit_and set (bit_not w128 (2 ^ n))
