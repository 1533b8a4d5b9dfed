-- Laws of what numbers decide.
use Rattle.std.specs.Prelude.{◌≡◌, ◌≤◌, ℕ, Bool, true, nat_lt, length}
use Rattle.std.specs.List.{list_all}
use Rattle.gen_load.specs.Draws.{count_of, starts_of, order_of}

abbrev pub are_below : ℕ → ℕ → Bool
are_below limit number = nat_lt number limit

-- there are 2 to 8 partitions
abbrev pub CountsAreFew : Type 0
CountsAreFew = (number : ℕ) → (2 ≤ count_of number) × (count_of number ≤ 8)

-- each has a start below 32,768
abbrev pub StartsAreSmall : Type 0
StartsAreSmall = (number : ℕ) → (length (starts_of number) ≡ count_of number) × (list_all (are_below 32768) (starts_of number) ≡ true)

-- there are 64 turns, and each is that of a partition's cpu
abbrev pub OrdersNameCpus : Type 0
OrdersNameCpus = (number : ℕ) → (length (order_of number) ≡ 64) × (list_all (are_below (count_of number)) (order_of number) ≡ true)
