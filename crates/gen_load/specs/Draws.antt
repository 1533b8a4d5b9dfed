-- What a number decides: how many partitions there are, where each counts from, and whose turn comes when.
use Rattle.std.specs.Prelude.{ℕ, zero, suc, ◌+◌, ◌*◌, ◌/◌, ◌%◌, ◌^◌, List, map}
use Rattle.std.specs.List.{range_with_len}

-- one draw more: a linear congruential generator of 64 bits
unfoldable pub next : ℕ → ℕ
next state = (state * 6364136223846793005 + 1442695040888963407) % 2 ^ 64

-- the state behind so many draws
unfoldable pub state_after : ℕ → ℕ → ℕ
state_after zero state = state
state_after (suc draws) state = next (state_after draws state)

-- what a draw gives that leaves this state: its upper 31 bits
abbrev pub given : ℕ → ℕ
given state = state / 2 ^ 33

-- what so many draws give from a state on, each below the modulus
unfoldable pub drawn : ℕ → ℕ → ℕ → List ℕ
drawn state many modulus = map (λ place. given (state_after (place + 1) state) % modulus) (range_with_len 0 many)

-- the first draw: 2 to 8 partitions
unfoldable pub count_of : ℕ → ℕ
count_of number = 2 + given (next number) % 7

-- then one for each partition
unfoldable pub starts_of : ℕ → List ℕ
starts_of number = drawn (state_after 1 number) (count_of number) 32768

-- then one for each of 64 turns
unfoldable pub order_of : ℕ → List ℕ
order_of number = drawn (state_after (1 + count_of number) number) 64 (count_of number)
