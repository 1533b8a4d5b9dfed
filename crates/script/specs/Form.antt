-- Numbers and bytes as words of a line.
use Rattle.std.specs.Prelude.{ℕ, ◌==◌, min, Bool, ◌&&◌, not, nat_lt, nat_le, if◌then◌else◌, List, length, slice_index, Option, Some, None, option_and_then, Result, Ok, Err}
use Rattle.std.specs.Option.{option_map}
use Rattle.std.specs.Char.{is_ascii_digit}
use Rattle.std.specs.List.{list_all}
use Rattle.std.specs.Str.Parse.{digits_value}
use Rattle.hex.specs.declared.error.FromHexError.{FromHexError}
use Rattle.hex.specs.Hex.{decode_of}

-- `0`, or digits of which the first isn't `0`; at most 20
abbrev pub is_decimal : List ℕ → Bool
is_decimal word =
    nat_lt 0 (length word) && nat_le (length word) 20 && list_all is_ascii_digit word && not (nat_lt 1 (length word) && slice_index word 0 == 48)

-- the number that the word writes
unfoldable pub decimal_of : List ℕ → Option ℕ
decimal_of word = if is_decimal word then Some (digits_value 10 word) else None

-- the number of the last turn that can be told, 2 ^ 64 - 1
abbrev pub last_turn : ℕ
last_turn = 18446744073709551615

-- turns are counted from 1
unfoldable pub turn_of : List ℕ → Option ℕ
turn_of word = option_and_then (λ turn. if nat_lt 0 turn && nat_le turn last_turn then Some turn else None) (decimal_of word)

-- the number of the last core that a partition can have
abbrev pub last_core : ℕ
last_core = 31

-- a core by its number; all numbers that no core can have count as the first of them, 32
unfoldable pub core_of : List ℕ → Option ℕ
core_of word = option_map (λ core. min core 32) (decimal_of word)

-- the bytes, if there are any
abbrev pub found_bytes : Result (List ℕ) FromHexError → Option (List ℕ)
found_bytes (Ok bytes) = Some bytes
found_bytes (Err fault) = None

-- 1 to 64 bytes, each of two hexadecimal digits of either case
unfoldable pub bytes_of : List ℕ → Option (List ℕ)
bytes_of word = if nat_le 2 (length word) && nat_le (length word) 128 then found_bytes (decode_of word) else None
