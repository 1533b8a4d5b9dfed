-- Whole numbers as registers of 32 bits hold them, and the results of the instructions over them (Power ISA 2.06, Book I,
-- sections 1.3.2 and 3.3).
use Rattle.std.specs.Prelude.{ℕ, ◌-◌, ◌*◌, ◌/◌, ◌%◌, ◌^◌, ◌==◌, Bool, not, ◌&&◌, ◌||◌, ℤ, pos, negsuc, ◌*ℤ◌, int_lt, int_div, nat_lt, nat_le, bit_and, bit_or, if◌then◌else◌}
use Rattle.std.specs.Int.{w8, w16, w32, w64, cast_signed, cast_unsigned, int_div_euclid, rotate_left}

-- what 32 bits mean as two's complement
abbrev pub signed_value : ℕ → ℤ
signed_value bits = cast_signed w32 bits

-- ¬: each of 32 bits turned
abbrev pub complement : ℕ → ℕ
complement bits = 2 ^ 32 - 1 - bits

-- whether 32 bits can't mean the number
abbrev pub overflows : ℤ → Bool
overflows number = int_lt number (negsuc 2147483647) || int_lt (pos 2147483647) number

-- a condition field without its last bit: LT is 8, GT is 4, EQ is 2
abbrev pub compared : ℤ → ℤ → ℕ
compared one other = if int_lt one other then 8 else if int_lt other one then 4 else 2

-- MASK(first, last): ones from bit `first` to bit `last`, round past bit 31 where `last` comes before `first`. Bit 0 is the most
-- significant.
unfoldable pub mask : ℕ → ℕ → ℕ
mask first last =
    if nat_le first last then 2 ^ (32 - first) - 2 ^ (31 - last)
    else 2 ^ 32 - 1 - (2 ^ (31 - last) - 2 ^ (32 - first))

-- the bits of one under the mask, and those of another elsewhere
abbrev pub inserted : ℕ → ℕ → ℕ → ℕ
inserted ones bits others = bit_or (bit_and bits ones) (bit_and others (complement ones))

-- ROTL32
abbrev pub rotated : ℕ → ℕ → ℕ
rotated bits count = rotate_left w32 bits count

-- shifts by 0 to 63 places: from 32 on nothing is left
abbrev pub shifted_left : ℕ → ℕ → ℕ
shifted_left bits count = if nat_lt 31 count then 0 else (bits * 2 ^ count) % 2 ^ 32

abbrev pub shifted_right : ℕ → ℕ → ℕ
shifted_right bits count = if nat_lt 31 count then 0 else bits / 2 ^ count

abbrev pub is_negative : ℕ → Bool
is_negative bits = nat_le (2 ^ 31) bits

-- the signed value over a power of two, rounded down; from 32 places on copies of the sign
unfoldable pub shifted_algebraic : ℕ → ℕ → ℕ
shifted_algebraic bits count =
    if nat_lt 31 count then (if is_negative bits then 2 ^ 32 - 1 else 0)
    else cast_unsigned w32 (int_div_euclid (signed_value bits) (pos (2 ^ count)))

-- whether the value is negative and a one was shifted out
unfoldable pub algebraic_carry : ℕ → ℕ → Bool
algebraic_carry bits count = is_negative bits && (nat_lt 31 count || not (bits % 2 ^ count == 0))

-- a byte, and a halfword, with copies of its sign before it
abbrev pub extended_byte : ℕ → ℕ
extended_byte bits = cast_unsigned w32 (cast_signed w8 (bits % 2 ^ 8))

abbrev pub extended_half : ℕ → ℕ
extended_half bits = cast_unsigned w32 (cast_signed w16 (bits % 2 ^ 16))

-- the lower word of a product, which is the same with and without signs, and the upper word of the product without signs
abbrev pub low_product : ℕ → ℕ → ℕ
low_product one other = (one * other) % 2 ^ 32

abbrev pub high_product : ℕ → ℕ → ℕ
high_product one other = one * other / 2 ^ 32

-- the upper word of the product of signed values
unfoldable pub high_signed_product : ℕ → ℕ → ℕ
high_signed_product one other = cast_unsigned w64 (signed_value one *ℤ signed_value other) / 2 ^ 32

-- the quotient of signed values, rounded towards 0, has no 32 bits: the divisor is 0, or it is 2 ^ 31
abbrev pub has_no_quotient : ℕ → ℕ → Bool
has_no_quotient one other = (other == 0) || ((one == 2 ^ 31) && (other == 2 ^ 32 - 1))

-- what the architecture leaves open there is 0
unfoldable pub signed_quotient : ℕ → ℕ → ℕ
signed_quotient one other = if has_no_quotient one other then 0 else cast_unsigned w32 (int_div (signed_value one) (signed_value other))

unfoldable pub unsigned_quotient : ℕ → ℕ → ℕ
unsigned_quotient one other = if other == 0 then 0 else one / other

-- whether TO asks for a trap: by its bits, first to last, less, greater, equal, and less and greater without sign (section 3.3.10)
unfoldable pub traps : ℕ → ℕ → ℕ → Bool
traps asked one other =
    ((asked / 16 % 2 == 1) && int_lt (signed_value one) (signed_value other))
    || ((asked / 8 % 2 == 1) && int_lt (signed_value other) (signed_value one))
    || ((asked / 4 % 2 == 1) && (one == other))
    || ((asked / 2 % 2 == 1) && nat_lt one other)
    || ((asked / 1 % 2 == 1) && nat_lt other one)
