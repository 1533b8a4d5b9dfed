-- What the bytes of a property's value mean (ePAPR 1.1, 2.2.4 "Properties").
use Rattle.std.specs.Prelude.{◌≡◌, IsTrue, ℕ, ◌-◌, Bool, ◌&&◌, nat_le, ◌==◌, if◌then◌else◌, List, [], ◌∷◌, ◌++◌, take, length, Option, Some, None}
use Rattle.std.specs.List.{list_all}
use Rattle.std.specs.Str.{bytes_eq}
use Rattle.byteorder.specs.Endian.{big_number}

-- four bytes, the highest first
abbrev pub u32_in : List ℕ → Option ℕ
u32_in value = if length value == 4 then Some (big_number 4 value) else None

-- eight bytes, the highest first
abbrev pub u64_in : List ℕ → Option ℕ
u64_in value = if length value == 8 then Some (big_number 8 value) else None

-- a byte from the space to the tilde
abbrev pub is_printable : ℕ → Bool
is_printable byte = nat_le 0x20 byte && nat_le byte 0x7e

-- between 1 and 255 bytes that can be printed
abbrev pub is_text : List ℕ → Bool
is_text text = nat_le 1 (length text) && nat_le (length text) 255 && list_all is_printable text

-- the value is this text and the NUL that ends it
abbrev pub IsTextValue : List ℕ → List ℕ → Type 0
IsTextValue value text = (value ≡ text ++ 0 ∷ []) × IsTrue (is_text text)

-- the text in a value: what stands before the NUL that ends it
unfoldable pub text_in : List ℕ → Option (List ℕ)
text_in value =
    let text = take (length value - 1) value in
    if bytes_eq value (text ++ 0 ∷ []) && is_text text then Some text else None
