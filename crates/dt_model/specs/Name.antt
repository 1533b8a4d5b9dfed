-- Which names nodes and properties may have (ePAPR 1.1, 2.2.1.1 "Node Name Requirements" and 2.2.4.1 "Property Names").
use Rattle.std.specs.Prelude.{◌≡◌, ℕ, Bool, false, ◌&&◌, ◌||◌, not, nat_le, ◌==◌, List, [], ◌∷◌, length}
use Rattle.std.specs.List.{list_all, list_any}
use Rattle.std.specs.Str.{bytes_eq}

abbrev pub is_digit : ℕ → Bool
is_digit byte = nat_le 0x30 byte && nat_le byte 0x39

abbrev pub is_letter : ℕ → Bool
is_letter byte = (nat_le 0x41 byte && nat_le byte 0x5a) || (nat_le 0x61 byte && nat_le byte 0x7a)

-- digits, letters and , . _ + -
abbrev pub is_common_char : ℕ → Bool
is_common_char byte =
    is_digit byte || is_letter byte || byte == 0x2c || byte == 0x2e || byte == 0x5f || byte == 0x2b || byte == 0x2d

-- those, and the @ before a unit address
abbrev pub is_node_char : ℕ → Bool
is_node_char byte = is_common_char byte || byte == 0x40

-- those, and ? and #
abbrev pub is_property_char : ℕ → Bool
is_property_char byte = is_common_char byte || byte == 0x3f || byte == 0x23

abbrev pub begins_with_comma : List ℕ → Bool
begins_with_comma [] = false
begins_with_comma (byte ∷ bytes) = byte == 0x2c

-- 1 to 255 of these characters, and no comma at the front
unfoldable pub is_name_of : (ℕ → Bool) → List ℕ → Bool
is_name_of is_char name =
    nat_le 1 (length name) && nat_le (length name) 255 && list_all is_char name && not (begins_with_comma name)

abbrev pub is_node_name : List ℕ → Bool
is_node_name = is_name_of is_node_char

abbrev pub is_property_name : List ℕ → Bool
is_property_name = is_name_of is_property_char

-- the name is one of these
abbrev pub has : List (List ℕ) → List ℕ → Bool
has names name = list_any (λ other. bytes_eq other name) names

-- the same names, in whichever order
abbrev pub SameNames : List (List ℕ) → List (List ℕ) → Type 0
SameNames xs ys = (name : List ℕ) → has xs name ≡ has ys name
