-- How the structure block spells tokens (ePAPR 1.1, 8.4 "Structure Block" and 8.5 "Strings Block").
use Rattle.std.specs.Prelude.{◌≡◌, IsTrue, ℕ, ◌-◌, ◌%◌, not, ◌==◌, List, [], ◌∷◌, ◌++◌, length, drop, replicate}
use Rattle.std.specs.List.{list_all}
use Rattle.byteorder.specs.Endian.{big_number}
use Rattle.dt_model.specs.Token.{Token, BeginNode, Prop, EndNode, Nop, Finish}

-- how many bytes are missing to a multiple of 4
abbrev pub padding : ℕ → ℕ
padding count = (4 - count % 4) % 4

-- with zeros up to a multiple of 4
abbrev pub padded : List ℕ → List ℕ
padded bytes = bytes ++ replicate (padding (length bytes)) 0

-- four bytes that are the number, the highest first
pub record IsWord (number : ℕ) (bytes : List ℕ) : Type 0 where
  pub length_is : length bytes ≡ 4
  pub number_is : big_number 4 bytes ≡ number

abbrev pub HasNoNul : List ℕ → Type 0
HasNoNul bytes = IsTrue (list_all (λ byte. not (byte == 0)) bytes)

-- the name and its NUL stand in the strings block, from that offset on
pub record Finds (strings : List ℕ) (offset : ℕ) (name : List ℕ) : Type 0 where
  pub plain : HasNoNul name
  pub rest : List ℕ
  pub parts : drop offset strings ≡ name ++ 0 ∷ rest

-- a word, and what comes behind it
pub record BeginsWith (number : ℕ) (bytes others : List ℕ) : Type 0 where
  pub word : List ℕ
  pub is_word : IsWord number word
  pub parts : bytes ≡ word ++ others

-- the word 1, the name with its NUL, and zeros
pub record SpellsBegin (name bytes : List ℕ) : Type 0 where
  pub plain : HasNoNul name
  pub spelled : BeginsWith 1 bytes (padded (name ++ 0 ∷ []))

-- The word 3, the value's length, an offset at which the strings have the name, the value, and zeros. Several offsets
-- may find one name.
pub record SpellsProperty (strings name value bytes : List ℕ) : Type 0 where
  pub offset : ℕ
  pub finds : Finds strings offset name
  pub behind_kind : List ℕ
  pub behind_length : List ℕ
  pub kind : BeginsWith 3 bytes behind_kind
  pub value_length : BeginsWith (length value) behind_kind behind_length
  pub name_offset : BeginsWith offset behind_length (padded value)

-- the bytes are the token
abbrev pub Spells : List ℕ → Token → List ℕ → Type 0
Spells strings (BeginNode name) bytes = SpellsBegin name bytes
Spells strings (Prop name value) bytes = SpellsProperty strings name value bytes
Spells strings EndNode bytes = IsWord 2 bytes
Spells strings Nop bytes = IsWord 4 bytes
Spells strings Finish bytes = IsWord 9 bytes

-- the tokens stand in the bytes one behind the other, and then the rest
abbrev pub SpellsAll : List ℕ → List Token → List ℕ → List ℕ → Type 0
SpellsAll strings [] bytes rest = bytes ≡ rest
SpellsAll strings (token ∷ tokens) bytes rest =
    (front : List ℕ) × (others : List ℕ) × (bytes ≡ front ++ others) × Spells strings token front × SpellsAll strings tokens others rest
