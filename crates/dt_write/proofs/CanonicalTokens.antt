-- The structure block of a canonical blob spells the tree's tokens.
use Rattle.std.proofs.Common.{◌≡◌, ℕ, ◌+◌, ◌<◌, ◌≤◌, ◌^◌, Bool, true, false, ◌&&◌, ◌||◌, not, ◌==◌, nat_lt, List, [], ◌∷◌, ◌++◌, length, drop, replicate, Some, None, cond, refl, sym, ap, ◌∙◌, arith, append_assoc, append-nil, length-append}
use Rattle.std.specs.List.{list_all}
use Rattle.std.specs.Str.{bytes_eq}
use Rattle.std.proofs.lemmas.List.{drop_at, drop-drop}
use Rattle.std.proofs.lemmas.Bool.{eqb-true, ltb-false, and_parts}
use Rattle.std.proofs.lemmas.Slice.Eq.{bytes_eq-Decides}
use Rattle.byteorder.specs.Endian.{big_number}
use Rattle.byteorder.specs.Numbers.{big_number-reads_back, length-bytes_high_first}
use Rattle.dt_model.specs.Name.{has, is_name_of, is_node_name, is_node_char, is_property_char}
use Rattle.dt_model.specs.Token.{Token, BeginNode, Prop, EndNode, Nop, Finish}
use Rattle.dt_model.specs.Rule.{broken_by_begin, broken_by_property, first_broken, is_begun, is_inside, node_count, depth, children_back}
use Rattle.dt_model.specs.Spelling.{padding, padded, IsWord, HasNoNul, BeginsWith, Spells, SpellsAll}
use Rattle.dt_model.specs.Canonical.{word, with_name, names_after, offset_of, strings_of, spelling, structure_of}
use Rattle.dt_model.proofs.Rules.{or_else-is_none, cond-is_none}
use Rattle.dt_write.proofs.Whole.{more_names, has_with}

-- ---- words

is_word : (n : ℕ) → n < 2 ^ 32 → IsWord n (word n)
is_word n small = record {
  length_is = length-bytes_high_first 4 n;
  number_is = ap (big_number 4) (sym (append-nil (word n))) ∙ big_number-reads_back 4 n [] small;
}

begins : (n : ℕ) (rest : List ℕ) → n < 2 ^ 32 → BeginsWith n (word n ++ rest) rest
begins n rest small = record { word = word n; is_word = is_word n small; parts = refl }

-- ---- tests

not_both : (a b : Bool) → (a && not b) ≡ false → a ≡ true → b ≡ true
not_both true true h is = refl
not_both true false h is = absurd (cc)
not_both false b h is = absurd (cc)

undone : (b : Bool) → not b ≡ false → b ≡ true
undone true h = refl
undone false h = absurd (cc)

-- ---- names have no NUL

other_than_nul : (is_char : ℕ → Bool) (byte : ℕ) (b : Bool) → (byte == 0) ≡ b → is_char 0 ≡ false → is_char byte ≡ true → not b ≡ true
other_than_nul is_char byte false test zero is = refl
other_than_nul is_char byte true test zero is =
    let nul : byte ≡ 0 = eqb-true byte 0 test in
    let clash : false ≡ true = sym zero ∙ ap is_char (sym nul) ∙ is in absurd (cc)

no_nul : (is_char : ℕ → Bool) (name : List ℕ) → is_char 0 ≡ false → list_all is_char name ≡ true → HasNoNul name
no_nul is_char [] zero all = refl
no_nul is_char (byte ∷ name) zero all =
    let parts = and_parts (is_char byte) (list_all is_char name) all in
    rw (other_than_nul is_char byte _ refl zero parts.0) (no_nul is_char name zero parts.1)

plain_name : (is_char : ℕ → Bool) (name : List ℕ) → is_char 0 ≡ false → is_name_of is_char name ≡ true → HasNoNul name
unfolding is_name_of
plain_name is_char name zero is =
    let chars = and_parts _ _ ((and_parts _ _ is).0) in no_nul is_char name zero chars.1

empty_plain : (name : List ℕ) → nat_lt 0 (length name) ≡ false → HasNoNul name
empty_plain [] is = refl
empty_plain (byte ∷ name) is = absurd (omega (arith, ltb-false 0 (length (byte ∷ name)) is))

-- a token's name has no NUL
abbrev IsPlain : Token → Type 0
IsPlain (BeginNode name) = HasNoNul name
IsPlain (Prop name value) = HasNoNul name
IsPlain EndNode = Unit {0}
IsPlain Nop = Unit {0}
IsPlain Finish = Unit {0}

begin_plain : (before : List Token) (name : List ℕ) (b : Bool) → is_begun before ≡ b → broken_by_begin before name ≡ None → HasNoNul name
unfolding broken_by_begin
begin_plain before name true begun sound = plain_name is_node_char name refl (not_both _ _ (cond-is_none _ _ _ sound).0 begun)
begin_plain before name false begun sound =
    let count = cond (nat_lt 65535 (node_count before)) (Some 13) (cond (has (children_back 0 before) name) (Some 14) None) in
    let place = cond (cond (is_begun before) (not (is_inside before)) (nat_lt 0 (length name))) (Some 11) count in
    let depth_passed = cond-is_none (is_begun before && not (is_node_name name)) 9 (cond (nat_lt 31 (depth before)) (Some 10) place) sound in
    let place_passed = cond-is_none (nat_lt 31 (depth before)) 10 place depth_passed.1 in
    let root : cond (is_begun before) (not (is_inside before)) (nat_lt 0 (length name)) ≡ false =
    (cond-is_none (cond (is_begun before) (not (is_inside before)) (nat_lt 0 (length name))) 11 count place_passed.1).0 in
    empty_plain name (sym (ap (λ (b : Bool). cond b (not (is_inside before)) (nat_lt 0 (length name))) begun) ∙ root)

property_plain : (before : List Token) (name : List ℕ) → broken_by_property before name ≡ None → HasNoNul name
unfolding broken_by_property
property_plain before name sound = plain_name is_property_char name refl (undone _ (cond-is_none _ _ _ sound).0)

abbrev ArePlain : List Token → Type 0
ArePlain [] = Unit {0}
ArePlain (token ∷ tokens) = IsPlain token × ArePlain tokens

pub are_plain : (before tokens : List Token) → first_broken before tokens ≡ None → ArePlain tokens
are_plain before [] sound = tt
are_plain before (BeginNode name ∷ tokens) sound =
    let parts = or_else-is_none _ _ sound in (begin_plain before name _ refl parts.0, are_plain (BeginNode name ∷ before) tokens parts.1)
are_plain before (Prop name value ∷ tokens) sound =
    let parts = or_else-is_none _ _ sound in (property_plain before name parts.0, are_plain (Prop name value ∷ before) tokens parts.1)
are_plain before (EndNode ∷ tokens) sound = let parts = or_else-is_none _ _ sound in (tt, are_plain (EndNode ∷ before) tokens parts.1)
are_plain before (Nop ∷ tokens) sound = (tt, are_plain before tokens sound)
are_plain before (Finish ∷ tokens) sound = let parts = or_else-is_none _ _ sound in (tt, are_plain (Finish ∷ before) tokens parts.1)

-- ---- names are among the names

has_more : (names more : List (List ℕ)) (name : List ℕ) → has names name ≡ true → has (names ++ more) name ≡ true
has_more [] more name there = absurd (cc)
has_more (first ∷ names) more name there = more_by first names more name _ refl (has_more names more name) there
  where
    more_by : (first : List ℕ) (names more : List (List ℕ)) (name : List ℕ) (b : Bool) → bytes_eq first name ≡ b
        → (has names name ≡ true → has (names ++ more) name ≡ true) → (bytes_eq first name || has names name) ≡ true → (bytes_eq first name || has (names ++ more) name) ≡ true
    more_by first names more name true is others there = rw is refl
    more_by first names more name false is others there = rw is (others (sym (ap (λ (b : Bool). b || has names name) is) ∙ there))

-- a property's name is among these
abbrev IsNamed : List (List ℕ) → Token → Type 0
IsNamed names (BeginNode name) = Unit {0}
IsNamed names (Prop name value) = has names name ≡ true
IsNamed names EndNode = Unit {0}
IsNamed names Nop = Unit {0}
IsNamed names Finish = Unit {0}

abbrev AreNamed : List (List ℕ) → List Token → Type 0
AreNamed names [] = Unit {0}
AreNamed names (token ∷ tokens) = IsNamed names token × AreNamed names tokens

pub are_named : (seen : List (List ℕ)) (tokens : List Token) → AreNamed (names_after seen tokens) tokens
are_named seen [] = tt
are_named seen (Prop name value ∷ tokens) =
    let (more, joined) = more_names (with_name seen name) tokens in
    (ap (λ (ns : List (List ℕ)). has ns name) joined ∙ has_more (with_name seen name) more name (has_with seen name _ refl), are_named (with_name seen name) tokens)
are_named seen (BeginNode name ∷ tokens) = (tt, are_named seen tokens)
are_named seen (EndNode ∷ tokens) = (tt, are_named seen tokens)
are_named seen (Nop ∷ tokens) = (tt, are_named seen tokens)
are_named seen (Finish ∷ tokens) = (tt, are_named seen tokens)

-- ---- a name is found at its offset

found_by : (first : List ℕ) (names : List (List ℕ)) (name : List ℕ) (b : Bool) → bytes_eq first name ≡ b
    → (has names name ≡ true → (rest : List ℕ) × (drop (offset_of names name) (strings_of names) ≡ name ++ 0 ∷ rest))
    → (bytes_eq first name || has names name) ≡ true
    → (rest : List ℕ) × (drop (cond (bytes_eq first name) 0 (length first + 1 + offset_of names name)) ((first ++ 0 ∷ []) ++ strings_of names) ≡ name ++ 0 ∷ rest)
found_by first names name true is others there =
    let same : first ≡ name = (bytes_eq-Decides first name).0 is in
    (strings_of names, ap (λ (b : Bool). drop (cond b 0 (length first + 1 + offset_of names name)) ((first ++ 0 ∷ []) ++ strings_of names)) is ∙ (append_assoc first (0 ∷ []) (strings_of names) ∙ ap (λ (l : List ℕ). l ++ 0 ∷ strings_of names) same))
found_by first names name false is others there =
    let (rest, found) = others (sym (ap (λ (b : Bool). b || has names name) is) ∙ there) in
    let n = offset_of names name in
    let front : length (first ++ 0 ∷ []) ≡ length first + 1 = omega (arith, length-append first (0 ∷ [])) in
    let behind : drop (length first + 1 + n) ((first ++ 0 ∷ []) ++ strings_of names) ≡ name ++ 0 ∷ rest =
    sym (drop-drop n (length first + 1) ((first ++ 0 ∷ []) ++ strings_of names))
    ∙ ap (drop n) (drop_at (first ++ 0 ∷ []) (strings_of names) (length first + 1) front) ∙ found in
    (rest, ap (λ (b : Bool). drop (cond b 0 (length first + 1 + n)) ((first ++ 0 ∷ []) ++ strings_of names)) is ∙ behind)

found_at : (names : List (List ℕ)) (name : List ℕ) → has names name ≡ true → (rest : List ℕ) × (drop (offset_of names name) (strings_of names) ≡ name ++ 0 ∷ rest)
found_at [] name there = absurd (cc)
found_at (first ∷ names) name there = found_by first names name _ refl (found_at names name) there

offset_by : (first : List ℕ) (names : List (List ℕ)) (name : List ℕ) (b : Bool) → bytes_eq first name ≡ b
    → offset_of names name ≤ length (strings_of names) → offset_of (first ∷ names) name ≤ length (strings_of (first ∷ names))
offset_by first names name true is others = rw is (omega arith)
offset_by first names name false is others =
    rw is (omega (arith, length-append (first ++ 0 ∷ []) (strings_of names), length-append first (0 ∷ [])))

offset_small : (names : List (List ℕ)) (name : List ℕ) → offset_of names name ≤ length (strings_of names)
offset_small [] name = omega arith
offset_small (first ∷ names) name = offset_by first names name _ refl (offset_small names name)

-- ---- numbers are small

abbrev IsSmall : Token → Type 0
IsSmall (BeginNode name) = Unit {0}
IsSmall (Prop name value) = length value < 2 ^ 32
IsSmall EndNode = Unit {0}
IsSmall Nop = Unit {0}
IsSmall Finish = Unit {0}

abbrev AreSmall : List Token → Type 0
AreSmall [] = Unit {0}
AreSmall (token ∷ tokens) = IsSmall token × AreSmall tokens

value_small : (names : List (List ℕ)) (name value rest : List ℕ) → length (spelling names (Prop name value) ++ rest) < 2 ^ 32 → length value < 2 ^ 32
unfolding spelling
value_small names name value rest small = omega (
  arith,
  length-append (spelling names (Prop name value)) rest,
  length-append (word 3) (word (length value) ++ (word (offset_of names name) ++ padded value)),
  length-append (word (length value)) (word (offset_of names name) ++ padded value),
  length-append (word (offset_of names name)) (padded value),
  length-append value (replicate (padding (length value)) 0),
)

pub are_small : (names : List (List ℕ)) (tokens : List Token) → length (structure_of names tokens) < 2 ^ 32 → AreSmall tokens
are_small names [] small = tt
are_small names (token ∷ tokens) small =
    (one token small, are_small names tokens (omega (arith, length-append (spelling names token) (structure_of names tokens))))
  where
    one : (token : Token) → length (spelling names token ++ structure_of names tokens) < 2 ^ 32 → IsSmall token
    one (BeginNode name) small = tt
    one (Prop name value) small = value_small names name value (structure_of names tokens) small
    one EndNode small = tt
    one Nop small = tt
    one Finish small = tt

-- ---- spelling

spells : (names : List (List ℕ)) (token : Token) → length (strings_of names) < 2 ^ 32 → IsPlain token → IsNamed names token → IsSmall token
    → Spells (strings_of names) token (spelling names token)
unfolding spelling
spells names (BeginNode name) few plain named small = record { plain = plain; spelled = begins 1 (padded (name ++ 0 ∷ [])) (omega arith) }
spells names (Prop name value) few plain named small =
    let (rest, found) = found_at names name named in
    record {
      offset = offset_of names name;
      finds = record { plain = plain; rest = rest; parts = found };
      behind_kind = word (length value) ++ (word (offset_of names name) ++ padded value);
      behind_length = word (offset_of names name) ++ padded value;
      kind = begins 3 (word (length value) ++ (word (offset_of names name) ++ padded value)) (omega arith);
      value_length = begins (length value) (word (offset_of names name) ++ padded value) small;
      name_offset = begins (offset_of names name) (padded value) (omega (arith, offset_small names name));
    }
spells names EndNode few plain named small = is_word 2 (omega arith)
spells names Nop few plain named small = is_word 4 (omega arith)
spells names Finish few plain named small = is_word 9 (omega arith)

pub spells_all : (names : List (List ℕ)) (tokens : List Token) → length (strings_of names) < 2 ^ 32 → ArePlain tokens → AreNamed names tokens → AreSmall tokens
    → SpellsAll (strings_of names) tokens (structure_of names tokens) []
spells_all names [] few plain named small = refl
spells_all names (token ∷ tokens) few plain named small =
    (spelling names token, structure_of names tokens, refl, spells names token few plain.0 named.0 small.0, spells_all names tokens few plain.1 named.1 small.1)
