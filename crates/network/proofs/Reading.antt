-- The lines that a text was made of are read from it.
use Rattle.std.proofs.Common.{◌≡◌, ℕ, zero, suc, ◌+◌, ◌/◌, ◌%◌, ◌≤◌, ◌==◌, Bool, true, false, not, ◌&&◌, ◌||◌, List, [], ◌∷◌, ◌++◌, get_or, refl, sym, ap, ◌∙◌, append_assoc, if◌then◌else◌, arith}
use Rattle.std.proofs.lemmas.Bool.{ne_eqb, false≢true, and_parts}
use Rattle.std.specs.Prelude.{nat_lt, flat_map, decimal}
use Rattle.std.specs.List.{list_all, onto_first}
use Rattle.std.specs.Fmt.{digits, digits_onto, digit_glyph}
use Rattle.hex.specs.Hex.{encode_lower, encode_with, lower_digits}
use Rattle.network.specs.Lines.{lines_in, words_in, is_line_of, if_line_of, lines_of}
use Rattle.network.specs.Laws.{is_plain}

-- ---- lines of words

-- words with one space between them
abbrev pub joined : List (List ℕ) → List ℕ
joined [] = []
joined (word ∷ []) = word
joined (word ∷ (other ∷ words)) = word ++ 32 ∷ joined (other ∷ words)

-- and with a line feed behind them
abbrev pub spelled : List (List ℕ) → List ℕ
spelled [] = 10 ∷ []
spelled (word ∷ []) = word ++ 10 ∷ []
spelled (word ∷ (other ∷ words)) = word ++ 32 ∷ spelled (other ∷ words)

abbrev pub text : List (List (List ℕ)) → List ℕ
text lines = flat_map spelled lines

abbrev pub are_plain : List ℕ → Bool
are_plain word = list_all is_plain word

abbrev pub all_plain : List (List ℕ) → Bool
all_plain words = list_all are_plain words

-- a line has a word, and its words are plain
abbrev pub is_line : List (List ℕ) → Bool
is_line [] = false
is_line (word ∷ words) = all_plain (word ∷ words)

abbrev pub are_lines : List (List (List ℕ)) → Bool
are_lines lines = list_all is_line lines

-- a line of that name
abbrev pub picked : List ℕ → List (List ℕ) → List ℕ
picked name words = if is_line_of name words then spelled words else []

spelled_is : (words : List (List ℕ)) → spelled words ≡ joined words ++ 10 ∷ []
spelled_is [] = refl
spelled_is (word ∷ []) = refl
spelled_is (word ∷ (other ∷ words)) =
    ap (λ (l : List ℕ). word ++ 32 ∷ l) (spelled_is (other ∷ words)) ∙ append_back word (joined (other ∷ words))
  where
    append_back : (a b : List ℕ) → a ++ 32 ∷ (b ++ 10 ∷ []) ≡ (a ++ 32 ∷ b) ++ 10 ∷ []
    append_back [] b = refl
    append_back (x ∷ a) b = ap (λ (l : List ℕ). x ∷ l) (append_back a b)

-- ---- where a byte isn't

abbrev lacks : ℕ → List ℕ → Bool
lacks at [] = true
lacks at (byte ∷ bytes) = if byte == at then false else lacks at bytes

if_parts : (b c : Bool) → (if b then false else c) ≡ true → (b ≡ false) × (c ≡ true)
if_parts true c h = absurd (false≢true h)
if_parts false c h = (refl, h)

not_either : (a b : Bool) → not (a || b) ≡ true → (a ≡ false) × (b ≡ false)
not_either true b h = absurd (false≢true h)
not_either false true h = absurd (false≢true h)
not_either false false h = (refl, refl)

plain_lacks_feed : (word : List ℕ) → are_plain word ≡ true → lacks 10 word ≡ true
plain_lacks_feed [] h = refl
plain_lacks_feed (byte ∷ word) h =
    let p = and_parts (is_plain byte) (are_plain word) h in let q = not_either (byte == 10) (byte == 32) p.0 in
    ap (λ (b : Bool). if b then false else lacks 10 word) q.0 ∙ plain_lacks_feed word p.1

plain_lacks_space : (word : List ℕ) → are_plain word ≡ true → lacks 32 word ≡ true
plain_lacks_space [] h = refl
plain_lacks_space (byte ∷ word) h =
    let p = and_parts (is_plain byte) (are_plain word) h in let q = not_either (byte == 10) (byte == 32) p.0 in
    ap (λ (b : Bool). if b then false else lacks 32 word) q.1 ∙ plain_lacks_space word p.1

lacks_both : (at : ℕ) (a b : List ℕ) → lacks at a ≡ true → lacks at b ≡ true → lacks at (a ++ b) ≡ true
lacks_both at [] b h k = k
lacks_both at (byte ∷ a) b h k =
    let p = if_parts (byte == at) (lacks at a) h in ap (λ (c : Bool). if c then false else lacks at (a ++ b)) p.0 ∙ lacks_both at a b p.1 k

joined_lacks : (words : List (List ℕ)) → all_plain words ≡ true → lacks 10 (joined words) ≡ true
joined_lacks [] h = refl
joined_lacks (word ∷ []) h = plain_lacks_feed word (and_parts (are_plain word) true h).0
joined_lacks (word ∷ (other ∷ words)) h =
    let p = and_parts (are_plain word) (all_plain (other ∷ words)) h in
    lacks_both 10 word (32 ∷ joined (other ∷ words)) (plain_lacks_feed word p.0) (joined_lacks (other ∷ words) p.1)

-- ---- words are read from a line

word_at : (word rest : List ℕ) → lacks 32 word ≡ true → words_in (word ++ 32 ∷ rest) ≡ word ∷ words_in rest
word_at [] rest h = refl
word_at (byte ∷ word) rest h =
    let p = if_parts (byte == 32) (lacks 32 word) h in
    ap (λ (b : Bool). if b then [] ∷ words_in (word ++ 32 ∷ rest) else onto_first byte (words_in (word ++ 32 ∷ rest))) p.0 ∙ ap (onto_first byte) (word_at word rest p.1)

word_last : (word : List ℕ) → lacks 32 word ≡ true → words_in word ≡ word ∷ []
word_last [] h = refl
word_last (byte ∷ word) h =
    let p = if_parts (byte == 32) (lacks 32 word) h in
    ap (λ (b : Bool). if b then [] ∷ words_in word else onto_first byte (words_in word)) p.0 ∙ ap (onto_first byte) (word_last word p.1)

words_read : (word : List ℕ) (words : List (List ℕ)) → all_plain (word ∷ words) ≡ true → words_in (joined (word ∷ words)) ≡ word ∷ words
words_read word [] h = word_last word (plain_lacks_space word (and_parts (are_plain word) true h).0)
words_read word (other ∷ words) h =
    let p = and_parts (are_plain word) (all_plain (other ∷ words)) h in
    word_at word (joined (other ∷ words)) (plain_lacks_space word p.0) ∙ ap (λ (l : List (List ℕ)). word ∷ l) (words_read other words p.1)

-- ---- lines are read from a text

line_at : (line rest : List ℕ) → lacks 10 line ≡ true → lines_in (line ++ 10 ∷ rest) ≡ line ∷ lines_in rest
line_at [] rest h = refl
line_at (byte ∷ line) rest h =
    let p = if_parts (byte == 10) (lacks 10 line) h in
    ap (λ (b : Bool). if b then [] ∷ lines_in (line ++ 10 ∷ rest) else onto_first byte (lines_in (line ++ 10 ∷ rest))) p.0 ∙ ap (onto_first byte) (line_at line rest p.1)

line_lacks : (words : List (List ℕ)) → is_line words ≡ true → lacks 10 (joined words) ≡ true
line_lacks [] h = refl
line_lacks (word ∷ words) h = joined_lacks (word ∷ words) h

line_picked : (name : List ℕ) (words : List (List ℕ)) → is_line words ≡ true → if_line_of name (joined words) ≡ picked name words
line_picked name [] h = absurd (false≢true h)
line_picked name (word ∷ words) h =
    ap (λ (w : List (List ℕ)). if is_line_of name w then joined (word ∷ words) ++ 10 ∷ [] else []) (words_read word words h)
    ∙ ap (λ (l : List ℕ). if is_line_of name (word ∷ words) then l else []) (sym (spelled_is (word ∷ words)))

-- The lines of a name in a text are those lines.
pub read_back : (name : List ℕ) (lines : List (List (List ℕ))) → are_lines lines ≡ true → lines_of name (text lines) ≡ flat_map (picked name) lines
read_back name [] h = refl
read_back name (line ∷ lines) h =
    let p = and_parts (is_line line) (are_lines lines) h in
    ap (lines_of name) (ap (λ (l : List ℕ). l ++ text lines) (spelled_is line) ∙ append_assoc (joined line) (10 ∷ []) (text lines))
    ∙ (ap (flat_map (if_line_of name)) (line_at (joined line) (text lines) (line_lacks line p.0))
    ∙ (ap (λ (l : List ℕ). l ++ flat_map (if_line_of name) (lines_in (text lines))) (line_picked name line p.0)
    ∙ ap (λ (l : List ℕ). picked name line ++ l) (read_back name lines p.1)))

-- ---- numbers and bytes are plain words

above_plain : (byte : ℕ) → 33 ≤ byte → is_plain byte ≡ true
above_plain byte h = rw (ne_eqb byte 10 (λ q. absurd (omega arith)), ne_eqb byte 32 (λ q. absurd (omega arith))) refl

glyph_plain : (digit : ℕ) → is_plain (digit_glyph false digit) ≡ true
glyph_plain digit = by_size (nat_lt digit 10)
  where
    by_size : (b : Bool) → is_plain (if b then 48 + digit else 87 + digit) ≡ true
    by_size true = above_plain (48 + digit) (omega arith)
    by_size false = above_plain (87 + digit) (omega arith)

pub plain_then : (byte : ℕ) (rest : List ℕ) → is_plain byte ≡ true → are_plain rest ≡ true → are_plain (byte ∷ rest) ≡ true
plain_then byte rest h k = ap (λ (b : Bool). b && are_plain rest) h ∙ k

plain_either : (b : Bool) (one other : List ℕ) → are_plain one ≡ true → are_plain other ≡ true → are_plain (if b then one else other) ≡ true
plain_either true one other h k = h
plain_either false one other h k = k

onto_plain : (fuel base n : ℕ) (rest : List ℕ) → are_plain rest ≡ true → are_plain (digits_onto fuel base false n rest) ≡ true
onto_plain zero base n rest h = h
onto_plain (suc fuel) base n rest h =
    let k = plain_then (digit_glyph false (n % base)) rest (glyph_plain (n % base)) h in
    plain_either (n / base == 0) (digit_glyph false (n % base) ∷ rest) (digits_onto fuel base false (n / base) (digit_glyph false (n % base) ∷ rest)) k
    (onto_plain fuel base (n / base) (digit_glyph false (n % base) ∷ rest) k)

pub decimal_plain : (n : ℕ) → are_plain (decimal n) ≡ true
unfolding digits
decimal_plain n = onto_plain 64 10 n [] refl

digit_plain : (digits : List ℕ) (i : ℕ) → are_plain digits ≡ true → is_plain (get_or digits i 0) ≡ true
digit_plain [] i h = refl
digit_plain (digit ∷ digits) zero h = (and_parts (is_plain digit) (are_plain digits) h).0
digit_plain (digit ∷ digits) (suc i) h = digit_plain digits i (and_parts (is_plain digit) (are_plain digits) h).1

pub hex_plain : (bytes : List ℕ) → are_plain (encode_lower bytes) ≡ true
unfolding encode_with
hex_plain [] = refl
hex_plain (byte ∷ bytes) =
    plain_then (get_or lower_digits (byte / 16) 0) (get_or lower_digits (byte % 16) 0 ∷ encode_with lower_digits bytes) (digit_plain lower_digits (byte / 16) refl)
    (plain_then (get_or lower_digits (byte % 16) 0) (encode_with lower_digits bytes) (digit_plain lower_digits (byte % 16) refl) (hex_plain bytes))
