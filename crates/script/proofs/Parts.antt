-- Where the first line of a text and the first word of a line end.
use Rattle.std.proofs.Common.{◌≡◌, ℕ, ◌+◌, ◌-◌, ◌<◌, ◌≤◌, Bool, true, false, cond, List, [], ◌∷◌, ◌++◌, length, take, drop, not, Bor, ne_eqb, zero, suc, take_all, length-drop, nat_lt, Option, Some, None, refl, ap, sym, ◌∙◌, subst, arith}
use Rattle.std.specs.Prelude.{◌==◌, position, is_some, option_copied}
use Rattle.std.specs.List.{All, onto_first, position_or_len, before_first, after_first}
use Rattle.std.proofs.lemmas.Bool.Decides.{nat_tests}
use Rattle.std.proofs.Math.Seq.{drop-length}
use Rattle.std.proofs.lemmas.Grind.{common_steps}
use Rattle.std.proofs.lemmas.List.Elements.{All-head, All-tail}
use Rattle.std.proofs.lemmas.List.Splits.{slice_split_first, slice_split_none, length-slice_split}
use Rattle.std.proofs.lemmas.List.Sums.{split_at_first, fails_before_first, passes_at_first}
use Rattle.script.specs.Text.{lines_of, words_of, words_left}

found : (n m place : ℕ) → cond (nat_lt n m) (Some n) None ≡ Some place → (n < m) × (n ≡ place)
found n m place e = grind (arith, nat_tests)

missing : (n m : ℕ) → cond (nat_lt n m) (Some n) None ≡ None → m ≤ n
missing n m e = grind (arith, nat_tests)

front_fails : (p : ℕ → Bool) (xs : List ℕ) → position_or_len p xs < length xs → All (λ x. p x ≡ false) (before_first p xs)
front_fails p xs l k e m = let k' = fails_before_first p xs k e (grind (arith, common_steps)) in grind (arith, common_steps)

all_fail : (p : ℕ → Bool) (xs : List ℕ) → length xs ≤ position_or_len p xs → All (λ x. p x ≡ false) xs
all_fail p xs l k e m = fails_before_first p xs k e (omega arith)

-- ---- lines

goes_on : (byte : ℕ) (text : List ℕ) → (byte == 10) ≡ false → lines_of (byte ∷ text) ≡ onto_first byte (lines_of text)
goes_on byte text e = ap (λ b. cond b ([] ∷ lines_of text) (onto_first byte (lines_of text))) e

ends : (byte : ℕ) (text : List ℕ) → (byte == 10) ≡ true → lines_of (byte ∷ text) ≡ [] ∷ lines_of text
ends byte text e = ap (λ b. cond b ([] ∷ lines_of text) (onto_first byte (lines_of text))) e

line_at : (line : List ℕ) (feed : ℕ) (text : List ℕ) → All (λ byte. (byte == 10) ≡ false) line → (feed == 10) ≡ true
    → lines_of (line ++ feed ∷ text) ≡ line ∷ lines_of text
line_at [] feed text h e = ends feed text e
line_at (byte ∷ line) feed text h e =
    goes_on byte (line ++ feed ∷ text) (All-head (λ b. (b == 10) ≡ false) byte line h)
    ∙ ap (onto_first byte) (line_at line feed text (All-tail (λ b. (b == 10) ≡ false) byte line h) e)

one_line : (byte : ℕ) (text : List ℕ) → All (λ byte. (byte == 10) ≡ false) (byte ∷ text) → lines_of (byte ∷ text) ≡ (byte ∷ text) ∷ []
one_line byte [] h = goes_on byte [] (All-head (λ b. (b == 10) ≡ false) byte [] h)
one_line byte (next ∷ text) h =
    goes_on byte (next ∷ text) (All-head (λ b. (b == 10) ≡ false) byte (next ∷ text) h)
    ∙ ap (onto_first byte) (one_line next text (All-tail (λ b. (b == 10) ≡ false) byte (next ∷ text) h))

-- the first line ends at the first line feed
pub lines_first : (text : List ℕ) (end : ℕ) → position (λ byte. byte == 10) text ≡ Some end → lines_of text ≡ take end text ∷ lines_of (drop (end + 1) text)
lines_first text end e =
    let p : ℕ → Bool = λ byte. byte == 10 in
    let f = found (position_or_len p text) (length text) end e in
    subst (λ (n : ℕ). lines_of text ≡ take n text ∷ lines_of (drop (n + 1) text)) f.1
    (ap lines_of (split_at_first p text 0 f.0) ∙ line_at (before_first p text) _ (after_first p text) (front_fails p text f.0) (passes_at_first p text 0 f.0))

-- without a line feed the text is one line
pub lines_only : (text : List ℕ) → 0 < length text → position (λ byte. byte == 10) text ≡ None → lines_of text ≡ text ∷ []
lines_only [] h e = absurd (omega arith)
lines_only (byte ∷ text) h e =
    let p : ℕ → Bool = λ byte. byte == 10 in
    one_line byte text (all_fail p (byte ∷ text) (missing (position_or_len p (byte ∷ text)) (length (byte ∷ text)) e))

-- ---- words

pub words_first : (line : List ℕ) (end : ℕ) → position (λ byte. byte == 32) line ≡ Some end → words_of line ≡ take end line ∷ words_of (drop (end + 1) line)
words_first line end e =
    let p : ℕ → Bool = λ byte. byte == 32 in
    let f = found (position_or_len p line) (length line) end e in
    subst (λ (n : ℕ). words_of line ≡ take n line ∷ words_of (drop (n + 1) line)) f.1 (slice_split_first p line 0 f.0)

pub words_only : (line : List ℕ) → position (λ byte. byte == 32) line ≡ None → words_of line ≡ line ∷ []
words_only line e =
    let p : ℕ → Bool = λ byte. byte == 32 in
    slice_split_none p line (all_fail p line (missing (position_or_len p line) (length line) e))

-- ---- what is left of a list

pub rest_whole : (n : ℕ) (xs : List ℕ) → take (length xs - n) (drop n xs) ≡ drop n xs
rest_whole n xs = take_all (length xs - n) (drop n xs) (omega (arith, length-drop n xs))

rest_nil : (n : ℕ) → take {A = ℕ} n [] ≡ []
rest_nil zero = refl
rest_nil (suc n) = refl

pub nothing_left : (xs : List ℕ) → take (length xs - length xs) (drop (length xs) xs) ≡ []
nothing_left xs = ap (take (length xs - length xs)) (drop-length xs) ∙ rest_nil (length xs - length xs)

-- a line has at least one word
pub some_word : (line : List ℕ) → 0 < length (words_of line)
some_word line = omega (arith, length-slice_split (λ byte. byte == 32) line)

pub none_left : (rest : Option (Bor (List ℕ))) (r : Bool) → is_some rest ≡ not r → r ≡ (length (words_left (option_copied rest)) == 0)
none_left None false e = cc
none_left None true e = refl
none_left (Some line) true e = cc
none_left (Some line) false e = sym (ne_eqb _ 0 (λ none. omega (arith, some_word line.now)))
