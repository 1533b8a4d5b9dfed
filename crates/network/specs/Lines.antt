-- The lines of a text that are a partition's, found by its name.
use Rattle.std.specs.Prelude.{ℕ, ◌==◌, Bool, false, ◌&&◌, ◌||◌, if◌then◌else◌, List, [], ◌∷◌, ◌++◌, codes, bytes_eq, flat_map}
use Rattle.std.specs.List.{slice_split, onto_first}

-- each without its line feed
abbrev pub lines_in : List ℕ → List (List ℕ)
lines_in [] = []
lines_in (byte ∷ text) = if byte == 10 then [] ∷ lines_in text else onto_first byte (lines_in text)

abbrev pub is_space : ℕ → Bool
is_space byte = byte == 32

abbrev pub words_in : List ℕ → List (List ℕ)
words_in line = slice_split is_space line

abbrev pub begins_with : List ℕ → List (List ℕ) → Bool
begins_with name [] = false
begins_with name (word ∷ words) = bytes_eq word name

-- `end` and then the name
abbrev pub ends_with : List ℕ → List (List ℕ) → Bool
ends_with name [] = false
ends_with name (word ∷ words) = bytes_eq word (codes "end") && begins_with name words

-- a line whose first word is the name, or its end line
abbrev pub is_line_of : List ℕ → List (List ℕ) → Bool
is_line_of name words = begins_with name words || ends_with name words

abbrev pub if_line_of : List ℕ → List ℕ → List ℕ
if_line_of name line = if is_line_of name (words_in line) then line ++ 10 ∷ [] else []

-- the lines of a name in a text
abbrev pub lines_of : List ℕ → List ℕ → List ℕ
lines_of name text = flat_map (if_line_of name) (lines_in text)
