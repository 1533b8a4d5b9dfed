-- What a line of a script says.
use Rattle.std.specs.Prelude.{ℕ, ◌==◌, Bool, ◌||◌, if◌then◌else◌, List, [], ◌∷◌, length, slice_index, position, codes, Option, Some, None, option_and_then}
use Rattle.std.specs.Option.{option_map}
use Rattle.std.specs.Str.{bytes_eq}
use Rattle.script.specs.declared.names.Names.{Names}
use Rattle.script.specs.declared.line.Line.{Line}
use Rattle.script.specs.declared.line.Line.TheVariants.{Skipped, Order, At}
use Rattle.script.specs.Text.{words_of}
use Rattle.script.specs.Form.{core_of, turn_of, bytes_of}

-- it is empty, or begins with `#`
abbrev pub is_skipped : List ℕ → Bool
is_skipped line = length line == 0 || slice_index line 0 == 35

-- ---- `order`

-- each of the words is a core
abbrev pub cores_of : List (List ℕ) → Option (List ℕ)
cores_of [] = Some []
cores_of (word ∷ words) = option_and_then (λ core. option_map (λ cores. core ∷ cores) (cores_of words)) (core_of word)

-- one or more cores
unfoldable pub order_of : List (List ℕ) → Option Line
order_of [] = None
order_of (word ∷ words) = option_map Order (cores_of (word ∷ words))

-- ---- `at`

-- the place of the first console of that name
abbrev pub console_of : Names → List ℕ → Option ℕ
console_of names word = position (λ name. bytes_eq name word) names.consoles

-- what its three words say
abbrev pub input_of : Names → List ℕ → List ℕ → List ℕ → Option Line
input_of names turn console bytes =
    option_and_then (λ turn. option_map (λ bytes. At turn (console_of names console) bytes) (bytes_of bytes)) (turn_of turn)

-- a turn, a console's word of one byte or more, and bytes
unfoldable pub at_of : Names → List (List ℕ) → Option Line
at_of names (turn ∷ console ∷ bytes ∷ []) = if length console == 0 then None else input_of names turn console bytes
at_of names words = None

-- ---- lines

-- what the words say: the first tells which form it is
unfoldable pub said_by : Names → List (List ℕ) → Option Line
said_by names [] = None
said_by names (word ∷ words) =
    if bytes_eq word (codes "order") then order_of words else if bytes_eq word (codes "at") then at_of names words else None

-- what the line says, if it has a form
unfoldable pub meaning_of : Names → List ℕ → Option Line
meaning_of names line = if is_skipped line then Some Skipped else said_by names (words_of line)
