-- What a script comes to: the schedule, and what each console is given.
use Rattle.std.specs.Prelude.{ℕ, ◌-◌, ◌%◌, ◌==◌, Bool, false, max, nat_le, if◌then◌else◌, List, [], ◌∷◌, length, map, filter, filter_map, flat_map, slice_get, Option, Some, None, unwrap_or}
use Rattle.std.specs.List.{range_with_len}
use Rattle.script.specs.declared.names.Names.{Names}
use Rattle.script.specs.declared.line.Line.{Line}
use Rattle.script.specs.declared.line.Line.TheVariants.{Skipped, Order, At}
use Rattle.script.specs.Meaning.{meaning_of}

-- bytes, and the turn from which on they are there
pub record Given : Type 0 where
  pub turn : ℕ
  pub bytes : List ℕ

-- ---- what lines say together

-- the greatest turn of an `at`, and 0 before the first
abbrev pub latest_turn : List Line → ℕ
latest_turn [] = 0
latest_turn (Skipped ∷ lines) = latest_turn lines
latest_turn (Order cores ∷ lines) = latest_turn lines
latest_turn (At turn console bytes ∷ lines) = max turn (latest_turn lines)

-- the cores of the first `order`
abbrev pub order_in : List Line → Option (List ℕ)
order_in [] = None
order_in (Skipped ∷ lines) = order_in lines
order_in (Order cores ∷ lines) = Some cores
order_in (At turn console bytes ∷ lines) = order_in lines

-- that place is named
abbrev pub is_place : ℕ → Option ℕ → Bool
is_place place None = false
is_place place (Some named) = named == place

-- what the line gives the console of that place
abbrev pub given_by : ℕ → Line → Option Given
given_by place Skipped = None
given_by place (Order cores) = None
given_by place (At turn console bytes) =
    if is_place place console then Some (record { turn = turn; bytes = bytes }) else None

-- what the console of that place is given, in the order of the lines
abbrev pub given_to : List Line → ℕ → List Given
given_to lines place = filter_map (given_by place) lines

-- the same for each of so many consoles
unfoldable pub given_by_lines : ℕ → List Line → List (List Given)
given_by_lines consoles lines = map (given_to lines) (range_with_len 0 consoles)

-- what the console of that place is given, of what each is
abbrev pub given_at : ℕ → List (List Given) → List Given
given_at place inputs = unwrap_or (slice_get inputs place) []

-- what those of the lines that have a form say
abbrev pub said : Names → List (List ℕ) → List Line
said names lines = filter_map (meaning_of names) lines

-- ---- the course

-- the cores of the schedule, and what each console is given
pub record Course : Type 0 where
  pub schedule : List ℕ
  pub inputs : List (List Given)

-- without an `order` each cpu of the hardware has its turn
unfoldable pub course_of : Names → List (List ℕ) → Course
course_of names lines = record {
  schedule = unwrap_or (order_in (said names lines)) names.cpus;
  inputs = given_by_lines (length names.consoles) (said names lines);
}

-- the core whose turn it is: the schedule goes round
abbrev pub core_in : List ℕ → ℕ → Option ℕ
core_in schedule turn = slice_get schedule ((turn - 1) % length schedule)

-- all bytes up to that turn
unfoldable pub bytes_up_to : ℕ → List Given → List ℕ
bytes_up_to turn inputs = flat_map (λ input. input.bytes) (filter (λ input. nat_le input.turn turn) inputs)
