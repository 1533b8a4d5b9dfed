-- The rules of scripts, and the first that a text breaks.
use Rattle.std.specs.Prelude.{◌≡◌, ℕ, ◌+◌, ◌||◌, Bool, nat_lt, nat_le, is_none, is_some, if◌then◌else◌, List, [], ◌∷◌, ◌++◌, length, Option, Some, None, ⊤}
use Rattle.std.specs.List.{list_any}
use Rattle.std.specs.Option.{option_map, option_or}
use Rattle.script.specs.declared.fault.ScriptFault.{ScriptFault}
use Rattle.script.specs.declared.fault.ScriptFault.TheVariants.{Rule, NoMemory}
use Rattle.script.specs.declared.names.Names.{Names}
use Rattle.script.specs.declared.line.Line.{Line}
use Rattle.script.specs.declared.line.Line.TheVariants.{Skipped, Order, At}
use Rattle.script.specs.Form.{last_core}
use Rattle.script.specs.Meaning.{meaning_of}
use Rattle.script.specs.Kept.{Kept, kept_of}

-- how many lines a script may have
abbrev pub most_lines : ℕ
most_lines = 65536

-- how many cores an `order` may have
abbrev pub most_cores : ℕ
most_cores = 1048576

-- S2: no console has the name
abbrev pub is_unknown : Option ℕ → Bool
is_unknown console = is_none console

-- S3: an `order` or an `at` stands before the `order`; turns are counted from 1
abbrev pub is_misplaced : Kept → Bool
is_misplaced before = is_some before.order || nat_lt 0 before.latest

-- S4: the turn is below that of a line before
abbrev pub falls_behind : Kept → ℕ → Bool
falls_behind before turn = nat_lt turn before.latest

-- S5: so many lines stand before it that it is one too many
abbrev pub is_late : Kept → Bool
is_late before = nat_le most_lines before.place

-- S6: no core has so high a number
abbrev pub is_above : List ℕ → Bool
is_above cores = list_any (nat_lt last_core) cores

-- what any line breaks there
abbrev pub late_fault : Kept → Option ℕ
late_fault before = if is_late before then Some 5 else None

-- the least rule that an `order` breaks
abbrev pub order_fault : Kept → List ℕ → Option ℕ
order_fault before cores =
    if is_misplaced before then Some 3
    else if is_late before || nat_lt most_cores (length cores) then Some 5
    else if is_above cores then Some 6
    else None

-- the least rule that an `at` breaks
abbrev pub input_fault : Kept → ℕ → Option ℕ → Option ℕ
input_fault before turn console = if is_unknown console then Some 2 else if falls_behind before turn then Some 4 else late_fault before

-- the least rule that a line breaks, by what it says and by the lines before it; S1: it has no form
unfoldable pub fault_of : Kept → Option Line → Option ℕ
fault_of before None = Some 1
fault_of before (Some Skipped) = late_fault before
fault_of before (Some (Order cores)) = order_fault before cores
fault_of before (Some (At turn console bytes)) = input_fault before turn console

-- a rule, and the line that breaks it, counted from 1
pub record Broken : Type 0 where
  pub number : ℕ
  pub line : ℕ

-- the least rule that a line breaks, and where
unfoldable pub broken_by : Kept → Option Line → Option Broken
broken_by before line = option_map (λ number. record { number = number; line = before.place + 1 }) (fault_of before line)

-- the same by its bytes, behind these lines
abbrev pub broken_at : Names → List (List ℕ) → List ℕ → Option Broken
broken_at names before line = broken_by (kept_of names before) (meaning_of names line)

-- the first of the lines that breaks a rule behind these
abbrev pub first_broken_from : Names → List (List ℕ) → List (List ℕ) → Option Broken
first_broken_from names before [] = None
first_broken_from names before (line ∷ lines) = option_or (broken_at names before line) (first_broken_from names (before ++ line ∷ []) lines)

-- the first of the lines that breaks a rule
abbrev pub first_broken : Names → List (List ℕ) → Option Broken
first_broken names lines = first_broken_from names [] lines

-- the fault says which rule is broken first; want of memory says nothing
abbrev pub Says : ScriptFault → Option Broken → Type 0
Says (Rule number line) first = first ≡ Some (record { number = number; line = line })
Says NoMemory first = ⊤
