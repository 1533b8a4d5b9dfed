-- What the words of the command line ask for.
use Rattle.std.specs.Prelude.{ℕ, ◌≤◌, ⊤, List, [], ◌∷◌, Option, None, Some, if◌then◌else◌, codes}
use Rattle.std.specs.Option.{option_map}
use Rattle.std.specs.Str.{bytes_eq}
use Rattle.topaz_run.specs.Number.{number_of}

-- how many turns may be asked for
abbrev pub most_turns : ℕ
most_turns = 1000000000000

-- the largest number that makes a bundle
abbrev pub most_number : ℕ
most_number = 18446744073709551615

pub data Command : Type 0 where
  -- the built-in machine on the image of that name, for so many turns
  Bare : List ℕ → ℕ → Command
  -- the canonical blob of the tree in the file of that name
  Dtb : List ℕ → Command
  -- whether the configuration in the first file is accepted on the hardware in the second
  Check : List ℕ → List ℕ → Command
  -- the guest tree of the partition of that name, where the configuration is accepted
  Guest : List ℕ → List ℕ → List ℕ → Command
  -- the partitions of a configuration that is accepted, on the script in the third file, for so many turns
  Run : List ℕ → List ℕ → List ℕ → ℕ → Command
  -- the summary of the run of the bundle that the number makes, for so many turns
  Gen : ℕ → ℕ → Command

abbrev pub bare_of : List ℕ → List ℕ → Option Command
bare_of image turns = option_map (λ n. Bare image n) (number_of most_turns turns)

abbrev pub run_of : List ℕ → List ℕ → List ℕ → List ℕ → Option Command
run_of config hw script turns = option_map (λ n. Run config hw script n) (number_of most_turns turns)

-- by the number and the turns, where both are numbers
abbrev pub gen_by : Option ℕ → Option ℕ → Option Command
gen_by (Some number) (Some turns) = Some (Gen number turns)
gen_by _ _ = None

abbrev pub gen_of : List ℕ → List ℕ → Option Command
gen_of number turns = gen_by (number_of most_number number) (number_of most_turns turns)

-- `bare IMAGE N`, `check CONFIG HW` and `gen NUMBER N`
abbrev pub command_of_three : List ℕ → List ℕ → List ℕ → Option Command
command_of_three verb first second =
    if bytes_eq verb (codes "bare") then bare_of first second
    else if bytes_eq verb (codes "check") then Some (Check first second)
    else if bytes_eq verb (codes "gen") then gen_of first second
    else None

-- `run CONFIG HW SCRIPT N`
abbrev pub long_command_of : List (List ℕ) → Option Command
long_command_of (verb ∷ first ∷ second ∷ third ∷ fourth ∷ []) = if bytes_eq verb (codes "run") then run_of first second third fourth else None
long_command_of _ = None

-- `dtb FILE`, those of three words, `guest CONFIG HW NAME`, and those of five words; every other list asks for nothing
abbrev pub command_of : List (List ℕ) → Option Command
command_of (verb ∷ file ∷ []) = if bytes_eq verb (codes "dtb") then Some (Dtb file) else None
command_of (verb ∷ first ∷ second ∷ []) = command_of_three verb first second
command_of (verb ∷ first ∷ second ∷ third ∷ []) = if bytes_eq verb (codes "guest") then Some (Guest first second third) else None
command_of words = long_command_of words

-- the numbers of a command keep their limits
abbrev pub KeepsLimits : Command → Type 0
KeepsLimits (Bare image turns) = turns ≤ most_turns
KeepsLimits (Dtb file) = ⊤
KeepsLimits (Check config hw) = ⊤
KeepsLimits (Guest config hw name) = ⊤
KeepsLimits (Run config hw script turns) = turns ≤ most_turns
KeepsLimits (Gen number turns) = turns ≤ most_turns
