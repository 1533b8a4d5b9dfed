-- What is written of turns.
use Rattle.std.specs.Prelude.{◌≡◌, ℕ, ◌<◌, List, [], ◌∷◌, ◌++◌, length, slice_index_or, Option, Some, None}
use Rattle.machine_desc.specs.declared.desc.Desc.{Desc}
use Rattle.trace_text.specs.Acts.{act_text}
use Rattle.trace_text.specs.Ends.{state_word, end_line}
use Rattle.partition.specs.Lending.{Part}
use Rattle.network.specs.Network.{Network, no_desc}
use Rattle.network.specs.World.{Counts, World, Line}
use Rattle.network.specs.Entering.{waiting}
use Rattle.network.specs.Report.{act_lines, counts_line}
use Rattle.system.specs.declared.deed.Deed.{Deed}
use Rattle.system.specs.declared.show.Show.{Show}
use Rattle.system.specs.declared.show.Show.TheVariants.{Acts, Quiet}

-- the lines of steps, or nothing
abbrev pub shown : Show → Network → List Line → List ℕ
shown Acts network lines = act_lines network lines
shown Quiet network lines = []

-- so many bytes wait at each console, of all that it was given so far
abbrev pub Waits : Network → (ℕ → List ℕ) → World → List ℕ → Type 0
Waits network given world counts =
    (console : ℕ) → console < length network.wiring.consoles → slice_index_or counts console 0 ≡ length (waiting (given console) world.consoles console)

-- ---- a step's line

-- the step was that of one of so many partitions, if there was one
abbrev pub IsDeedOf : ℕ → Option Deed → Type 0
IsDeedOf count None = Unit {0}
IsDeedOf count (Some deed) = deed.part < count

abbrev pub deed_line : List Desc → Option Deed → List ℕ
deed_line descs None = []
deed_line descs (Some deed) = act_text (slice_index_or descs deed.part no_desc).name deed.step deed.act

abbrev pub shown_deed : Show → List Desc → Option Deed → List ℕ
shown_deed Acts descs deed = deed_line descs deed
shown_deed Quiet descs deed = []

-- ---- the lines behind the last turn

abbrev pub part_lines : List Part → List ℕ
part_lines [] = []
part_lines (part ∷ parts) = end_line part.desc.name (state_word part.inner.state) part.inner.steps ++ part_lines parts

-- by how many bytes wait at each console
abbrev pub console_lines : List (List ℕ) → List Counts → List ℕ → List ℕ
console_lines (name ∷ names) (counts ∷ others) (waits ∷ more) = counts_line name counts waits ++ console_lines names others more
console_lines _ _ _ = []
