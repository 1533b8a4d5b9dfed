-- What a run comes to.
use Rattle.std.specs.Prelude.{ℕ, List, [], ◌++◌}
use Rattle.script.specs.Course.{Course, given_at as given_to, bytes_up_to}
use Rattle.network.specs.Network.{Network}
use Rattle.network.specs.World.{Line, Passage}
use Rattle.network.specs.Turn.{Script, given_at, run}
use Rattle.network.specs.Report.{act_lines, end_lines, report}
use Rattle.network.specs.Tally.{Tally, tally_of}
use Rattle.system.specs.declared.show.Show.{Show}
use Rattle.system.specs.declared.show.Show.TheVariants.{Acts, Quiet}
use Rattle.topaz_run.specs.declared.telling.Telling.{Telling}
use Rattle.topaz_run.specs.declared.telling.Telling.TheVariants.{Report, Summary}
use Rattle.topaz_run.specs.Text.{gen_line}
use Rattle.topaz_run.specs.Plan.{Outcome, Done}

-- what the lines of a script give a network
abbrev pub given_by : Course → Script
given_by course = record { schedule = course.schedule; inputs = λ console turn. bytes_up_to turn (given_to console course.inputs) }

-- the report of so many turns
unfoldable pub reported : Network → Script → ℕ → Outcome
reported network script turns = Done (report network script turns)

-- one line that counts what the steps of a run did
abbrev pub summary_line : ℕ → ℕ → Tally → List ℕ
summary_line number turns tally = gen_line number turns tally.lines tally.sent

-- that line in place of those of the steps, by all that each console was given up to the last turn
unfoldable pub summary_of : ℕ → Network → (ℕ → List ℕ) → ℕ → Passage → List ℕ
summary_of number network given turns done = summary_line number turns (tally_of done.lines) ++ end_lines network given done.after

-- the summary of the generated run of a number, of so many turns
unfoldable pub summed : ℕ → Network → Script → ℕ → Outcome
summed number network script turns = Done (summary_of number network (given_at script turns) turns (run network script turns))

-- the one or the other
abbrev pub told : Telling → Network → Script → ℕ → Outcome
told Report network script turns = reported network script turns
told (Summary number) network script turns = summed number network script turns

-- ---- what stands before the lines of the end

-- what is written of each turn
abbrev pub show_of : Telling → Show
show_of Report = Acts
show_of (Summary number) = Quiet

abbrev pub head_of : Telling → Network → ℕ → List Line → List ℕ
head_of Report network turns lines = act_lines network lines
head_of (Summary number) network turns lines = summary_line number turns (tally_of lines)

-- by what was written of the turns, and by what their steps came to
abbrev pub head_behind : Telling → ℕ → Tally → List ℕ → List ℕ
head_behind Report turns tally written = written
head_behind (Summary number) turns tally written = written ++ summary_line number turns tally
