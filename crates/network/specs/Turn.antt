-- Turns, and a run of turns.
use Rattle.std.specs.Prelude.{ℕ, zero, suc, ◌+◌, ◌-◌, ◌%◌, Bool, true, false, if◌then◌else◌, List, [], ◌∷◌, ◌++◌, length, map, flat_map, slice_get, Option, Some, None}
use Rattle.machine_desc.specs.declared.act.State.{State}
use Rattle.machine_desc.specs.declared.act.State.TheVariants.{Running}
use Rattle.machine_desc.specs.declared.desc.Span.{Span}
use Rattle.partition.specs.Regions.{areas_of}
use Rattle.partition.specs.Machine.{Machine}
use Rattle.partition.specs.Copying.{own_bytes}
use Rattle.partition.specs.Asking.{Asked, asks}
use Rattle.partition.specs.Step.{Stepped, step}
use Rattle.partition.specs.Reached.{Steps}
use Rattle.network.specs.Network.{Network, desc_at, Seat, owner_of}
use Rattle.network.specs.Change.{Moves}
use Rattle.network.specs.World.{World, Entry, entry_for, delivered, machine_at, opening_world, after_log, line_of, Passage, passed, and_then}
use Rattle.network.specs.Entering.{enter_all}
use Rattle.network.specs.Effects.{brought, shown, printed_by}

-- ---- a step in the network

-- the bytes of a range of a partition's memory
abbrev pub bytes_of : Network → List Machine → ℕ → Span → List ℕ
bytes_of network machines part range = own_bytes (areas_of (desc_at network part).regions) (machine_at machines part).memory range.at range.size

abbrev pub fed : Network → List Machine → Asked → List ℕ
fed network machines asked = flat_map (bytes_of network machines asked.part) asked.ranges

-- what a step copies out of a managed partition: the bytes of the ranges that it asks for
abbrev pub feed_for : Network → List Machine → ℕ → ℕ → List ℕ
feed_for network machines part core = fed network machines (asks (desc_at network part) (machine_at machines part) core)

abbrev pub done_by : Network → List Machine → ℕ → ℕ → Stepped
done_by network machines part core =
    step (desc_at network part) (machine_at machines part) core (feed_for network machines part core)

-- the step, then what others see of it in shared areas, then the events that its act brings
abbrev pub log_of : Network → List Machine → ℕ → ℕ → Stepped → List Entry
log_of network machines part core done =
    entry_for part (Moves (Steps core (feed_for network machines part core)))
    ∷ (shown network part done ++ map delivered (brought network machines part done.act))

abbrev pub after_step : Network → ℕ → ℕ → World → Stepped → Passage
after_step network part core world done = record {
  after = record {
    machines = after_log network (log_of network world.machines part core done) world.machines;
    consoles = printed_by network part done.act world.consoles;
  };
  log = log_of network world.machines part core done;
  lines = line_of part (record { step = done.after.inner.steps; act = done.act }) ∷ [];
}

-- a core of a partition does a step
unfoldable pub steps_in : Network → ℕ → ℕ → World → Passage
steps_in network part core world = after_step network part core world (done_by network world.machines part core)

-- ---- a turn

abbrev pub is_running : State → Bool
is_running Running = true
is_running _ = false

abbrev pub seat_turn : Network → Option Seat → World → Passage
seat_turn network None world = passed world
seat_turn network (Some seat) world =
    if is_running (machine_at world.machines seat.part).inner.state then steps_in network seat.part seat.core world else passed world

-- the turn of a core, by its physical number: it does a step where it is a core of a running partition
abbrev pub core_turn : Network → Option ℕ → World → Passage
core_turn network None world = passed world
core_turn network (Some number) world = seat_turn network (owner_of network number) world

-- the core whose turn it is: the schedule goes round, and an empty one gives turns to none
abbrev pub core_in : List ℕ → ℕ → Option ℕ
core_in schedule number = slice_get schedule ((number - 1) % length schedule)

-- what is given to a run from outside
pub record Script : Type 0 where
  -- of physical numbers of cores
  pub schedule : List ℕ
  -- all the bytes that a console is given up to a turn
  pub inputs : ℕ → ℕ → List ℕ

-- what each console is given up to a turn
abbrev pub given_at : Script → ℕ → ℕ → List ℕ
given_at script number console = script.inputs console number

-- The turn of this number, from 1: bytes enter from the consoles in their order, and then the core whose turn it is does a step.
unfoldable pub turn : Network → Script → ℕ → World → Passage
turn network script number world =
    and_then (enter_all network (given_at script number) 0 (length network.wiring.consoles) world) (core_turn network (core_in script.schedule number))

-- ---- a run

-- so many turns, from this one on
abbrev pub turns_from : Network → Script → ℕ → ℕ → World → Passage
turns_from network script number zero world = passed world
turns_from network script number (suc more) world = and_then (turn network script number world) (turns_from network script (number + 1) more)

-- so many turns, from the first on
unfoldable pub run : Network → Script → ℕ → Passage
run network script turns = turns_from network script 1 turns (opening_world network)
