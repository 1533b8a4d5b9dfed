-- What a network holds, and how it goes on: by a log of changes.
use Rattle.std.specs.Prelude.{ℕ, ◌==◌, if◌then◌else◌, List, [], ◌∷◌, ◌++◌, map, flat_map, replicate, length, slice_index_or, slice_set}
use Rattle.partition.specs.Event.{Event}
use Rattle.partition.specs.Machine.{Machine, fresh}
use Rattle.partition.specs.Reached.{Move, Takes}
use Rattle.network.specs.Network.{Network, no_desc, desc_at}
use Rattle.network.specs.Change.{Change, Moves, Traced, changed, move_in}

-- what a console printed, and what entered from it, in bytes since the first turn
pub record Counts : Type 0 where
  pub printed : ℕ
  pub entered : ℕ

-- What a system keeps of its partitions, of areas, and of consoles. The bytes of a shared area are those that each machine has that
-- maps it.
pub record World : Type 0 where
  -- by partition
  pub machines : List Machine
  -- by console
  pub consoles : List Counts

-- a partition that there isn't does no step
abbrev pub machine_at : List Machine → ℕ → Machine
machine_at machines part = slice_index_or machines part (fresh no_desc)

abbrev pub no_counts : Counts
no_counts = record { printed = 0; entered = 0 }

abbrev pub counts_at : List Counts → ℕ → Counts
counts_at consoles console = slice_index_or consoles console no_counts

-- before the first turn
unfoldable pub opening_world : Network → World
opening_world network = record { machines = map fresh network.descs; consoles = replicate (length network.wiring.consoles) no_counts }

-- ---- the log

-- what happens to which partition's machine
pub record Entry : Type 0 where
  pub part : ℕ
  pub change : Change

abbrev pub entry_for : ℕ → Change → Entry
entry_for part change = record { part = part; change = change }

-- an event, and whose it is
pub record Delivery : Type 0 where
  pub part : ℕ
  pub event : Event

abbrev pub to_part : ℕ → Event → Delivery
to_part part event = record { part = part; event = event }

abbrev pub delivered : Delivery → Entry
delivered delivery = entry_for delivery.part (Moves (Takes delivery.event))

abbrev pub after_entry : Network → Entry → List Machine → List Machine
after_entry network entry machines =
    slice_set machines entry.part (changed (desc_at network entry.part) entry.change (machine_at machines entry.part))

-- the machines after a log, its first entry first
abbrev pub after_log : Network → List Entry → List Machine → List Machine
after_log network [] machines = machines
after_log network (entry ∷ log) machines = after_log network log (after_entry network entry machines)

-- the changes of one partition, and its moves
abbrev pub changes_of : ℕ → List Entry → List Change
changes_of part [] = []
changes_of part (entry ∷ log) = if entry.part == part then entry.change ∷ changes_of part log else changes_of part log

abbrev pub moves_of : ℕ → List Entry → List Move
moves_of part log = flat_map move_in (changes_of part log)

-- ---- from one world to another

-- what a step did, and whose it was
pub record Line : Type 0 where
  pub part : ℕ
  pub traced : Traced

abbrev pub line_of : ℕ → Traced → Line
line_of part traced = record { part = part; traced = traced }

-- what the steps of one partition did
abbrev pub trace_in : ℕ → List Line → List Traced
trace_in part [] = []
trace_in part (line ∷ lines) = if line.part == part then line.traced ∷ trace_in part lines else trace_in part lines

pub record Passage : Type 0 where
  pub after : World
  -- all that happened to machines
  pub log : List Entry
  -- all that steps did
  pub lines : List Line

-- nothing happens
abbrev pub passed : World → Passage
passed world = record { after = world; log = []; lines = [] }

-- one passage and what comes behind it
abbrev pub and_then : Passage → (World → Passage) → Passage
and_then first rest = record {
  after = (rest first.after).after;
  log = first.log ++ (rest first.after).log;
  lines = first.lines ++ (rest first.after).lines;
}
