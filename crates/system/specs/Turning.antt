-- What the steps of a turn leave.
use Rattle.std.specs.Prelude.{◌≡◌, ℕ, zero, suc, ◌+◌, ◌<◌, ◌≤◌, ◌==◌, Bool, true, false, if◌then◌else◌, List, [], length, map, slice_set, Option, Some}
use Rattle.core_step.specs.declared.answer.Wrote.{Wrote}
use Rattle.core_step.specs.Access.{SameSizes}
use Rattle.ground.specs.Extents.{extent_at}
use Rattle.ground.specs.Own.{KeepsForeign}
use Rattle.machine_desc.specs.declared.act.Act.{Act as Told}
use Rattle.machine_desc.specs.declared.act.Act.TheVariants as told
use Rattle.machine_desc.specs.declared.act.State.TheVariants.{Stopped}
use Rattle.machine_desc.specs.declared.desc.Region.{Region}
use Rattle.machine_desc.specs.declared.wiring.End.{End}
use Rattle.machine_desc.specs.declared.wiring.End.TheVariants.{Part, Console}
use Rattle.machine_desc.specs.declared.wiring.Wiring.{Wiring}
use Rattle.machine_desc.specs.declared.wiring.PortRef.{PortRef}
use Rattle.machine_desc.specs.declared.wiring.Bell.{Bell}
use Rattle.copy_lists.specs.declared.list.SgEntry.{SgEntry}
use Rattle.copy_lists.specs.Pieces.{Piece, targets_of}
use Rattle.fresh_load.specs.Placed.{ArePlaced, extents_of, is_private_extent, sizes_of}
use Rattle.partition.specs.Port.{End as OwnEnd, emptied, kinds_of}
use Rattle.partition.specs.Act.{HasTotal, act_of, settled}
use Rattle.partition.specs.Copying.{Copy}
use Rattle.partition.specs.Asking.{Asked, asks, next_copy}
use Rattle.partition.specs.Event.{Event, apply}
use Rattle.partition.specs.Event as event
use Rattle.partition.specs.Step.{step}
use Rattle.partition.specs.Machine.{Machine}
use Rattle.partition.specs.Reservations.{with_copied, with_kept}
use Rattle.partition.specs.Interrupts.{bell_at, rung_by}
use Rattle.partition.specs.Lending.{Part as Member, Did, HasBytes, HasEntry, HasHandle, IsStepped, machine_of, pieces_of, written_into}
use Rattle.network.specs.Network.{ref_to, hears, far_end}
use Rattle.network.specs.World.{Counts, counts_at, machine_at}
use Rattle.network.specs.Effects.{count_printed}
use Rattle.system.specs.Board.{Lines, emptied_lines, fed_by, last_of, managed_by, own_ends, own_kinds, own_wire, printed_by, told_by, Copies, Sends, Takes}
use Rattle.network.specs.Turn.{done_by, steps_in}
use Rattle.system.specs.System.{Held, most_counted, part_at, machine_by, network_of, machines_of, world_of, total_steps, IsSystem}

-- the partition that the board was lent to did a step of a core, but for what it copied into another one
pub record AfterStep (before after : List Member) (old_memory new_memory : List (List ℕ)) (old new : Lines) (core : ℕ) (act : Told) (ranges : List Wrote) : Type 0 where
  pub parts : after ≡ slice_set before old.who (part_at after old.who)
  pub stepped : let machine : Machine = machine_by (part_at before old.who) old old_memory old.who in
      let asked : Asked = asks (part_at before old.who).desc machine core in
      IsStepped (extents_of (part_at before old.who).desc.regions) (pieces_of (part_at before old.who).desc.regions new_memory new.last)
      (step (part_at before old.who).desc machine core (fed_by old old_memory asked.handle asked.ranges))
      (machine_of (part_at after old.who) (settled (act_of [] act) (own_ends new)) new_memory) act ranges
  pub desc : (part_at after old.who).desc ≡ (part_at before old.who).desc
  pub counted : (part_at after old.who).inner.steps ≡ (part_at before old.who).inner.steps + 1
  pub others : KeepsForeign (extents_of (part_at before old.who).desc.regions) old_memory new_memory
  pub sizes : SameSizes old_memory new_memory
  pub bytes : HasBytes act
  pub entry : HasEntry act
  pub handle : HasHandle (kinds_of (part_at before old.who).desc.ports) act
  pub did : Did Sends Takes Copies last_of (next_copy (part_at before old.who).desc (machine_by (part_at before old.who) old old_memory old.who) core) old_memory act old new

-- the memory after a copy into another partition, by the regions of the caller
abbrev pub with_copy : Lines → List Region → Copy → Told → List (List ℕ) → List (List ℕ)
with_copy lines own last (told.CopyTo handle count) memory = written_into (told_by lines handle) own last.entries memory
with_copy lines own last _ memory = memory

-- and with that
pub record AfterCopy (before after : List Member) (old_memory new_memory : List (List ℕ)) (old new : Lines) (core : ℕ) (act : Told) (ranges : List Wrote) : Type 0 where
  -- before the copy
  pub memory : List (List ℕ)
  pub step : AfterStep before after old_memory memory old new core act ranges
  pub copied : new_memory ≡ with_copy old (part_at before old.who).desc.regions new.last act memory

-- a partition once others stored in these ranges
abbrev pub kept_part : List Wrote → Member → Member
kept_part stored part = record part { inner = record part.inner { cores = map (with_kept part.desc.regions stored) part.inner.cores } }

-- all partitions but one, once that one stored there
pub record Hears (who : ℕ) (stored : List Wrote) (before after : List Member) : Type 0 where
  pub count : length after ≡ length before
  pub each : (part : ℕ) → part < length before → part_at after part ≡ (if part == who then part_at before part else kept_part stored (part_at before part))

-- ---- doorbells

-- a partition once the doorbell of a handle rang
abbrev pub rung_at : ℕ → Member → Member
rung_at handle part = record part { inner = record part.inner { interrupts = rung_by (bell_at part.desc.ports handle) part.inner.interrupts } }

abbrev pub rung_if : Bool → ℕ → Member → Member
rung_if true handle part = rung_at handle part
rung_if false handle part = part

-- the partition of this number once so many of its handles, from 1 on, heard the ring of a sender
abbrev pub rung_upto : List Bell → PortRef → ℕ → ℕ → Member → Member
rung_upto bells sender number zero part = part
rung_upto bells sender number (suc count) part = rung_if (hears bells sender (ref_to number (suc count))) (suc count) (rung_upto bells sender number count part)

-- all partitions once they heard it
pub record Rings (bells : List Bell) (sender : PortRef) (before after : List Member) : Type 0 where
  pub count : length after ≡ length before
  pub each : (part : ℕ) → part < length before → part_at after part ≡ rung_upto bells sender part (length (part_at before part).desc.ports) (part_at before part)

-- ---- what the system does after an act

-- where the far end is a console, it took what waits
abbrev pub printed_lines : Option End → ℕ → Lines → Lines
printed_lines (Some (Console console)) handle lines = record lines { channels = printed_by lines.channels (own_wire lines handle) }
printed_lines _ handle lines = lines

abbrev pub marked_lines : Lines → ℕ → Bool → Lines
marked_lines lines managed runs = record lines { running = slice_set lines.running managed runs }

-- The partition of this number began anew by the event, but for its ends: what it received is still theirs to drop who lend them.
-- No other partition changed, and of the memory only what it has for itself.
pub record Begins (began : Event) (number : ℕ) (before after : List Member) (old_memory new_memory : List (List ℕ)) : Type 0 where
  pub parts : after ≡ slice_set before number (part_at after number)
  pub machine : (ends : List OwnEnd) → machine_of (part_at after number) (emptied ends) new_memory ≡ apply (part_at before number).desc (machine_of (part_at before number) ends old_memory) began
  pub desc : (part_at after number).desc ≡ (part_at before number).desc
  pub steps : (part_at after number).inner.steps ≡ (part_at before number).inner.steps
  pub others : (extent : ℕ) → is_private_extent (part_at before number).desc.regions extent ≡ false → extent_at new_memory extent ≡ extent_at old_memory extent
  pub sizes : sizes_of new_memory ≡ sizes_of old_memory

-- a partition that no longer runs
abbrev pub stopped_part : Member → Member
stopped_part part = record part { inner = record part.inner { state = Stopped } }

-- a partition into whose memory a manager copied by these entries
abbrev pub copied_part : List SgEntry → Member → Member
copied_part entries part = record part { inner = record part.inner { cores = map (with_copied (targets_of entries)) part.inner.cores } }

-- The partitions, their memory, the board and the counts of consoles are as before, but for what the act says.
abbrev pub Settles : Wiring → ℕ → Told → List Member → List Member → List (List ℕ) → List (List ℕ) → Lines → Lines → List Counts → List Counts → Type 0
Settles wiring who (told.Sent handle bytes) parts rung memory loaded lines left counts new =
    (rung ≡ parts) × (left ≡ printed_lines (far_end wiring.links (Part (ref_to who handle))) handle lines) × (new ≡ count_printed (far_end wiring.links (Part (ref_to who handle))) (length bytes.items) counts) × (loaded ≡ memory)
Settles wiring who (told.Rang handle) parts rung memory loaded lines left counts new = Rings wiring.bells (ref_to who handle) parts rung × (left ≡ lines) × (new ≡ counts) × (loaded ≡ memory)
Settles wiring who (told.Start handle entry load) parts rung memory loaded lines left counts new =
    Begins (event.Start entry load) (managed_by (own_wire lines handle)) parts rung memory loaded
    × (left ≡ emptied_lines (marked_lines lines (managed_by (own_wire lines handle)) true) (managed_by (own_wire lines handle))) × (new ≡ counts) × Unit {0}
Settles wiring who (told.Stop handle) parts rung memory loaded lines left counts new =
    (rung ≡ slice_set parts (managed_by (own_wire lines handle)) (stopped_part (part_at parts (managed_by (own_wire lines handle)))))
    × (left ≡ marked_lines lines (managed_by (own_wire lines handle)) false) × (new ≡ counts) × (loaded ≡ memory)
Settles wiring who (told.Restart handle) parts rung memory loaded lines left counts new =
    Begins event.Restart (managed_by (own_wire lines handle)) parts rung memory loaded
    × (left ≡ emptied_lines (marked_lines lines (managed_by (own_wire lines handle)) true) (managed_by (own_wire lines handle))) × (new ≡ counts) × Unit {0}
Settles wiring who (told.CopyTo handle count) parts rung memory loaded lines left counts new =
    (rung ≡ slice_set parts (managed_by (own_wire lines handle)) (copied_part lines.last.entries (part_at parts (managed_by (own_wire lines handle)))))
    × (left ≡ lines) × (new ≡ counts) × (loaded ≡ memory)
Settles wiring who told.SelfRestart parts rung memory loaded lines left counts new = (rung ≡ parts) × (left ≡ emptied_lines lines who) × (new ≡ counts) × (loaded ≡ memory)
Settles wiring who told.SelfStop parts rung memory loaded lines left counts new = (rung ≡ parts) × (left ≡ marked_lines lines who false) × (new ≡ counts) × (loaded ≡ memory)
Settles wiring who told.Faulted parts rung memory loaded lines left counts new = (rung ≡ parts) × (left ≡ marked_lines lines who false) × (new ≡ counts) × (loaded ≡ memory)
Settles wiring who act parts rung memory loaded lines left counts new = (rung ≡ parts) × (left ≡ lines) × (new ≡ counts) × (loaded ≡ memory)

-- a console at a far end is one of so many
abbrev pub HasConsole : ℕ → Option End → Type 0
HasConsole count (Some (Console console)) = console < count
HasConsole count _ = Unit {0}

-- the regions of each partition have their extents
abbrev pub AreAllPlaced : List Member → List (List ℕ) → Type 0
AreAllPlaced parts memory = (part : ℕ) → part < length parts → ArePlaced memory (part_at parts part).desc.regions

-- What an act needs of those who settle it: its handle, its bytes and its entry are such as a step has, and the partitions, their
-- memory, the board and the counts of consoles fit one another.
pub record Asks (wiring : Wiring) (act : Told) (parts : List Member) (memory : List (List ℕ)) (lines : Lines) (counts : List Counts) : Type 0 where
  pub who : lines.who < length lines.wires
  pub count : length parts ≡ length lines.wires
  pub placed : AreAllPlaced parts memory
  pub handle : HasHandle (own_kinds lines) act
  pub bytes : HasBytes act
  pub entry : HasEntry act
  pub consoles : (handle : ℕ) → HasConsole (length counts) (far_end wiring.links (Part (ref_to lines.who handle)))
  pub few : (console : ℕ) → (counts_at counts console).printed < most_counted

-- ---- the whole

-- A step with all that it brings is that of the definition.
pub record Turns (old new : Held) (core : ℕ) (act : Told) : Type 0 where
  pub system : IsSystem new
  pub network : network_of new ≡ network_of old
  pub world : world_of new ≡ (steps_in (network_of old) old.lines.who core (world_of old)).after
  pub pieces : List Piece
  pub did : (done_by (network_of old) (machines_of old) old.lines.who core).act ≡ act_of pieces act
  pub total : HasTotal pieces act
  pub bytes : HasBytes act
  pub counted : (part : ℕ) → (machine_at (machines_of new) part).inner.steps ≤ (machine_at (machines_of old) part).inner.steps + 1
  pub rises : total_steps new.parts ≡ total_steps old.parts + 1

-- the others heard of a step's stores, and then the act was settled
pub record Follows (wiring : Wiring) (who : ℕ) (act : Told) (stored : List Wrote) (parts rung : List Member) (memory loaded : List (List ℕ)) (lines left : Lines) (counts new : List Counts) : Type 0 where
  pub heard : List Member
  pub hears : Hears who stored parts heard
  pub settles : Settles wiring who act heard rung memory loaded lines left counts new

abbrev pub held_of : List Member → List (List ℕ) → Lines → Wiring → List Counts → Held
held_of parts memory lines wiring counts = record { parts = parts; memory = memory; lines = lines; wiring = wiring; counts = counts }
