-- What a system of partitions holds, and what of it callers see.
use Rattle.std.specs.Prelude.{◌≡◌, ℕ, ◌+◌, ◌*◌, ◌<◌, ◌≤◌, Bool, not, List, [], length, map, slice_index_or, sum_by}
use Rattle.std.specs.List.{list_all, range_with_len}
use Rattle.byte_channel.specs.Waiting.{Waiting, most_waiting, waiting_at}
use Rattle.machine_desc.specs.declared.desc.Desc.{Desc}
use Rattle.machine_desc.specs.declared.wiring.Wiring.{Wiring}
use Rattle.machine_desc.specs.Joined.{AreJoined}
use Rattle.ground.specs.Own.{own_of}
use Rattle.fresh_load.specs.Fresh.{fresh_memory}
use Rattle.fresh_load.specs.Placed.{ArePlaced, extents_of}
use Rattle.partition.specs.Machine.{Machine, fresh_inner, most_steps}
use Rattle.partition.specs.Lending.{Part, machine_of}
use Rattle.network.specs.Network.{Network, no_desc}
use Rattle.network.specs.World.{Counts, World, counts_at}
use Rattle.network.specs.Tally.{Tally}
use Rattle.network.specs.Turn.{is_running}
use Rattle.system.specs.Board.{Lines, channel_at, console_room, ends_of, wires_at}
use Rattle.system.specs.Wired.{all_wires, console_side, regions_of}

pub record Held : Type 0 where
  pub parts : List Part
  -- the real memory of all of them
  pub memory : List (List ℕ)
  pub lines : Lines
  pub wiring : Wiring
  -- by console
  pub counts : List Counts

-- ---- what callers see

abbrev pub fresh_part : Desc → Part
fresh_part desc = record { desc = desc; inner = fresh_inner desc }

-- where a list has no partition
abbrev pub no_part : Part
no_part = fresh_part no_desc

abbrev pub part_at : List Part → ℕ → Part
part_at parts part = slice_index_or parts part no_part

abbrev pub descs_of : List Part → List Desc
descs_of parts = map (λ (part : Part). part.desc) parts

abbrev pub network_of : Held → Network
network_of held = record { descs = descs_of held.parts; wiring = held.wiring }

-- the machine that a partition is with its ends of what all share
abbrev pub machine_by : Part → Lines → List (List ℕ) → ℕ → Machine
machine_by own lines memory part = machine_of own (ends_of lines.channels lines.running (wires_at lines.wires part)) memory

abbrev pub machine_in : Held → ℕ → Machine
machine_in held part = machine_by (part_at held.parts part) held.lines held.memory part

-- none of them runs
abbrev pub are_parts_at_rest : List Part → Bool
are_parts_at_rest parts = list_all (λ (part : Part). not (is_running part.inner.state)) parts

unfoldable pub machines_of : Held → List Machine
machines_of held = map (machine_in held) (range_with_len 0 (length held.parts))

abbrev pub world_of : Held → World
world_of held = record { machines = machines_of held; consoles = held.counts }

-- the network, the world that it is in, and what its steps came to so far
pub record Snapshot : Type 0 where
  pub network : Network
  pub world : World
  pub tally : Tally

abbrev pub snapshot_of : Tally → Held → Snapshot
snapshot_of tally held = record { network = network_of held; world = world_of held; tally = tally }

-- ---- what it keeps

-- a console takes at once, so that nothing waits at its end
abbrev pub AreTaken : Wiring → List Waiting → Type 0
AreTaken wiring channels =
    (console : ℕ) → console < length wiring.consoles
    → waiting_at (console_side wiring.links console).side (channel_at channels (console_side wiring.links console).link) ≡ []

-- how many steps all of them have done together
abbrev pub total_steps : List Part → ℕ
total_steps parts = sum_by (λ (part : Part). part.inner.steps) parts

-- What is counted follows the steps. A step prints at most 16 bytes, at one console; and what entered from a console since the last
-- step had room at the other end of its channel then.
pub record IsCounted (parts : List Part) (lines : Lines) (counts : List Counts) : Type 0 where
  pub steps : (part : ℕ) → part < length parts → (part_at parts part).inner.steps ≤ most_steps
  pub printed : (console : ℕ) → (counts_at counts console).printed ≤ 16 * total_steps parts
  pub entered : (console : ℕ) → (counts_at counts console).entered + console_room lines console ≤ most_waiting * (total_steps parts + 1)

-- a step has at most one line, and sends at most 16 bytes
pub record IsTallied (parts : List Part) (tally : Tally) : Type 0 where
  pub lines : tally.lines ≤ total_steps parts
  pub sent : tally.sent ≤ 16 * total_steps parts

-- The partitions are joined by the wiring, their handles lead to what it says, and each partition's regions have their extents.
pub record IsSystem (held : Held) : Type 0 where
  pub joined : AreJoined (descs_of held.parts) held.wiring
  pub wires : held.lines.wires ≡ all_wires held.wiring 0 (descs_of held.parts)
  pub running : length held.lines.running ≡ length held.parts
  pub channels : length held.lines.channels ≡ length held.wiring.links
  pub maps : held.lines.maps ≡ map regions_of (descs_of held.parts)
  pub consoles : held.lines.consoles ≡ map (console_side held.wiring.links) (range_with_len 0 (length held.wiring.consoles))
  pub counts : length held.counts ≡ length held.wiring.consoles
  pub placed : (part : ℕ) → part < length held.parts → ArePlaced held.memory (part_at held.parts part).desc.regions
  pub taken : AreTaken held.wiring held.lines.channels
  pub counted : IsCounted held.parts held.lines held.counts

-- what a console printed, and what entered from it, is less than this, in bytes
abbrev pub most_counted : ℕ
most_counted = 10000000000000000

-- ---- before the first turn

-- the program has partitions of one core so far
pub record HaveOneCore (descs : List Desc) : Type 0 where
  pub one : (part : ℕ) → part < length descs → length (slice_index_or descs part no_desc).cores ≡ 1

-- a partition's memory is as it begins
pub record IsLoaded (desc : Desc) (memory : List (List ℕ)) : Type 0 where
  pub placed : ArePlaced memory desc.regions
  pub fresh : own_of (extents_of desc.regions) memory ≡ fresh_memory desc

pub record AreLoaded (descs : List Desc) (memory : List (List ℕ)) : Type 0 where
  pub each : (part : ℕ) → part < length descs → IsLoaded (slice_index_or descs part no_desc) memory
