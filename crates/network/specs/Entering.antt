-- How bytes come into the network: a console's waiting bytes enter as far as there is room.
use Rattle.std.specs.Prelude.{ℕ, zero, suc, ◌+◌, ◌-◌, min, List, [], ◌∷◌, length, map, take, drop, slice_set, Option, Some}
use Rattle.machine_desc.specs.declared.wiring.PortRef.{PortRef}
use Rattle.machine_desc.specs.declared.wiring.End.{End}
use Rattle.machine_desc.specs.declared.wiring.End.TheVariants.{Part, Console}
use Rattle.partition.specs.Port.{channel_size, end_at}
use Rattle.partition.specs.Event.{Bytes}
use Rattle.partition.specs.Machine.{Machine}
use Rattle.network.specs.Network.{Network, far_end}
use Rattle.network.specs.World.{Counts, World, Delivery, to_part, delivered, machine_at, counts_at, after_log, Passage, passed, and_then}

-- how many more received bytes a handle has room for
abbrev pub received_room : List Machine → PortRef → ℕ
received_room machines ref = channel_size - length (end_at (machine_at machines ref.part).ports ref.handle).received

-- all of them are one event, and none are no event
abbrev pub come_to : PortRef → List ℕ → List Delivery
come_to ref [] = []
come_to ref (byte ∷ bytes) = to_part ref.part (Bytes ref.handle (byte ∷ bytes)) ∷ []

-- so many more bytes entered from a console
abbrev pub count_entered : ℕ → ℕ → List Counts → List Counts
count_entered console count consoles =
    slice_set consoles console (record (counts_at consoles console) { entered = (counts_at consoles console).entered + count })

-- at the other end of its channel, for which there is so much room
abbrev pub entered : Network → PortRef → ℕ → ℕ → List ℕ → World → Passage
entered network ref room console bytes world = record {
  after = record {
    machines = after_log network (map delivered (come_to ref (take room bytes))) world.machines;
    consoles = count_entered console (min room (length bytes)) world.consoles;
  };
  log = map delivered (come_to ref (take room bytes));
  lines = [];
}

abbrev pub entered_at : Network → Option End → ℕ → List ℕ → World → Passage
entered_at network (Some (Part ref)) console bytes world = entered network ref (received_room world.machines ref) console bytes world
entered_at network _ console bytes world = passed world

-- Of these bytes, which wait at a console, as many enter as there is room for.
unfoldable pub enter : Network → ℕ → List ℕ → World → Passage
enter network console bytes world = entered_at network (far_end network.wiring.links (Console console)) console bytes world

-- what waits at a console, of all the bytes that it was given so far
abbrev pub waiting : List ℕ → List Counts → ℕ → List ℕ
waiting given consoles console = drop (counts_at consoles console).entered given

-- so many consoles one after the other, from this one on, each by all that it was given so far
abbrev pub enter_all : Network → (ℕ → List ℕ) → ℕ → ℕ → World → Passage
enter_all network given console zero world = passed world
enter_all network given console (suc more) world =
    and_then (enter network console (waiting (given console) world.consoles console) world) (enter_all network given (console + 1) more)
