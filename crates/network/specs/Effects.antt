-- What a step brings others.
use Rattle.std.specs.Prelude.{ℕ, ◌+◌, ◌==◌, false, if◌then◌else◌, List, [], ◌∷◌, ◌++◌, length, map, slice_set, Option, Some, None}
use Rattle.core_step.specs.declared.answer.Wrote.{Wrote}
use Rattle.core_step.specs.Laws.{range_in}
use Rattle.machine_desc.specs.declared.desc.Desc.{Desc}
use Rattle.machine_desc.specs.declared.desc.Region.{Region}
use Rattle.machine_desc.specs.declared.wiring.PortRef.{PortRef}
use Rattle.machine_desc.specs.declared.wiring.End.{End}
use Rattle.machine_desc.specs.declared.wiring.End.TheVariants.{Part, Console}
use Rattle.fresh_load.specs.Placed.{extents_of}
use Rattle.copy_lists.specs.Pieces.{Piece}
use Rattle.partition.specs.Port.{End as OwnEnd}
use Rattle.partition.specs.Act.{Act, Nothing, Sent, Took, Rang, Start, Stop, Restart, CopyTo, CopyFrom, SelfStop, SelfRestart, Faulted}
use Rattle.partition.specs.Event as event
use Rattle.partition.specs.Machine.{Machine}
use Rattle.partition.specs.Step.{Stepped}
use Rattle.network.specs.Network.{Network, desc_at, far_of, receivers_of, managed_by, manager_of}
use Rattle.network.specs.Change.{Shared}
use Rattle.network.specs.World.{Counts, Entry, Delivery, to_part, entry_for, machine_at, counts_at}

-- ---- channels

-- Bytes go to the other end. A console takes them in the same turn, which the sender hears of.
abbrev pub sent_to : Option End → ℕ → ℕ → List ℕ → List Delivery
sent_to (Some (Part ref)) part handle bytes = to_part ref.part (event.Bytes ref.handle bytes) ∷ []
sent_to (Some (Console console)) part handle bytes = to_part part (event.Room handle (length bytes)) ∷ []
sent_to None part handle bytes = []

-- at the other end so many bytes are no longer outstanding, which a console doesn't count
abbrev pub room_at : Option End → ℕ → List Delivery
room_at (Some (Part ref)) count = to_part ref.part (event.Room ref.handle count) ∷ []
room_at _ count = []

-- for the received bytes of one handle, if any
abbrev pub room_for : Option End → List ℕ → List Delivery
room_for far [] = []
room_for far (byte ∷ bytes) = room_at far (length (byte ∷ bytes))

-- for those of a partition's handles from this number on
abbrev pub room_from : Network → ℕ → ℕ → List OwnEnd → List Delivery
room_from network part handle [] = []
room_from network part handle (own ∷ ends) = room_for (far_of network part handle) own.received ++ room_from network part (handle + 1) ends

-- for all of a partition that begins anew, in the order of its handles
abbrev pub returned_room : Network → List Machine → ℕ → List Delivery
returned_room network machines part = room_from network part 1 (machine_at machines part).ports

-- ---- doorbells

abbrev pub ring_at : PortRef → Delivery
ring_at ref = to_part ref.part (event.Ring ref.handle)

-- ---- managers

-- of the managed partition, if there is one
abbrev pub at_managed : Option ℕ → (ℕ → List Delivery) → List Delivery
at_managed None deliveries = []
at_managed (Some part) deliveries = deliveries part

-- bytes are written into its memory
abbrev pub copied_into : ℕ → Piece → Delivery
copied_into part piece = to_part part (event.CopyIn piece)

-- the manager, if there is one, hears that the partition doesn't run
abbrev pub tell_manager : Option PortRef → List Delivery
tell_manager None = []
tell_manager (Some ref) = to_part ref.part (event.Tells ref.handle false) ∷ []

-- ---- all acts

-- The events that an act brings, in their order, by the machines before its step.
unfoldable pub brought : Network → List Machine → ℕ → Act → List Delivery
brought network machines part Nothing = []
brought network machines part (Sent handle bytes) = sent_to (far_of network part handle) part handle bytes
brought network machines part (Took handle count) = room_at (far_of network part handle) count
brought network machines part (Rang handle) = map ring_at (receivers_of network part handle)
brought network machines part (Start handle entry load) =
    at_managed (managed_by network part handle) (λ other. to_part other (event.Start entry load) ∷ returned_room network machines other)
brought network machines part (Stop handle) = at_managed (managed_by network part handle) (λ other. to_part other event.Stop ∷ [])
brought network machines part (Restart handle) =
    at_managed (managed_by network part handle) (λ other. to_part other event.Restart ∷ returned_room network machines other)
brought network machines part (CopyTo handle pieces) = at_managed (managed_by network part handle) (λ other. map (copied_into other) pieces)
brought network machines part (CopyFrom handle count) = []
brought network machines part SelfStop = tell_manager (manager_of network part)
brought network machines part SelfRestart = returned_room network machines part
brought network machines part Faulted = tell_manager (manager_of network part)

-- ---- shared areas

-- each other partition, from this number on, sees what the step left in the areas that both have
abbrev pub shown_from : ℕ → List Desc → ℕ → List Region → List (List ℕ) → List Wrote → List Entry
shown_from part [] stepping regions memory stored = []
shown_from part (desc ∷ descs) stepping regions memory stored =
    (if part == stepping then [] else entry_for part (Shared regions memory stored) ∷ []) ++ shown_from (part + 1) descs stepping regions memory stored

unfoldable pub shown : Network → ℕ → Stepped → List Entry
shown network part done =
    let regions : List Region = (desc_at network part).regions in
    shown_from 0 network.descs part regions done.after.memory (map (range_in (extents_of regions)) done.stored)

-- ---- consoles

abbrev pub count_printed : Option End → ℕ → List Counts → List Counts
count_printed (Some (Console console)) count consoles =
    slice_set consoles console (record (counts_at consoles console) { printed = (counts_at consoles console).printed + count })
count_printed _ count consoles = consoles

-- a console prints what is sent to it
abbrev pub printed_by : Network → ℕ → Act → List Counts → List Counts
printed_by network part (Sent handle bytes) consoles = count_printed (far_of network part handle) (length bytes) consoles
printed_by network part _ consoles = consoles
