-- What the world outside does to the machine between two steps.
use Rattle.std.specs.Prelude.{ℕ, Bool, true, List, [], ◌∷◌, map}
use Rattle.machine_desc.specs.declared.act.State.TheVariants.{Stopped}
use Rattle.machine_desc.specs.declared.desc.Desc.{Desc}
use Rattle.partition.specs.Regions.{areas_of}
use Rattle.copy_lists.specs.Pieces.{Piece, span_of, all_put}
use Rattle.partition.specs.Port.{End, come_on, freed_on, told_on, emptied}
use Rattle.partition.specs.Interrupts.{bell_at, rung_by}
use Rattle.partition.specs.Machine.{Machine}
use Rattle.partition.specs.Anew.{started}
use Rattle.partition.specs.Reservations.{with_copied}
use Rattle.partition.specs.Copying.{own_regions}

pub data Event : Type 0 where
  -- on this handle these bytes came
  Bytes : ℕ → List ℕ → Event
  -- on this handle the other end took so many bytes
  Room : ℕ → ℕ → Event
  -- the doorbell that this handle receives was rung
  Ring : ℕ → Event
  -- the partition that the handle manages runs now, or doesn't
  Tells : ℕ → Bool → Event
  -- where it starts, and whether its memory is loaded anew
  Start : ℕ → Bool → Event
  Stop : Event
  Restart : Event
  -- its manager wrote this into its private memory
  CopyIn : Piece → Event

-- the machine after an event
unfoldable pub apply : Desc → Machine → Event → Machine
apply desc machine (Bytes handle bytes) = record machine { ports = come_on machine.ports handle bytes }
apply desc machine (Room handle count) = record machine { ports = freed_on machine.ports handle count }
apply desc machine (Ring handle) = record machine {
  inner = record machine.inner { interrupts = rung_by (bell_at desc.ports handle) machine.inner.interrupts };
}
apply desc machine (Tells handle runs) = record machine { ports = told_on machine.ports handle runs }
apply desc machine (Start entry load) = started desc entry load machine
apply desc machine Stop = record machine { inner = record machine.inner { state = Stopped } }
apply desc machine Restart = started desc desc.entry true machine
apply desc machine (CopyIn piece) = record machine {
  inner = record machine.inner { cores = map (with_copied (span_of piece ∷ [])) machine.inner.cores };
  memory = all_put (own_regions (areas_of desc.regions)) (piece ∷ []) machine.memory;
}

-- what it makes of the partition's ends
abbrev pub ends_after : Event → List End → List End
ends_after (Bytes handle bytes) ends = come_on ends handle bytes
ends_after (Room handle count) ends = freed_on ends handle count
ends_after (Tells handle runs) ends = told_on ends handle runs
ends_after (Start entry load) ends = emptied ends
ends_after Restart ends = emptied ends
ends_after _ ends = ends
