-- What is joined, and by what. Partitions are numbered from 0, and their handles from 1.
use Rattle.std.specs.Prelude.{ℕ, ◌+◌, Bool, true, ◌&&◌, if◌then◌else◌, List, [], ◌∷◌, ◌++◌, length, map, filter, slice_index_or, Option, Some, None}
use Rattle.std.specs.List.{list_any, range_with_len}
use Rattle.std.specs.Option.{option_and_then}
use Rattle.machine_desc.specs.declared.desc.Desc.{Desc}
use Rattle.machine_desc.specs.declared.desc.Port.{Port}
use Rattle.machine_desc.specs.declared.desc.Port.TheVariants.{Manage}
use Rattle.machine_desc.specs.declared.wiring.PortRef.{PortRef}
use Rattle.machine_desc.specs.declared.wiring.End.{End}
use Rattle.machine_desc.specs.declared.wiring.End.TheVariants.{Part, Console}
use Rattle.machine_desc.specs.declared.wiring.Link.{Link}
use Rattle.machine_desc.specs.declared.wiring.Bell.{Bell}
use Rattle.machine_desc.specs.declared.wiring.Wiring.{Wiring}
use Rattle.machine_desc.specs.Joined.{same_ref, is_at, is_console, port_at}
use Rattle.partition.specs.Machine.{place_in}

pub record Network : Type 0 where
  -- of the partitions, in document order
  pub descs : List Desc
  pub wiring : Wiring

-- no partition, for where there is none of a number
abbrev pub no_desc : Desc
no_desc = record { name = []; regions = []; cores = []; ports = []; tree_at = 0; tree_size = 0; entry = 0; held = true; pieces = [] }

abbrev pub desc_at : Network → ℕ → Desc
desc_at network part = slice_index_or network.descs part no_desc

abbrev pub ref_to : ℕ → ℕ → PortRef
ref_to part handle = record { part = part; handle = handle }

-- ---- channels

abbrev pub is_end : End → End → Bool
is_end (Part ref) end = is_at ref end
is_end (Console number) end = is_console number end

-- the other end of the channel that has this end
abbrev pub far_end : List Link → End → Option End
far_end [] end = None
far_end (link ∷ links) end = if is_end end link.a then Some link.b else if is_end end link.b then Some link.a else far_end links end

-- the other end of the channel on a handle
abbrev pub far_of : Network → ℕ → ℕ → Option End
far_of network part handle = far_end network.wiring.links (Part (ref_to part handle))

-- ---- doorbells

-- some doorbell has the one handle among its senders, and the other among its receivers
abbrev pub hears : List Bell → PortRef → PortRef → Bool
hears bells sender receiver = list_any (λ (bell : Bell). list_any (same_ref sender) bell.senders && list_any (same_ref receiver) bell.receivers) bells

abbrev pub handles_of : ℕ → Desc → List PortRef
handles_of part desc = map (ref_to part) (range_with_len 1 (length desc.ports))

-- the handles of the partitions from this number on, in document order
abbrev pub handles_from : ℕ → List Desc → List PortRef
handles_from part [] = []
handles_from part (desc ∷ descs) = handles_of part desc ++ handles_from (part + 1) descs

-- The handles at which a ring is heard, in document order of partitions and of handles.
abbrev pub receivers_of : Network → ℕ → ℕ → List PortRef
receivers_of network part handle = filter (hears network.wiring.bells (ref_to part handle)) (handles_from 0 network.descs)

-- ---- managers

abbrev pub managed : Port → Option ℕ
managed (Manage part held private) = Some part
managed _ = None

-- the partition that a handle manages
abbrev pub managed_by : Network → ℕ → ℕ → Option ℕ
managed_by network part handle = option_and_then managed (port_at network.descs (ref_to part handle))

-- the handle that manages a partition
abbrev pub manager_of : Network → ℕ → Option PortRef
manager_of network part = slice_index_or network.wiring.managers part None

-- ---- cores

-- a core of a partition, by its place there
pub record Seat : Type 0 where
  pub part : ℕ
  pub core : ℕ

abbrev pub seated : Option ℕ → ℕ → Option Seat → Option Seat
seated None part others = others
seated (Some core) part others = Some (record { part = part; core = core })

-- whose core has this physical number, among the partitions from this number on
abbrev pub owner_from : ℕ → List Desc → ℕ → Option Seat
owner_from part [] number = None
owner_from part (desc ∷ descs) number = seated (place_in desc.cores number) part (owner_from (part + 1) descs number)

abbrev pub owner_of : Network → ℕ → Option Seat
owner_of network number = owner_from 0 network.descs number
