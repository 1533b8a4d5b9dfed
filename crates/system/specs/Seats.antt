-- The program's seats are the definition's.
use Rattle.std.specs.Prelude.{◌≡◌, ℕ, List, length, map, Option, Some, None}
use Rattle.std.specs.List.{range_with_len}
use Rattle.std.specs.Option.{option_map}
use Rattle.machine_desc.specs.declared.desc.Desc.{Desc}
use Rattle.network.specs.Network.{Seat as Owned, owner_from}
use Rattle.system.specs.declared.seat.Seat.{Seat}

abbrev pub seated_at : Option Seat → Option Owned
seated_at None = None
seated_at (Some seat) = Some (record { part = seat.part; core = seat.core })

abbrev pub part_of : Owned → ℕ
part_of seat = seat.part

-- the partition whose core has this physical number
abbrev pub owner_in : List Desc → ℕ → Option ℕ
owner_in descs number = option_map part_of (owner_from 0 descs number)

-- the partitions whose cores have the numbers from 0 on
abbrev pub AreOwners : List (Option ℕ) → List Desc → Type 0
AreOwners owners descs = owners ≡ map (owner_in descs) (range_with_len 0 (length owners))
