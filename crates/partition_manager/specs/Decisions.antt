-- What a partition may ask of the partitions that it manages, and how each request is decided. The description's handles count from 1.
use Rattle.std.specs.Prelude.{ℕ, ◌-◌, ◌%◌, ◌==◌, Bool, true, false, not, ◌&&◌, ◌||◌, nat_lt, List, Option, None, slice_get, if◌then◌else◌}
use Rattle.std.specs.Option.{option_map_or}
use Rattle.machine_desc.specs.declared.desc.Port.{Port}
use Rattle.machine_desc.specs.declared.desc.Port.TheVariants.{Manage}
use Rattle.machine_desc.specs.Limits.{mapped_end}
use Rattle.hcall_abi.specs.declared.status.Status.{Status}
use Rattle.hcall_abi.specs.declared.status.Status.TheVariants.{InvalidArgument, InvalidState}
use Rattle.hcall_abi.specs.Status.{code_of, own_handle}
use Rattle.partition_manager.specs.declared.decision.Decision.{Decision}
use Rattle.partition_manager.specs.declared.decision.Decision.TheVariants.{Go, Refuse}

-- ---- what a caller names

-- a partition that the caller manages
abbrev pub is_manage : Port → Bool
is_manage (Manage part held private) = true
is_manage _ = false

-- none where there is no such handle
abbrev pub port_at : List Port → ℕ → Option Port
port_at ports handle = if handle == 0 then None else slice_get ports (handle - 1)

-- the handle is one of a managed partition
abbrev pub is_manage_at : List Port → ℕ → Bool
is_manage_at ports handle = option_map_or is_manage (port_at ports handle) false

-- the handle names a partition: the caller itself, or one that it manages
abbrev pub names_partition : List Port → ℕ → Bool
names_partition ports handle = handle == own_handle || is_manage_at ports handle

-- The address is one where a partition may start: that of a whole instruction in the area that is mapped as it starts.
abbrev pub is_entry : ℕ → Bool
is_entry entry = entry % 4 == 0 && nat_lt entry mapped_end

-- ---- decisions

-- the caller is told this status, and nothing is done
abbrev pub refused : Status → Decision
refused status = Refuse (code_of status)

-- Start the partition that the handle names, at this effective address. It must not run.
unfoldable pub decide_start : List Port → ℕ → ℕ → Bool → Decision
decide_start ports handle entry running =
    if not (names_partition ports handle && is_entry entry) then refused InvalidArgument
    else if running then refused InvalidState
    else Go

-- Stop it. It must run.
unfoldable pub decide_stop : List Port → ℕ → Bool → Decision
decide_stop ports handle running =
    if not (names_partition ports handle) then refused InvalidArgument
    else if not running then refused InvalidState
    else Go

-- Start it anew. It must run.
unfoldable pub decide_restart : List Port → ℕ → Bool → Decision
decide_restart ports handle running =
    if not (names_partition ports handle) then refused InvalidArgument
    else if not running then refused InvalidState
    else Go

-- Tell whether it runs, whatever it does.
unfoldable pub decide_status : List Port → ℕ → Decision
decide_status ports handle = if not (names_partition ports handle) then refused InvalidArgument else Go
