-- The list of a memory copy between a partition and one that it manages, and which lists are refused. A memory is a function: the byte at
-- a logical address. What is private is one too, of an address and a size in bytes.
use Rattle.std.specs.Prelude.{ℕ, ◌+◌, ◌*◌, ◌^◌, ◌==◌, Bool, not, ◌&&◌, ◌||◌, nat_le, nat_lt, List, [], ◌∷◌, map, sum_by, if◌then◌else◌}
use Rattle.std.specs.Int.{w64, from_be_bytes}
use Rattle.std.specs.List.{list_all, range_with_len}
use Rattle.std.specs.Option.{option_map_or}
use Rattle.machine_desc.specs.declared.desc.Port.{Port}
use Rattle.machine_desc.specs.declared.desc.Port.TheVariants.{Manage}
use Rattle.machine_desc.specs.declared.desc.Span.{Span}
use Rattle.guest_regs.specs.Registers.{Registers, gpr_of}
use Rattle.hcall_abi.specs.declared.status.Status.TheVariants.{Fault, InvalidArgument}
use Rattle.hcall_abi.specs.Status.{own_handle}
use Rattle.partition_manager.specs.declared.decision.Decision.{Decision}
use Rattle.partition_manager.specs.declared.decision.Decision.TheVariants.{Go, Refuse}
use Rattle.partition_manager.specs.Decisions.{port_at, is_manage_at, refused}
use Rattle.copy_lists.specs.declared.list.SgEntry.{SgEntry}

-- ---- the list in memory

-- a list has so many entries at most,
abbrev pub most_entries : ℕ
most_entries = 1024

-- each of so many bytes,
abbrev pub entry_size : ℕ
entry_size = 32

-- and copies so many bytes at most
abbrev pub most_bytes : ℕ
most_bytes = 1048576

-- the number in the eight bytes from an address on, the most significant first
abbrev pub number_at : (ℕ → ℕ) → ℕ → ℕ
number_at byte at =
    from_be_bytes w64
    (byte at ∷ byte (at + 1) ∷ byte (at + 2) ∷ byte (at + 3) ∷ byte (at + 4) ∷ byte (at + 5) ∷ byte (at + 6) ∷ byte (at + 7) ∷ [])

-- An entry: the address from which is copied, the address to which, and how many bytes. Its last eight bytes are reserved and not looked at.
unfoldable pub entry_at : (ℕ → ℕ) → ℕ → SgEntry
entry_at byte at = record { source = number_at byte at; target = number_at byte (at + 8); size = number_at byte (at + 16) }

-- so many entries, side by side
abbrev pub entries_at : (ℕ → ℕ) → ℕ → ℕ → List SgEntry
entries_at byte at count = map (λ n. entry_at byte (at + entry_size * n)) (range_with_len 0 count)

-- how many bytes they copy together
abbrev pub total : List SgEntry → ℕ
total entries = sum_by (λ (entry : SgEntry). entry.size) entries

-- Its bytes are private where they are read, and where they are written. One without bytes may have any addresses.
abbrev pub is_entry_private : (ℕ → ℕ → Bool) → (ℕ → ℕ → Bool) → SgEntry → Bool
is_entry_private source_private target_private entry =
    entry.size == 0 || (source_private entry.source entry.size && target_private entry.target entry.size)

-- ---- what the registers ask for: the handle of the source in r3, that of the target in r4

-- the caller copies to the managed partition, and else from it
abbrev pub is_to_managed : Registers → Bool
is_to_managed registers = gpr_of registers 3 == own_handle

-- the handle of the managed partition
abbrev pub managed_handle : Registers → ℕ
managed_handle registers = if is_to_managed registers then gpr_of registers 4 else gpr_of registers 3

-- exactly one of both handles names the caller itself
abbrev pub is_one_own : ℕ → ℕ → Bool
is_one_own source target = if source == own_handle then not (target == own_handle) else target == own_handle

-- the logical address of the list: its low half in r5 and its high half in r6
abbrev pub list_address : Registers → ℕ
list_address registers = gpr_of registers 6 * 2 ^ 32 + gpr_of registers 5

-- how many entries it has
abbrev pub list_count : Registers → ℕ
list_count registers = gpr_of registers 7

-- the caller itself and a partition that it manages, and no more entries than a list may have
abbrev pub is_copy_asked : List Port → Registers → Bool
is_copy_asked ports registers =
    is_one_own (gpr_of registers 3) (gpr_of registers 4)
    && is_manage_at ports (managed_handle registers)
    && nat_le (list_count registers) most_entries

-- ---- the decision

-- the entries that the registers ask for
abbrev pub asked_entries : Registers → (ℕ → ℕ) → List SgEntry
asked_entries registers byte = entries_at byte (list_address registers) (list_count registers)

-- what is private where bytes are read: of the caller's and the managed partition's, by the direction
abbrev pub source_private : Bool → (ℕ → ℕ → Bool) → (ℕ → ℕ → Bool) → ℕ → ℕ → Bool
source_private to_managed own managed at size = if to_managed then own at size else managed at size

-- and where they are written
abbrev pub target_private : Bool → (ℕ → ℕ → Bool) → (ℕ → ℕ → Bool) → ℕ → ℕ → Bool
target_private to_managed own managed at size = if to_managed then managed at size else own at size

-- each entry copies private bytes to private ones
unfoldable pub are_entries_private : Bool → (ℕ → ℕ → Bool) → (ℕ → ℕ → Bool) → List SgEntry → Bool
are_entries_private to_managed own managed entries = list_all (is_entry_private (source_private to_managed own managed) (target_private to_managed own managed)) entries

-- what is decided of entries that were read
abbrev pub entries_decision : Bool → (ℕ → ℕ → Bool) → (ℕ → ℕ → Bool) → List SgEntry → Decision
entries_decision to_managed own_private managed_private entries =
    if nat_lt most_bytes (total entries) then refused InvalidArgument
    else if not (are_entries_private to_managed own_private managed_private entries) then refused Fault
    else Go

-- Copy by the list that the registers name. `byte` is the caller's memory.
unfoldable pub copy_decision : List Port → Registers → (ℕ → ℕ → Bool) → (ℕ → ℕ → Bool) → (ℕ → ℕ) → Decision
copy_decision ports registers own_private managed_private byte =
    if not (is_copy_asked ports registers) then refused InvalidArgument
    else if not (own_private (list_address registers) (entry_size * list_count registers)) then refused Fault
    else entries_decision (is_to_managed registers) own_private managed_private (asked_entries registers byte)

-- the entries that are left to be copied: those that were read, and none after a refusal
abbrev pub decided_entries : Decision → List SgEntry → List SgEntry
decided_entries Go entries = entries
decided_entries (Refuse status) entries = []

-- ---- the managed partition, as its handle tells of it

abbrev pub spans_of_port : Port → List Span
spans_of_port (Manage part held private) = private
spans_of_port _ = []

-- the private ranges of the partition that the handle manages
abbrev pub managed_spans : List Port → ℕ → List Span
managed_spans ports handle = option_map_or spans_of_port (port_at ports handle) []
