-- What the definitions mean for partitions that are joined, and for memory that is read by addresses.
use Rattle.std.specs.Prelude.{◌≡◌, ℕ, ◌*◌, ◌≤◌, Bool, true, false, List, flat_map, IsTrue}
use Rattle.machine_desc.specs.declared.desc.Port.{Port}
use Rattle.machine_desc.specs.declared.desc.Region.{Region}
use Rattle.machine_desc.specs.declared.desc.Span.{Span}
use Rattle.machine_desc.specs.Joined.{are_private_spans}
use Rattle.machine_desc.specs.Private.{is_private_range}
use Rattle.machine_desc.specs.Sound.{are_regions_sound}
use Rattle.guest_regs.specs.Registers.{Registers}
use Rattle.fresh_load.specs.Placed.{ArePlaced}
use Rattle.partition_manager.specs.declared.decision.Decision.TheVariants.{Go}
use Rattle.copy_lists.specs.declared.list.SgEntry.{SgEntry}
use Rattle.copy_lists.specs.Lists.{entry_size, most_bytes, total, list_address, list_count, is_to_managed, is_copy_asked, asked_entries, are_entries_private, copy_decision}
use Rattle.copy_lists.specs.Spans.{is_in_spans}
use Rattle.copy_lists.specs.Moving.{byte_in, bytes_in, byte_put, put, copied, AreasFit, AreCopiable}
use Rattle.copy_lists.specs.Pieces.{sources_of, size_of, pieces_out, pieces_in, all_put}

-- Spans that are those of a partition's private regions hold what is private to that partition.
abbrev pub SpansArePrivate : Type 0
SpansArePrivate =
    (spans : List Span) (regions : List Region) (at size : ℕ) → IsTrue (are_private_spans spans regions) → is_in_spans spans at size ≡ is_private_range regions at size

-- Each private byte is then, read by its address, the new one, or as it was where the new ones don't reach.
abbrev pub BytesPutAreRead : Type 0
BytesPutAreRead =
    (regions : List Region) (memory : List (List ℕ)) (at : ℕ) (bytes : List ℕ) (address : ℕ) → IsTrue (are_regions_sound regions) → ArePlaced memory regions
    → IsTrue (is_private_range regions address 1) → byte_in regions (put regions memory at bytes) address ≡ byte_put at bytes address (byte_in regions memory address)

-- What is private to the one is as it was after bytes were put into what is private to the other.
abbrev pub SourceStays : Type 0
SourceStays =
    (from to : List Region) (memory : List (List ℕ)) (at : ℕ) (bytes : List ℕ) (address size : ℕ) → AreasFit from to memory → IsTrue (is_private_range from address size)
    → bytes_in from (put to memory at bytes) address size ≡ bytes_in from memory address size

-- What is sure of a copy that goes, over whatever memory and privacy.
pub record IsChecked (ports : List Port) (registers : Registers) (own_private managed_private : ℕ → ℕ → Bool) (byte : ℕ → ℕ) : Type 0 where
  pub asked : IsTrue (is_copy_asked ports registers)
  pub list : IsTrue (own_private (list_address registers) (entry_size * list_count registers))
  pub few : total (asked_entries registers byte) ≤ most_bytes
  pub private : IsTrue (are_entries_private (is_to_managed registers) own_private managed_private (asked_entries registers byte))

abbrev pub GoneIsChecked : Type 0
GoneIsChecked =
    (ports : List Port) (registers : Registers) (own_private managed_private : ℕ → ℕ → Bool) (byte : ℕ → ℕ) → copy_decision ports registers own_private managed_private byte ≡ Go
    → IsChecked ports registers own_private managed_private byte

-- The entries of a copy that goes may be copied between the regions of both partitions, in the direction that was asked.
abbrev pub CheckedIsCopiable : Type 0
CheckedIsCopiable =
    (own managed : List Region) (managed_private : ℕ → ℕ → Bool) (entries : List SgEntry) → ((at size : ℕ) → managed_private at size ≡ is_private_range managed at size)
    → (IsTrue (are_entries_private true (is_private_range own) managed_private entries) → AreCopiable own managed entries)
    × (IsTrue (are_entries_private false (is_private_range own) managed_private entries) → AreCopiable managed own entries)

-- A copy between two partitions is what goes out of the one's memory, as it was before, put into the other's.
abbrev pub CopiedIsPut : Type 0
CopiedIsPut =
    (from to : List Region) (memory : List (List ℕ)) (entries : List SgEntry) → AreasFit from to memory → AreCopiable from to entries
    → copied from to entries memory ≡ all_put to (pieces_out from memory entries) memory

-- What goes out has as many bytes as the list copies, and is what comes in where the bytes of all ranges that the list reads are given.
abbrev pub OutIsIn : Type 0
OutIsIn =
    (from : List Region) (memory : List (List ℕ)) (entries : List SgEntry)
    → (size_of (pieces_out from memory entries) ≡ total entries)
    × (pieces_in entries (flat_map (λ (range : Span). bytes_in from memory range.at range.size) (sources_of entries)) ≡ pieces_out from memory entries)
