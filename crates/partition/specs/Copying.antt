-- Copying between a partition and one that it manages: which bytes go where. The list that says so lies in the caller's memory, and is
-- read whole before a byte moves.
use Rattle.std.specs.Prelude.{ℕ, ◌+◌, Bool, List, [], ◌∷◌, if◌then◌else◌}
use Rattle.guest_regs.specs.Registers.{Registers}
use Rattle.machine_desc.specs.declared.desc.Region.{Region}
use Rattle.machine_desc.specs.declared.desc.Span.{Span}
use Rattle.machine_desc.specs.Private.{is_private_range}
use Rattle.partition_manager.specs.declared.decision.Decision.{Decision}
use Rattle.copy_lists.specs.declared.list.SgEntry.{SgEntry}
use Rattle.copy_lists.specs.Lists.{is_to_managed, managed_handle, managed_spans, asked_entries, decided_entries, copy_decision, total}
use Rattle.copy_lists.specs.Moving.{byte_in, bytes_in}
use Rattle.copy_lists.specs.Pieces.{Piece, targets_of, pieces_out, pieces_in}
use Rattle.copy_lists.specs.Spans.{is_in_spans}
use Rattle.partition.specs.Regions.{Area}
use Rattle.partition.specs.Act.{Act, copied_to, copied_from}
use Rattle.partition.specs.Machine.{Shape}
use Rattle.partition.specs.Channels.{Served}
use Rattle.partition.specs.Managing.{commanding, decided}

-- ---- the machine's memory by logical addresses

-- the regions from this place on, each as the extent of the machine's memory that has its place
abbrev pub numbered : ℕ → List Area → List Region
numbered place [] = []
numbered place (area ∷ areas) =
    record { logical = area.logical; size = area.size; extent = place; real = 0; private = area.private } ∷ numbered (place + 1) areas

abbrev pub own_regions : List Area → List Region
own_regions areas = numbered 0 areas

-- the byte at a logical address
abbrev pub own_byte : List Area → List (List ℕ) → ℕ → ℕ
own_byte areas memory at = byte_in (own_regions areas) memory at

-- so many bytes from a logical address on
abbrev pub own_bytes : List Area → List (List ℕ) → ℕ → ℕ → List ℕ
own_bytes areas memory at size = bytes_in (own_regions areas) memory at size

-- ---- the hypercall

-- a copy: on which handle, in which direction, and by which list
pub record Copy : Type 0 where
  pub handle : ℕ
  pub to_managed : Bool
  pub entries : List SgEntry

-- By the caller's own private regions, and by what its handle tells of the private regions of the partition that it manages.
abbrev pub decide_copy : Shape → Registers → List (List ℕ) → Decision
decide_copy shape registers memory =
    copy_decision shape.ports registers (is_private_range (own_regions shape.areas)) (is_in_spans (managed_spans shape.ports (managed_handle registers)))
    (own_byte shape.areas memory)

-- the copy that the registers ask for; where it is refused it has no entries
abbrev pub asked_copy : Shape → Registers → List (List ℕ) → Copy
asked_copy shape registers memory = record {
  handle = managed_handle registers;
  to_managed = is_to_managed registers;
  entries = decided_entries (decide_copy shape registers memory) (asked_entries registers (own_byte shape.areas memory));
}

-- what others see of a copy out of, or into, a memory of these regions
abbrev pub copy_act : List Region → List (List ℕ) → Copy → Act
copy_act regions memory it = if it.to_managed then copied_to it.handle (pieces_out regions memory it.entries) else copied_from it.handle (total it.entries)

-- Copy by the list at the logical address in r5 and r6, of r7 entries, from the partition r3 to the partition r4.
unfoldable pub copy : Shape → Registers → List (List ℕ) → Served
copy shape registers memory = decided (decide_copy shape registers memory) (commanding (copy_act (own_regions shape.areas) memory (asked_copy shape registers memory)))

-- what a copy writes into the caller's memory: what comes out of the managed partition, which the feed has
abbrev pub copied_in : Copy → List ℕ → List Piece
copied_in it feed = if it.to_managed then [] else pieces_in it.entries feed

-- and at which addresses
abbrev pub copied_at : Copy → List Span
copied_at it = if it.to_managed then [] else targets_of it.entries
