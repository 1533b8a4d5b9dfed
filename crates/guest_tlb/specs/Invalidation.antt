-- What ends translations: writes and invalidations (Power ISA 2.06, Book III-E, chapter 6, TLB management). Each is a test of a
-- slot and its translation; the slots that pass it end, and are answered in rising order.
use Rattle.std.specs.Prelude.{ℕ, ◌==◌, Bool, true, false, not, ◌&&◌, ◌||◌, if◌then◌else◌, List, [], Option, Some, None, length, map, filter, slice_set}
use Rattle.std.specs.List.{range_with_len, enumerate_from}
use Rattle.mas.specs.declared.registers.Mas.{Mas}
use Rattle.mas.specs.declared.entry.Entry.{Entry}
use Rattle.guest_tlb.specs.Translation.{has_address, meets}
use Rattle.guest_tlb.specs.Slots.{is_in_tlb0, entry_at, named_slot, written_entry}

-- A translation that is invalidated keeps its fields, but is dead.
abbrev pub dead : Entry → Entry
dead entry = record entry { valid = false }

abbrev pub after : (ℕ → Entry → Bool) → ℕ → Entry → Entry
after ends slot entry = if ends slot entry then dead entry else entry

-- the slots after the translations that pass the test were invalidated
unfoldable pub invalidated : (ℕ → Entry → Bool) → List Entry → List Entry
invalidated ends slots = map (λ p. after ends p.0 p.1) (enumerate_from 0 slots)

-- the slots that pass the test, in rising order
unfoldable pub ended_slots : (ℕ → Entry → Bool) → List Entry → List ℕ
ended_slots ends slots = filter (λ slot. ends slot (entry_at slots slot)) (range_with_len 0 (length slots))

-- whether a slot is of one of the chosen TLBs
abbrev pub is_chosen : Bool → Bool → ℕ → Bool
is_chosen tlb0 tlb1 slot = if is_in_tlb0 slot then tlb0 else tlb1

-- An invalidation ends what is live and not protected:
abbrev pub is_exposed : Entry → Bool
is_exposed entry = entry.valid && not entry.iprot

-- all of the chosen TLBs,
unfoldable pub ends_all : Bool → Bool → ℕ → Entry → Bool
ends_all tlb0 tlb1 slot entry = is_exposed entry && is_chosen tlb0 tlb1 slot

-- all of one TID,
unfoldable pub ends_pid : ℕ → ℕ → Entry → Bool
ends_pid pid slot entry = is_exposed entry && (entry.tid == pid)

-- or those of the chosen TLBs that have an address in their page, in either space, and the TID that is given, if one is.
abbrev pub has_tid : Option ℕ → Entry → Bool
has_tid None entry = true
has_tid (Some pid) entry = entry.tid == pid

unfoldable pub ends_address : ℕ → Option ℕ → Bool → Bool → ℕ → Entry → Bool
ends_address ea pid tlb0 tlb1 slot entry =
    is_exposed entry && (is_chosen tlb0 tlb1 slot && (has_tid pid entry && has_address entry ea))

-- A write overwrites its slot, whatever was there, and where it is live it invalidates each other live translation that it meets,
-- protected or not.
unfoldable pub ends_write : ℕ → Entry → ℕ → Entry → Bool
ends_write at new slot entry = slot == at || (new.valid && (entry.valid && meets new entry))

-- the slots after a translation was written into one
abbrev pub with_entry : ℕ → Entry → List Entry → List Entry
with_entry at new slots = slice_set (invalidated (ends_write at new) slots) at new

-- the slots after a write of these registers, which may name no slot
abbrev pub written_at : Option ℕ → Mas → List Entry → List Entry
written_at None mas slots = slots
written_at (Some at) mas slots = with_entry at (written_entry at mas) slots

unfoldable pub after_write : Mas → List Entry → List Entry
after_write mas slots = written_at (named_slot mas) mas slots

-- the slots that such a write overwrote or invalidated
abbrev pub ended_at : Option ℕ → Mas → List Entry → List ℕ
ended_at None mas slots = []
ended_at (Some at) mas slots = ended_slots (ends_write at (written_entry at mas)) slots

unfoldable pub ended_by_write : Mas → List Entry → List ℕ
ended_by_write mas slots = ended_at (named_slot mas) mas slots
