-- The slots of the two TLBs, numbered together: TLB0 has 128 sets of 4 ways, slots 0 to 511, and TLB1 has 64 slots, 512 to 575
-- (Power ISA 2.06, Book III-E, chapter 6, TLB management; the shapes are the e500mc core's).
use Rattle.std.specs.Prelude.{ℕ, ◌+◌, ◌-◌, ◌*◌, ◌/◌, ◌%◌, ◌^◌, ◌==◌, Bool, false, ◌&&◌, nat_lt, nat_le, if◌then◌else◌, List, Option, Some, None, slice_index_or, map, find, position}
use Rattle.std.specs.List.{range_with_len}
use Rattle.mas.specs.declared.registers.Mas.{Mas}
use Rattle.mas.specs.declared.entry.Entry.{Entry}
use Rattle.mas.specs.Fields.{tlbsel_field, esel_field, with_tlbsel_esel}
use Rattle.mas.specs.Page.{page_size}
use Rattle.mas.specs.Translation.{entry_of}
use Rattle.guest_tlb.specs.Translation.{matches}

-- how many slots there are; a word of its own, so that no proof counts them one by one
unfoldable pub slot_count : ℕ
slot_count = 576

abbrev pub is_in_tlb0 : ℕ → Bool
is_in_tlb0 slot = nat_lt slot 512

-- A slot of TLB1 that was never written is dead and zero,
abbrev pub blank : Entry
blank = record { valid = false; iprot = false; tid = 0; ts = false; tsize = 0; epn = 0; wimge = 0; rpn = 0; perms = 0 }

-- and one of TLB0 too, but for its TSIZE, which reads 1 in every slot of TLB0.
abbrev pub tlb0_blank : Entry
tlb0_blank = record blank { tsize = 1 }

-- what a slot has
abbrev pub entry_at : List Entry → ℕ → Entry
entry_at slots slot = slice_index_or slots slot blank

-- The slot that MAS0 and MAS2 name. The set of TLB0 is by the low bits of the page's number, and ESEL is the way; of TLB1 ESEL
-- is the slot.
unfoldable pub named_slot : Mas → Option ℕ
named_slot mas =
    if tlbsel_field mas.m0 == 0 then Some (mas.m2 / 2 ^ 12 % 128 * 4 + esel_field mas.m0 % 4)
    else if tlbsel_field mas.m0 == 1 then Some (512 + esel_field mas.m0 % 64)
    else None

-- MAS0 with TLBSEL and ESEL of a slot
abbrev pub naming : ℕ → Mas → Mas
naming slot mas = record mas {
  m0 = if is_in_tlb0 slot then with_tlbsel_esel 0 (slot % 4) mas.m0 else with_tlbsel_esel 1 (slot - 512) mas.m0;
}

-- TLB0 has pages of 4 KiB alone, and protects none.
abbrev pub tlb0_form : Entry → Entry
tlb0_form entry = record entry { iprot = false; tsize = 1 }

-- the sizes of TLB1: 4 KiB to 4 GiB
abbrev pub has_size : Entry → Bool
has_size entry = nat_le 1 entry.tsize && nat_le entry.tsize 11

-- the last multiple of a size
abbrev pub aligned : ℕ → ℕ → ℕ
aligned size address = address - address % size

-- TLB1 takes a page at a multiple of its size; of another size it takes none.
abbrev pub tlb1_form : Entry → Entry
tlb1_form entry =
    if has_size entry then record entry { epn = aligned (page_size entry.tsize) entry.epn; rpn = aligned (page_size entry.tsize) entry.rpn }
    else record entry { valid = false }

-- what a write of these registers leaves in a slot
unfoldable pub written_entry : ℕ → Mas → Entry
written_entry slot mas = if is_in_tlb0 slot then tlb0_form (entry_of mas) else tlb1_form (entry_of mas)

-- the area that is mapped when a program starts, 64 MiB from address 0 (ePAPR 1.1, chapter 5): all is allowed to the system, and
-- invalidations spare it
unfoldable pub initial_area : Entry
initial_area = entry_of (record { m0 = 0; m1 = 0xC0000800; m2 = 4; m3 = 0x15; m4 = 0; m6 = 0; m7 = 0 })

-- what a slot has after a reset: the first of TLB1 the initial area, and every other nothing
abbrev pub initial_entry : ℕ → Entry
initial_entry slot = if is_in_tlb0 slot then tlb0_blank else if slot == 512 then initial_area else blank

-- the slots after a reset
unfoldable pub initial_slots : List Entry
initial_slots = map initial_entry (range_with_len 0 slot_count)

-- the slot whose translation an access has, and that translation
abbrev pub search_of : Bool → ℕ → ℕ → List Entry → Option ℕ
search_of space pid ea slots = position (matches space pid ea) slots

abbrev pub lookup_of : Bool → ℕ → ℕ → List Entry → Option Entry
lookup_of space pid ea slots = find (matches space pid ea) slots
