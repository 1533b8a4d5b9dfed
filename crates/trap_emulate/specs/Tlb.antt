-- The instructions on translations, and what a TLB error leaves in the MAS registers (Power ISA 2.06, Book III-E, chapter 6).
use Rattle.std.specs.Prelude.{ℕ, ◌/◌, ◌%◌, ◌^◌, ◌==◌, Bool, true, not, List, [], Option, Some, None, if◌then◌else◌}
use Rattle.insn.specs.Fields.{ra_field, rb_field, invalidate_kind}
use Rattle.guest_regs.specs.Registers.{Registers, indexed_address, advanced}
use Rattle.mas.specs.declared.registers.Mas.{Mas}
use Rattle.mas.specs.declared.entry.Entry.{Entry}
use Rattle.mas.specs.Fields.{tlbsel_field, nv_field, spid_field, sas_bit, with_nv}
use Rattle.mas.specs.Translation.{reporting, missed}
use Rattle.guest_tlb.specs.Slots.{entry_at, named_slot, naming, search_of}
use Rattle.guest_tlb.specs.Invalidation.{invalidated, ended_slots, ends_all, ends_pid, ends_address, after_write, ended_by_write}

-- the MAS registers of a core
abbrev pub mas_of : Registers → Mas
mas_of registers = record {
  m0 = registers.mas0;
  m1 = registers.mas1;
  m2 = registers.mas2;
  m3 = registers.mas3;
  m4 = registers.mas4;
  m6 = registers.mas6;
  m7 = registers.mas7;
}

unfoldable pub with_mas : Mas → Registers → Registers
with_mas mas registers = record registers {
  mas0 = mas.m0;
  mas1 = mas.m1;
  mas2 = mas.m2;
  mas3 = mas.m3;
  mas4 = mas.m4;
  mas6 = mas.m6;
  mas7 = mas.m7;
}

-- What a privileged instruction leaves: the registers, the slots of the translations, the next-victim counter, and the slots whose
-- translations it overwrote or invalidated, in rising order.
pub record Emulated : Type 0 where
  pub registers : Registers
  pub slots : List Entry
  pub nv : ℕ
  pub ended : List ℕ

-- an instruction that leaves the translations and the counter
abbrev pub kept : List Entry → ℕ → Registers → Emulated
kept slots nv registers = record { registers = registers; slots = slots; nv = nv; ended = [] }

-- ---- tlbwe

-- the counter after a write, which of TLB0 takes NV for the way that the next miss is to replace
abbrev pub next_victim : Mas → ℕ → ℕ
next_victim mas nv = if tlbsel_field mas.m0 == 0 then nv_field mas.m0 % 4 else nv

unfoldable pub tlb_write : Registers → List Entry → ℕ → Emulated
tlb_write registers slots nv = record {
  registers = advanced registers;
  slots = after_write (mas_of registers) slots;
  nv = next_victim (mas_of registers) nv;
  ended = ended_by_write (mas_of registers) slots;
}

-- ---- tlbre

-- what a slot has, or zeros where no slot is named
abbrev pub reporting_slot : Option ℕ → List Entry → Mas → Mas
reporting_slot None slots mas = record mas { m1 = 0; m2 = 0; m3 = 0; m7 = 0 }
reporting_slot (Some slot) slots mas = reporting (entry_at slots slot) mas

-- NV reports the counter
abbrev pub reporting_next : ℕ → Mas → Mas
reporting_next nv mas = record mas { m0 = with_nv nv mas.m0 }

unfoldable pub tlb_read : Registers → List Entry → ℕ → Registers
tlb_read registers slots nv =
    let mas : Mas = mas_of registers in
    advanced (with_mas (reporting_next nv (reporting_slot (named_slot mas) slots mas)) registers)

-- ---- tlbsx

-- A search that finds nothing reports what a TLB error there would, but as a dead translation, and what it was for stays.
abbrev pub not_found : ℕ → ℕ → Mas → Mas
not_found ea nv mas =
    let miss : Mas = missed mas (spid_field mas.m6) (sas_bit mas.m6) ea nv in
    record miss { m1 = miss.m1 % 2 ^ 31; m6 = mas.m6 }

-- one that finds a slot reports what the slot has, and names it
abbrev pub reporting_search : Option ℕ → ℕ → List Entry → ℕ → Mas → Mas
reporting_search (Some slot) ea slots nv mas = reporting_next nv (reporting (entry_at slots slot) (naming slot mas))
reporting_search None ea slots nv mas = not_found ea nv mas

unfoldable pub tlb_search : ℕ → Registers → List Entry → ℕ → Registers
tlb_search ea registers slots nv =
    let mas : Mas = mas_of registers in
    advanced (with_mas (reporting_search (search_of (sas_bit mas.m6) (spid_field mas.m6) ea slots) ea slots nv mas) registers)

-- ---- tlbilx and tlbivax

-- the translations that pass the test are invalidated
abbrev pub after_invalidation : (ℕ → Entry → Bool) → Registers → List Entry → ℕ → Emulated
after_invalidation ends registers slots nv = record {
  registers = advanced registers;
  slots = invalidated ends slots;
  nv = nv;
  ended = ended_slots ends slots;
}

-- By T: all; those of SPID; those of SPID with the address. T of 2 is no instruction.
unfoldable pub tlb_invalidate_local : ℕ → Registers → List Entry → ℕ → Emulated
tlb_invalidate_local word registers slots nv =
    if invalidate_kind word == 0 then after_invalidation (ends_all true true) registers slots nv
    else if invalidate_kind word == 1 then after_invalidation (ends_pid (spid_field registers.mas6)) registers slots nv
    else if invalidate_kind word == 3
    then after_invalidation (ends_address (indexed_address registers (ra_field word) (rb_field word)) (Some (spid_field registers.mas6)) true true) registers slots nv
    else kept slots nv registers

-- Bits of the address say which TLB, and whether all of it is meant.
unfoldable pub tlb_invalidate : ℕ → Registers → List Entry → ℕ → Emulated
tlb_invalidate ea registers slots nv =
    let tlb1 = ea / 2 ^ 3 % 2 == 1 in
    if ea / 2 ^ 2 % 2 == 1 then after_invalidation (ends_all (not tlb1) tlb1) registers slots nv
    else after_invalidation (ends_address ea None (not tlb1) tlb1) registers slots nv

-- ---- TLB errors

-- a miss of the running process in a space
unfoldable pub missing : ℕ → Bool → ℕ → Registers → Registers
missing nv space ea registers = with_mas (missed (mas_of registers) registers.pid space ea nv) registers
