-- What a core keeps stays through instructions, interrupts and time.
use Rattle.std.proofs.Common.{rules, arith, subst, ◌≡◌, ℕ, ◌+◌, ◌-◌, ◌*◌, ◌/◌, ◌%◌, ◌^◌, ◌<◌, ◌≤◌, ◌==◌, Bool, true, false, nat_lt, if◌then◌else◌, List, slice_index, bit_and, bit_or, Option, Some, None}
use Rattle.std.specs.Int.{w32, bit_not}
use Rattle.std.proofs.lemmas.Nat.{and_le_r, or_lt}
use Rattle.insn.specs.declared.instruction.Op.{Op}
use Rattle.insn.specs.declared.instruction.Op.TheVariants as op
use Rattle.insn.specs.Fields.{rt_field, ra_field, rb_field, enable_bit}
use Rattle.guest_regs.specs.State.{is_set, critical_enable, external_enable, machine_check_enable, state_bits, guest_state, store_syndrome}
use Rattle.guest_regs.specs.Registers.{Registers, gpr_of, with_gpr, indexed_address, instruction_address, advanced, machine_state, data_space, instruction_space, mas7_bits}
use Rattle.guest_regs.specs.Kept.{IsWord, HasOnly, AreKept}
use Rattle.guest_regs.proofs.Keeping.{words_set}
use Rattle.guest_regs.proofs.Masks.{masked_bound, state_twice}
use Rattle.mas.specs.declared.registers.Mas.{Mas}
use Rattle.mas.specs.declared.entry.Entry.{Entry}
use Rattle.mas.specs.Fields.{bit, sas_bit, spid_field, with_nv, with_tlbsel_esel, tlbsel_default, tsize_default, wimge_default}
use Rattle.mas.specs.Translation.{Fits, reporting, missed}
use Rattle.mas.proofs.Held.{bit_small}
use Rattle.guest_tlb.specs.Slots.{entry_at, named_slot, naming, search_of}
use Rattle.guest_tlb.specs.Kept as slots
use Rattle.trap_emulate.specs.declared.cause.Cause.TheVariants.{MachineCheck, StorageData, StorageInsn, External, Align, Program, NoFloat, Syscall, Decrementer, MissData, MissInsn}
use Rattle.trap_emulate.specs.Clock.{ticked, expired, auto_reload, decrementer_status}
use Rattle.trap_emulate.specs.Entry.{delivered, interrupted, checked, handler, with_dear_esr, with_esr, next_instruction}
use Rattle.trap_emulate.specs.Tlb.{kept, mas_of, with_mas, tlb_write, reporting_slot, reporting_next, tlb_read, not_found, reporting_search, tlb_search, missing}
use Rattle.trap_emulate.specs.Privileged.{returned, with_external_enable, state_after, emulated}
use Rattle.trap_emulate.specs.Laws.{EmulationKeepsRegisters, DeliveryKeepsRegisters, TimeKeepsRegisters}
use Rattle.trap_emulate.proofs.Upper.{upper_bits}
use Rattle.trap_emulate.proofs.Translations.{local_by, by_tlb}

-- ---- time

timed : (registers : Registers) (time dec tsr : ℕ) → time < 2 ^ 64 → IsWord dec → IsWord tsr → AreKept registers → AreKept (record registers { time = time; dec = dec; tsr = tsr })
timed registers time dec tsr all down status kept = search (rules, all, down, status, kept)

reloaded : (reload : Bool) (next : ℕ) → IsWord next → IsWord (if reload then next else 0)
reloaded true next h = h
reloaded false next h = omega arith

by_decrementer : (end last : Bool) (x y z : Registers) → AreKept x → AreKept y → AreKept z → AreKept (if end then x else if last then y else z)
by_decrementer true last x y z h i j = h
by_decrementer false true x y z h i j = i
by_decrementer false false x y z h i j = j

pub time_keeps_registers : TimeKeepsRegisters
unfolding ticked expired
time_keeps_registers r kept =
    let later : (r.time + 1) % 2 ^ 64 < 2 ^ 64 = omega arith in
    let status : IsWord (bit_or r.tsr decrementer_status) = or_lt 32 r.tsr decrementer_status kept.tsr (omega arith) in
    by_decrementer (r.dec == 0) (r.dec == 1) _ _ _ (timed r ((r.time + 1) % 2 ^ 64) r.dec r.tsr later kept.dec kept.tsr kept)
    (timed r ((r.time + 1) % 2 ^ 64) (if is_set auto_reload r.tcr then r.decar else 0) (bit_or r.tsr decrementer_status) later (reloaded (is_set auto_reload r.tcr) r.decar kept.decar) status kept)
    (timed r ((r.time + 1) % 2 ^ 64) (r.dec - 1) r.tsr later (omega (arith, kept.dec)) kept.tsr kept)

-- ---- the MAS registers

record MasFits (mas : Mas) : Type 0 where
  m0 : IsWord mas.m0
  m1 : IsWord mas.m1
  m2 : IsWord mas.m2
  m3 : IsWord mas.m3
  m4 : IsWord mas.m4
  m6 : IsWord mas.m6
  m7 : HasOnly mas7_bits mas.m7

with_mas_keeps : (mas : Mas) (r : Registers) → MasFits mas → AreKept r → AreKept (with_mas mas r)
unfolding with_mas
with_mas_keeps mas r fits h = search (rules, fits, h)

mas_fits : (r : Registers) → AreKept r → MasFits (mas_of r)
mas_fits r h = record { m0 = h.mas0; m1 = h.mas1; m2 = h.mas2; m3 = h.mas3; m4 = h.mas4; m6 = h.mas6; m7 = h.bits.mas7 }

mas1_word : (v i tid s tsize : ℕ) → v < 2 → i < 2 → tid < 2 ^ 14 → s < 2 → tsize < 2 ^ 4 → IsWord (v * 2 ^ 31 + i * 2 ^ 30 + tid * 2 ^ 16 + s * 2 ^ 12 + tsize * 2 ^ 8)
mas1_word v i tid s tsize hv hi ht hs hz = omega arith

page_word : (page low : ℕ) → page < 2 ^ 32 → page % 2 ^ 12 ≡ 0 → low < 2 ^ 12 → IsWord (page + low)
page_word page low h whole small = omega arith

reporting_fits : (entry : Entry) (mas : Mas) → Fits entry → MasFits mas → MasFits (reporting entry mas)
unfolding reporting
reporting_fits entry mas h fits = record {
  m0 = fits.m0;
  m1 = mas1_word (bit entry.valid) (bit entry.iprot) entry.tid (bit entry.ts) entry.tsize (bit_small entry.valid) (bit_small entry.iprot) h.tid_small (bit_small entry.ts) h.tsize_small;
  m2 = page_word entry.epn entry.wimge h.epn_small h.epn_whole (omega (arith, h.wimge_small));
  m3 = page_word (entry.rpn % 2 ^ 32) entry.perms (omega arith) (omega (arith, h.rpn_whole)) (omega (arith, h.perms_small));
  m4 = fits.m4;
  m6 = fits.m6;
  m7 = upper_bits (entry.rpn / 2 ^ 32) (omega (arith, h.rpn_small));
}

slot_fits : (place : Option ℕ) (entries : List Entry) (mas : Mas) → slots.AreKept entries → MasFits mas → MasFits (reporting_slot place entries mas)
slot_fits None entries mas h fits = record { m0 = fits.m0; m1 = omega arith; m2 = omega arith; m3 = omega arith; m4 = fits.m4; m6 = fits.m6; m7 = upper_bits 0 (omega arith) }
slot_fits (Some slot) entries mas h fits = reporting_fits (entry_at entries slot) mas (h.each slot).fits fits

-- where MAS0 alone changes
with_m0 : (mas : Mas) (m0 : ℕ) → IsWord m0 → MasFits mas → MasFits (record mas { m0 = m0 })
with_m0 mas m0 h fits = record { m0 = h; m1 = fits.m1; m2 = fits.m2; m3 = fits.m3; m4 = fits.m4; m6 = fits.m6; m7 = fits.m7 }

next_fits : (nv : ℕ) (mas : Mas) → nv < 4 → MasFits mas → MasFits (reporting_next nv mas)
next_fits nv mas h fits = with_m0 mas (with_nv nv mas.m0) (omega (arith, fits.m0)) fits

place_word : (low : Bool) (slot m0 : ℕ) → IsWord m0 → IsWord (if low then with_tlbsel_esel 0 (slot % 4) m0 else with_tlbsel_esel 1 (slot - 512) m0)
place_word true slot m0 h = omega arith
place_word false slot m0 h = omega arith

naming_fits : (slot : ℕ) (mas : Mas) → MasFits mas → MasFits (naming slot mas)
naming_fits slot mas fits = with_m0 mas _ (place_word (nat_lt slot 512) slot mas.m0 fits.m0) fits

victim_word : (first : Bool) (tlbsel nv : ℕ) → tlbsel < 4 → nv < 4 → IsWord (tlbsel * 2 ^ 28 + (if first then nv * 2 ^ 16 + (nv + 1) % 4 else 0))
victim_word true tlbsel nv h k = omega arith
victim_word false tlbsel nv h k = omega arith

missed_fits : (mas : Mas) (pid : ℕ) (space : Bool) (ea nv : ℕ) → pid < 2 ^ 14 → IsWord ea → nv < 4 → MasFits mas → MasFits (missed mas pid space ea nv)
unfolding missed
missed_fits mas pid space ea nv process address counter fits =
    let small : bit space < 2 = bit_small space in
    record {
      m0 = victim_word (tlbsel_default mas.m4 == 0) (tlbsel_default mas.m4) nv (omega arith) counter;
      m1 = mas1_word 1 0 pid (bit space) (tsize_default mas.m4) (omega arith) (omega arith) process small (omega arith);
      m2 = page_word (ea - ea % 2 ^ 12) (wimge_default mas.m4) (omega arith) (omega arith) (omega arith);
      m3 = omega arith;
      m4 = fits.m4;
      m6 = omega (arith, process, small);
      m7 = upper_bits 0 (omega arith);
    }

not_found_fits : (ea nv : ℕ) (mas : Mas) → IsWord ea → nv < 4 → MasFits mas → MasFits (not_found ea nv mas)
not_found_fits ea nv mas address counter fits =
    let miss = missed_fits mas (spid_field mas.m6) (sas_bit mas.m6) ea nv (omega arith) address counter fits in
    record { m0 = miss.m0; m1 = omega arith; m2 = miss.m2; m3 = miss.m3; m4 = miss.m4; m6 = fits.m6; m7 = miss.m7 }

search_fits : (found : Option ℕ) (ea : ℕ) (entries : List Entry) (nv : ℕ) (mas : Mas) → IsWord ea → nv < 4 → slots.AreKept entries → MasFits mas → MasFits (reporting_search found ea entries nv mas)
search_fits (Some slot) ea entries nv mas address counter h fits =
    next_fits nv _ counter (reporting_fits (entry_at entries slot) (naming slot mas) (h.each slot).fits (naming_fits slot mas fits))
search_fits None ea entries nv mas address counter h fits = not_found_fits ea nv mas address counter fits

-- ---- the place and the state

address_whole : (a : ℕ) → instruction_address a % 4 ≡ 0
address_whole a = omega arith

address_word : (a : ℕ) → IsWord a → IsWord (instruction_address a)
address_word a h = omega arith

pc_keeps : (r : Registers) (pc : ℕ) → pc % 4 ≡ 0 → IsWord pc → AreKept r → AreKept (record r { pc = pc })
pc_keeps r pc whole word h = search (rules, whole, word, h)

state_keeps : (r : Registers) (state : ℕ) → AreKept r → AreKept (record r { msr = machine_state state })
state_keeps r state h = let twice = state_twice state in search (rules, twice, h)

advanced_keeps : (r : Registers) → AreKept r → AreKept (advanced r)
unfolding advanced
advanced_keeps r h = pc_keeps r (instruction_address ((r.pc + 4) % 2 ^ 32)) (address_whole ((r.pc + 4) % 2 ^ 32)) (address_word ((r.pc + 4) % 2 ^ 32) (omega arith)) h

returned_keeps : (address state : ℕ) (r : Registers) → IsWord address → AreKept r → AreKept (returned address state r)
unfolding returned
returned_keeps address state r word h = pc_keeps (record r { msr = machine_state state }) (instruction_address address) (address_whole address) (address_word address word) (state_keeps r state h)

gpr_keeps : (r : Registers) (n value : ℕ) → IsWord value → AreKept r → AreKept (with_gpr r n value)
gpr_keeps r n value word h =
    let general = words_set 32 n value r.gpr word h.gpr in
    search (rules, general, h)

state_word : (r : Registers) → AreKept r → IsWord r.msr
state_word r h =
    let P : ℕ → Type 0 = IsWord in
    let under : bit_and r.msr state_bits ≤ state_bits = and_le_r r.msr state_bits in
    subst P h.bits.msr (or_lt 32 (bit_and r.msr state_bits) guest_state (omega arith) (omega arith))

-- ---- instructions

abbrev enabled : Bool → ℕ → ℕ
enabled on state = if on then bit_or state external_enable else bit_and state (bit_not w32 external_enable)

state_after_keeps : (operation : Op) (word : ℕ) (r : Registers) → AreKept r → AreKept (state_after operation word r)
unfolding state_after with_external_enable
state_after_keeps op.Rfi word r h = returned_keeps r.srr0 r.srr1 r h.srr0 h
state_after_keeps op.Rfci word r h = returned_keeps r.csrr0 r.csrr1 r h.csrr0 h
state_after_keeps op.Rfmci word r h = returned_keeps r.mcsrr0 r.mcsrr1 r h.mcsrr0 h
state_after_keeps op.Mfmsr word r h = advanced_keeps _ (gpr_keeps r (rt_field word) r.msr (state_word r h) h)
state_after_keeps op.Mtmsr word r h = advanced_keeps _ (state_keeps r (gpr_of r (rt_field word)) h)
state_after_keeps op.Wrtee word r h = advanced_keeps _ (state_keeps r (enabled (is_set external_enable (gpr_of r (rt_field word))) r.msr) h)
state_after_keeps op.Wrteei word r h = advanced_keeps _ (state_keeps r (enabled (enable_bit word == 1) r.msr) h)
state_after_keeps op.Tlbsync word r h = advanced_keeps r h
state_after_keeps op.Dcbi word r h = advanced_keeps r h
state_after_keeps _ word r h = h

pub emulation_keeps_registers : EmulationKeepsRegisters
unfolding emulated tlb_write tlb_read tlb_search
emulation_keeps_registers op.Tlbwe word nv r entries counter k h = advanced_keeps r h
emulation_keeps_registers op.Tlbre word nv r entries counter k h =
    advanced_keeps _ (with_mas_keeps _ r (next_fits nv _ counter (slot_fits (named_slot (mas_of r)) entries (mas_of r) k (mas_fits r h))) h)
emulation_keeps_registers op.Tlbsx word nv r entries counter k h =
    let ea : ℕ = indexed_address r (ra_field word) (rb_field word) in
    advanced_keeps _ (with_mas_keeps _ r (search_fits (search_of (sas_bit r.mas6) (spid_field r.mas6) ea entries) ea entries nv (mas_of r) (omega arith) counter k (mas_fits r h)) h)
emulation_keeps_registers op.Tlbilx word nv r entries counter k h = local_by (λ e. AreKept e.registers) word r entries nv (λ ends. advanced_keeps r h) h
emulation_keeps_registers op.Tlbivax word nv r entries counter k h = by_tlb (λ e. AreKept e.registers) (indexed_address r (ra_field word) (rb_field word)) r entries nv (λ ends. advanced_keeps r h)
emulation_keeps_registers operation word nv r entries counter k h = state_after_keeps operation word r h

-- ---- interrupts

handler_whole : (p v : ℕ) → (p / 2 ^ 16 * 2 ^ 16 + v / 2 ^ 4 % 2 ^ 12 * 2 ^ 4) % 4 ≡ 0
handler_whole p v = omega arith

handler_word : (p v : ℕ) → IsWord p → IsWord (p / 2 ^ 16 * 2 ^ 16 + v / 2 ^ 4 % 2 ^ 12 * 2 ^ 4)
handler_word p v h = omega arith

prefix_word : (r : Registers) → AreKept r → IsWord r.ivpr
prefix_word r h = let bound : r.ivpr ≤ 0xFFFF0000 = masked_bound 0xFFFF0000 r.ivpr h.bits.ivpr in omega arith

entered : (kind state : ℕ) (r s : Registers) → AreKept r → AreKept s → AreKept (record s { msr = machine_state state; pc = handler kind r })
entered kind state r s h k =
    pc_keeps (record s { msr = machine_state state }) (handler kind r) (handler_whole r.ivpr (slice_index r.ivor kind)) (handler_word r.ivpr (slice_index r.ivor kind) (prefix_word r h)) (state_keeps s state k)

interrupted_keeps : (kind back : ℕ) (r : Registers) → IsWord back → AreKept r → AreKept (interrupted kind back r)
unfolding interrupted
interrupted_keeps kind back r word h =
    let state : IsWord r.msr = state_word r h in
    let saved : AreKept (record r { srr0 = back; srr1 = r.msr }) = search (rules, word, state, h) in
    entered kind (bit_and r.msr (critical_enable + machine_check_enable)) r (record r { srr0 = back; srr1 = r.msr }) h saved

checked_keeps : (r : Registers) → AreKept r → AreKept (checked r)
unfolding checked
checked_keeps r h =
    let state : IsWord r.msr = state_word r h in
    let saved : AreKept (record r { mcsrr0 = r.pc; mcsrr1 = r.msr }) = search (rules, state, h) in
    entered 1 0 r (record r { mcsrr0 = r.pc; mcsrr1 = r.msr }) h saved

dear_esr_keeps : (address syndrome : ℕ) (r : Registers) → IsWord address → IsWord syndrome → AreKept r → AreKept (with_dear_esr address syndrome r)
dear_esr_keeps address syndrome r a s h = search (rules, a, s, h)

esr_keeps : (syndrome : ℕ) (r : Registers) → IsWord syndrome → AreKept r → AreKept (with_esr syndrome r)
esr_keeps syndrome r s h = search (rules, s, h)

process_small : (r : Registers) → AreKept r → r.pid < 2 ^ 14
process_small r h = let bound : r.pid ≤ 0x00003FFF = masked_bound 0x00003FFF r.pid h.bits.pid in omega arith

missing_keeps : (nv : ℕ) (space : Bool) (ea : ℕ) (r : Registers) → nv < 4 → IsWord ea → AreKept r → AreKept (missing nv space ea r)
unfolding missing
missing_keeps nv space ea r counter address h = with_mas_keeps _ r (missed_fits (mas_of r) r.pid space ea nv (process_small r h) address counter (mas_fits r h)) h

store_word : (store : Bool) → IsWord (store_syndrome store)
store_word true = omega arith
store_word false = omega arith

pub delivery_keeps_registers : DeliveryKeepsRegisters
unfolding delivered
delivery_keeps_registers MachineCheck nv r counter fits h = checked_keeps r h
delivery_keeps_registers (StorageData address syndrome) nv r counter fits h = interrupted_keeps 2 r.pc _ h.pc (dear_esr_keeps address syndrome r fits.0 fits.1 h)
delivery_keeps_registers (StorageInsn syndrome) nv r counter fits h = interrupted_keeps 3 r.pc _ h.pc (esr_keeps syndrome r fits h)
delivery_keeps_registers External nv r counter fits h = interrupted_keeps 4 r.pc r h.pc h
delivery_keeps_registers (Align address syndrome) nv r counter fits h = interrupted_keeps 5 r.pc _ h.pc (dear_esr_keeps address syndrome r fits.0 fits.1 h)
delivery_keeps_registers (Program syndrome) nv r counter fits h = interrupted_keeps 6 r.pc _ h.pc (esr_keeps syndrome r fits h)
delivery_keeps_registers NoFloat nv r counter fits h = interrupted_keeps 7 r.pc r h.pc h
delivery_keeps_registers Syscall nv r counter fits h = interrupted_keeps 8 (next_instruction r) r (omega arith) h
delivery_keeps_registers Decrementer nv r counter fits h = interrupted_keeps 10 r.pc r h.pc h
delivery_keeps_registers (MissData address store) nv r counter fits h =
    interrupted_keeps 13 r.pc _ h.pc (missing_keeps nv (data_space r) address _ counter fits (dear_esr_keeps address (store_syndrome store) r fits (store_word store) h))
delivery_keeps_registers (MissInsn address) nv r counter fits h = interrupted_keeps 14 r.pc _ h.pc (missing_keeps nv (instruction_space r) address r counter fits h)
