-- What instructions on translations keep: the next-victim counter stays a way of TLB0, and the slots keep what they kept.
use Rattle.std.proofs.Common.{arith, ℕ, ◌/◌, ◌%◌, ◌^◌, ◌<◌, ◌==◌, Bool, true, false, not, if◌then◌else◌, List, Some, None}
use Rattle.insn.specs.declared.instruction.Op.TheVariants as op
use Rattle.insn.specs.Fields.{ra_field, rb_field, invalidate_kind}
use Rattle.guest_regs.specs.Registers.{Registers, indexed_address}
use Rattle.mas.specs.declared.entry.Entry.{Entry}
use Rattle.mas.specs.Fields.{tlbsel_field, nv_field, spid_field}
use Rattle.guest_tlb.specs.Invalidation.{ends_all, ends_pid, ends_address}
use Rattle.guest_tlb.specs.Kept.{AreKept}
use Rattle.guest_tlb.proofs.Upkeep.{writes_keep_all, invalidations_keep_all}
use Rattle.trap_emulate.specs.Tlb.{Emulated, kept, mas_of, tlb_write, after_invalidation, tlb_invalidate_local, tlb_invalidate}
use Rattle.trap_emulate.specs.Privileged.{emulated}
use Rattle.trap_emulate.specs.Laws.{EmulationKeepsVictim, EmulationKeepsSlots}

-- whichever invalidation it is
one_of_four : (P : Emulated → Type 0) (a b c : Bool) (w x y z : Emulated) → P w → P x → P y → P z → P (if a then w else if b then x else if c then y else z)
one_of_four P true b c w x y z h i j k = h
one_of_four P false true c w x y z h i j k = i
one_of_four P false false true w x y z h i j k = j
one_of_four P false false false w x y z h i j k = k

pub local_by : (P : Emulated → Type 0) (word : ℕ) (registers : Registers) (slots : List Entry) (nv : ℕ) → ((ends : ℕ → Entry → Bool) → P (after_invalidation ends registers slots nv)) → P (kept slots nv registers) →
    P (tlb_invalidate_local word registers slots nv)
unfolding tlb_invalidate_local
local_by P word registers slots nv each none =
    let pid : ℕ = spid_field registers.mas6 in
    let by_address : ℕ → Entry → Bool = ends_address (indexed_address registers (ra_field word) (rb_field word)) (Some pid) true true in
    one_of_four P (invalidate_kind word == 0) (invalidate_kind word == 1) (invalidate_kind word == 3) (after_invalidation (ends_all true true) registers slots nv) (after_invalidation (ends_pid pid) registers slots nv)
    (after_invalidation by_address registers slots nv) (kept slots nv registers) (each (ends_all true true)) (each (ends_pid pid)) (each by_address) none

one_of_two : (P : Emulated → Type 0) (a : Bool) (w x : Emulated) → P w → P x → P (if a then w else x)
one_of_two P true w x h i = h
one_of_two P false w x h i = i

pub by_tlb : (P : Emulated → Type 0) (ea : ℕ) (registers : Registers) (slots : List Entry) (nv : ℕ) → ((ends : ℕ → Entry → Bool) → P (after_invalidation ends registers slots nv)) → P (tlb_invalidate ea registers slots nv)
unfolding tlb_invalidate
by_tlb P ea registers slots nv each =
    let tlb1 : Bool = ea / 2 ^ 3 % 2 == 1 in
    let all : ℕ → Entry → Bool = ends_all (not tlb1) tlb1 in
    let by_address : ℕ → Entry → Bool = ends_address ea None (not tlb1) tlb1 in
    one_of_two P (ea / 2 ^ 2 % 2 == 1) (after_invalidation all registers slots nv) (after_invalidation by_address registers slots nv) (each all) (each by_address)

counter_small : (first : Bool) (n nv : ℕ) → nv < 4 → (if first then n % 4 else nv) < 4
counter_small true n nv h = omega arith
counter_small false n nv h = h

pub emulation_keeps_victim : EmulationKeepsVictim
unfolding emulated tlb_write
emulation_keeps_victim op.Tlbwe word nv registers slots h = counter_small (tlbsel_field registers.mas0 == 0) (nv_field registers.mas0) nv h
emulation_keeps_victim op.Tlbilx word nv registers slots h = local_by (λ e. e.nv < 4) word registers slots nv (λ ends. h) h
emulation_keeps_victim op.Tlbivax word nv registers slots h = by_tlb (λ e. e.nv < 4) (indexed_address registers (ra_field word) (rb_field word)) registers slots nv (λ ends. h)
emulation_keeps_victim operation word nv registers slots h = h

pub emulation_keeps_slots : EmulationKeepsSlots
unfolding emulated tlb_write
emulation_keeps_slots op.Tlbwe word nv registers slots h = writes_keep_all (mas_of registers) slots h
emulation_keeps_slots op.Tlbilx word nv registers slots h = local_by (λ e. AreKept e.slots) word registers slots nv (λ ends. invalidations_keep_all ends slots h) h
emulation_keeps_slots op.Tlbivax word nv registers slots h = by_tlb (λ e. AreKept e.slots) (indexed_address registers (ra_field word) (rb_field word)) registers slots nv (λ ends. invalidations_keep_all ends slots h)
emulation_keeps_slots operation word nv registers slots h = h
