-- What the definitions of this crate mean together and over whole runs: clocks keep time, a return undoes an entry, and what a core
-- keeps stays.
use Rattle.std.specs.Prelude.{◌≡◌, ℕ, zero, suc, ◌+◌, ◌-◌, ◌%◌, ◌^◌, ◌<◌, List, bit_or, if◌then◌else◌}
use Rattle.insn.specs.declared.instruction.Op.{Op}
use Rattle.insn.specs.declared.instruction.Op.TheVariants as op
use Rattle.guest_regs.specs.State.{is_set}
use Rattle.guest_regs.specs.Registers.{Registers, machine_state}
use Rattle.guest_regs.specs.Kept.{IsWord, AreKept as RegistersAreKept}
use Rattle.mas.specs.declared.entry.Entry.{Entry}
use Rattle.guest_tlb.specs.Kept.{AreKept as SlotsAreKept}
use Rattle.trap_emulate.specs.declared.cause.Cause.{Cause}
use Rattle.trap_emulate.specs.declared.cause.Cause.TheVariants.{MachineCheck, StorageData, StorageInsn, Align, Program, Syscall, MissData, MissInsn}
use Rattle.trap_emulate.specs.Clock.{ticked, auto_reload, decrementer_status}
use Rattle.trap_emulate.specs.Entry.{delivered, next_instruction}
use Rattle.trap_emulate.specs.Privileged.{state_after, emulated}

-- the registers when so many steps have passed that changed nothing else
abbrev pub after_steps : ℕ → Registers → Registers
after_steps zero registers = registers
after_steps (suc n) registers = ticked (after_steps n registers)

-- The time base counts the steps.
abbrev pub TimeCountsSteps : Type 0
TimeCountsSteps =
    (n : ℕ) (registers : Registers) → registers.time < 2 ^ 64 →
    (after_steps n registers).time ≡ (registers.time + n) % 2 ^ 64

-- A decrementer leaves its status before its last step,
abbrev pub FallsInSilence : Type 0
FallsInSilence =
    (n : ℕ) (registers : Registers) → n < registers.dec →
    ((after_steps n registers).dec ≡ registers.dec - n) × ((after_steps n registers).tsr ≡ registers.tsr)

-- and at that step it expires, and is reloaded where ARE asks for it.
abbrev pub ExpiresOnTime : Type 0
ExpiresOnTime =
    (n : ℕ) (registers : Registers) → registers.dec ≡ suc n →
    ((after_steps (suc n) registers).dec ≡ (if is_set auto_reload registers.tcr then registers.decar else 0)) × ((after_steps (suc n) registers).tsr ≡ bit_or registers.tsr decrementer_status)

-- At 0 it rests.
abbrev pub RestsAtZero : Type 0
RestsAtZero =
    (n : ℕ) (registers : Registers) → registers.dec ≡ 0 →
    ((after_steps n registers).dec ≡ 0) × ((after_steps n registers).tsr ≡ registers.tsr)

-- the instruction that returns from the interrupt of a cause
abbrev pub return_from : Cause → Op
return_from MachineCheck = op.Rfmci
return_from _ = op.Rfi

-- where a program goes on after the interrupt of a cause
abbrev pub resumption : Cause → Registers → ℕ
resumption Syscall registers = next_instruction registers
resumption _ registers = registers.pc

-- the registers without those that interrupts save and report in
abbrev pub apart_from_interrupts : Registers → Registers
apart_from_interrupts registers = record registers {
  srr0 = 0;
  srr1 = 0;
  mcsrr0 = 0;
  mcsrr1 = 0;
  dear = 0;
  esr = 0;
  mas0 = 0;
  mas1 = 0;
  mas2 = 0;
  mas3 = 0;
  mas6 = 0;
  mas7 = 0;
}

-- An interrupt and the return from it leave a core as it was, in the machine state that it had, where the program goes on.
abbrev pub ReturnsGoBack : Type 0
ReturnsGoBack =
    (cause : Cause) (word nv : ℕ) (registers : Registers) → registers.pc % 4 ≡ 0 → machine_state registers.msr ≡ registers.msr →
    let back = state_after (return_from cause) word (delivered nv cause registers) in
    apart_from_interrupts back ≡ apart_from_interrupts (record registers { pc = resumption cause registers })

-- The next-victim counter stays a way of TLB0 through every instruction. An interrupt has no counter to change.
abbrev pub EmulationKeepsVictim : Type 0
EmulationKeepsVictim =
    (operation : Op) (word nv : ℕ) (registers : Registers) (slots : List Entry) → nv < 4 → (emulated operation word registers slots nv).nv < 4

-- What the slots of the translations keep stays through every instruction.
abbrev pub EmulationKeepsSlots : Type 0
EmulationKeepsSlots =
    (operation : Op) (word nv : ℕ) (registers : Registers) (slots : List Entry) → SlotsAreKept slots → SlotsAreKept (emulated operation word registers slots nv).slots

-- What registers keep stays through every instruction,
abbrev pub EmulationKeepsRegisters : Type 0
EmulationKeepsRegisters =
    (operation : Op) (word nv : ℕ) (registers : Registers) (slots : List Entry) → nv < 4 → SlotsAreKept slots → RegistersAreKept registers →
    RegistersAreKept (emulated operation word registers slots nv).registers

-- the address and the syndrome of a cause are of 32 bits
abbrev pub CauseFits : Cause → Type 0
CauseFits (StorageData address syndrome) = IsWord address × IsWord syndrome
CauseFits (StorageInsn syndrome) = IsWord syndrome
CauseFits (Align address syndrome) = IsWord address × IsWord syndrome
CauseFits (Program syndrome) = IsWord syndrome
CauseFits (MissData address store) = IsWord address
CauseFits (MissInsn address) = IsWord address
CauseFits _ = Unit {0}

-- through the entry of every interrupt,
abbrev pub DeliveryKeepsRegisters : Type 0
DeliveryKeepsRegisters =
    (cause : Cause) (nv : ℕ) (registers : Registers) → nv < 4 → CauseFits cause → RegistersAreKept registers → RegistersAreKept (delivered nv cause registers)

-- and through one step's time.
abbrev pub TimeKeepsRegisters : Type 0
TimeKeepsRegisters = (registers : Registers) → RegistersAreKept registers → RegistersAreKept (ticked registers)
