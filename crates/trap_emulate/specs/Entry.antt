-- The entry of interrupts (Power ISA 2.06, Book III-E, chapter 7).
use Rattle.std.specs.Prelude.{ℕ, ◌+◌, ◌*◌, ◌/◌, ◌%◌, ◌^◌, Bool, true, slice_index, bit_and}
use Rattle.guest_regs.specs.State.{is_set, critical_enable, external_enable, machine_check_enable, store_syndrome}
use Rattle.guest_regs.specs.Registers.{Registers, machine_state, instruction_space, data_space}
use Rattle.trap_emulate.specs.declared.cause.Cause.{Cause}
use Rattle.trap_emulate.specs.declared.cause.Cause.TheVariants.{MachineCheck, StorageData, StorageInsn, External, Align, Program, NoFloat, Syscall, Decrementer, MissData, MissInsn}
use Rattle.trap_emulate.specs.Tlb.{missing}

-- The address of a kind's handler: 16 bits of IVPR, 12 bits of the kind's IVOR, and four zeros.
abbrev pub handler : ℕ → Registers → ℕ
handler kind registers = registers.ivpr / 2 ^ 16 * 2 ^ 16 + slice_index registers.ivor kind / 2 ^ 4 % 2 ^ 12 * 2 ^ 4

-- An interrupt saves where to go back to and the machine state in SRR0 and SRR1. Of the state CE and ME stay, and GS, which is always 1.
unfoldable pub interrupted : ℕ → ℕ → Registers → Registers
interrupted kind back registers = record registers {
  srr0 = back;
  srr1 = registers.msr;
  msr = machine_state (bit_and registers.msr (critical_enable + machine_check_enable));
  pc = handler kind registers;
}

-- A machine check saves them in MCSRR0 and MCSRR1, and of the state nothing stays but GS.
unfoldable pub checked : Registers → Registers
checked registers = record registers {
  mcsrr0 = registers.pc;
  mcsrr1 = registers.msr;
  msr = machine_state 0;
  pc = handler 1 registers;
}

-- DEAR takes the address of the access, and ESR what was wrong.
abbrev pub with_dear_esr : ℕ → ℕ → Registers → Registers
with_dear_esr address syndrome registers = record registers { dear = address; esr = syndrome }

abbrev pub with_esr : ℕ → Registers → Registers
with_esr syndrome registers = record registers { esr = syndrome }

-- the next instruction, where a system call goes back to
abbrev pub next_instruction : Registers → ℕ
next_instruction registers = (registers.pc + 4) % 2 ^ 32

-- Each cause has its kind's number. All go back to the instruction that was to be done, but a system call to the one after it. A TLB
-- error also reports in the MAS registers what missed, with the next victim.
unfoldable pub delivered : ℕ → Cause → Registers → Registers
delivered nv MachineCheck registers = checked registers
delivered nv (StorageData address syndrome) registers = interrupted 2 registers.pc (with_dear_esr address syndrome registers)
delivered nv (StorageInsn syndrome) registers = interrupted 3 registers.pc (with_esr syndrome registers)
delivered nv External registers = interrupted 4 registers.pc registers
delivered nv (Align address syndrome) registers = interrupted 5 registers.pc (with_dear_esr address syndrome registers)
delivered nv (Program syndrome) registers = interrupted 6 registers.pc (with_esr syndrome registers)
delivered nv NoFloat registers = interrupted 7 registers.pc registers
delivered nv Syscall registers = interrupted 8 (next_instruction registers) registers
delivered nv Decrementer registers = interrupted 10 registers.pc registers
delivered nv (MissData address store) registers =
    interrupted 13 registers.pc (missing nv (data_space registers) address (with_dear_esr address (store_syndrome store) registers))
delivered nv (MissInsn address) registers = interrupted 14 registers.pc (missing nv (instruction_space registers) address registers)

-- External and decrementer interrupts are entered only where EE is set.
abbrev pub are_interrupts_enabled : Registers → Bool
are_interrupts_enabled registers = is_set external_enable registers.msr

-- A machine check is entered only where ME is set, and every other cause always.
abbrev pub may_enter : Cause → Registers → Bool
may_enter MachineCheck registers = is_set machine_check_enable registers.msr
may_enter _ registers = true
