-- The privileged instructions (Power ISA 2.06, Book III-E, chapters 4 to 6).
use Rattle.std.specs.Prelude.{ℕ, ◌==◌, Bool, List, bit_and, bit_or, if◌then◌else◌}
use Rattle.std.specs.Int.{w32, bit_not}
use Rattle.insn.specs.declared.instruction.Op.{Op}
use Rattle.insn.specs.declared.instruction.Op.TheVariants as op
use Rattle.insn.specs.Fields.{rt_field, ra_field, rb_field, enable_bit}
use Rattle.guest_regs.specs.State.{is_set, external_enable}
use Rattle.guest_regs.specs.Registers.{Registers, gpr_of, with_gpr, indexed_address, instruction_address, advanced, machine_state}
use Rattle.mas.specs.declared.entry.Entry.{Entry}
use Rattle.trap_emulate.specs.Tlb.{Emulated, kept, tlb_write, tlb_read, tlb_search, tlb_invalidate_local, tlb_invalidate}

-- back to an address and a machine state that an interrupt saved
unfoldable pub returned : ℕ → ℕ → Registers → Registers
returned address state registers = record registers { pc = instruction_address address; msr = machine_state state }

-- EE is set or clear, and the other bits stay.
unfoldable pub with_external_enable : Bool → Registers → Registers
with_external_enable on registers = record registers {
  msr = machine_state (if on then bit_or registers.msr external_enable else bit_and registers.msr (bit_not w32 external_enable));
}

-- Returns take SRR0 and SRR1, or their like for critical interrupts and machine checks. tlbsync and dcbi only go on.
unfoldable pub state_after : Op → ℕ → Registers → Registers
state_after op.Rfi word registers = returned registers.srr0 registers.srr1 registers
state_after op.Rfci word registers = returned registers.csrr0 registers.csrr1 registers
state_after op.Rfmci word registers = returned registers.mcsrr0 registers.mcsrr1 registers
state_after op.Mfmsr word registers = advanced (with_gpr registers (rt_field word) registers.msr)
state_after op.Mtmsr word registers = advanced (record registers { msr = machine_state (gpr_of registers (rt_field word)) })
state_after op.Wrtee word registers = advanced (with_external_enable (is_set external_enable (gpr_of registers (rt_field word))) registers)
state_after op.Wrteei word registers = advanced (with_external_enable (enable_bit word == 1) registers)
state_after op.Tlbsync word registers = advanced registers
state_after op.Dcbi word registers = advanced registers
state_after _ word registers = registers

-- Every privileged instruction. Every other one leaves all as it is.
unfoldable pub emulated : Op → ℕ → Registers → List Entry → ℕ → Emulated
emulated op.Tlbwe word registers slots nv = tlb_write registers slots nv
emulated op.Tlbre word registers slots nv = kept slots nv (tlb_read registers slots nv)
emulated op.Tlbsx word registers slots nv = kept slots nv (tlb_search (indexed_address registers (ra_field word) (rb_field word)) registers slots nv)
emulated op.Tlbilx word registers slots nv = tlb_invalidate_local word registers slots nv
emulated op.Tlbivax word registers slots nv = tlb_invalidate (indexed_address registers (ra_field word) (rb_field word)) registers slots nv
emulated operation word registers slots nv = kept slots nv (state_after operation word registers)
