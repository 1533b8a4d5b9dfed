-- A return undoes an entry.
use Rattle.std.proofs.Common.{◌≡◌, ℕ, ◌+◌, ◌%◌, ◌^◌, ◌∙◌, ap, arith}
use Rattle.guest_regs.specs.Registers.{Registers, instruction_address, machine_state}
use Rattle.mas.specs.Translation.{missed}
use Rattle.trap_emulate.specs.declared.cause.Cause.TheVariants.{MachineCheck, StorageData, StorageInsn, External, Align, Program, NoFloat, Syscall, Decrementer, MissData, MissInsn}
use Rattle.trap_emulate.specs.Entry.{delivered, interrupted, checked}
use Rattle.trap_emulate.specs.Tlb.{missing, with_mas}
use Rattle.trap_emulate.specs.Privileged.{state_after, returned}
use Rattle.trap_emulate.specs.Laws.{ReturnsGoBack, apart_from_interrupts}

-- the registers at an address, in a machine state
abbrev placed : Registers → ℕ → ℕ → Registers
placed r address state = apart_from_interrupts (record r { pc = address; msr = state })

same_place : (r : Registers) (back address : ℕ) → back ≡ address → machine_state r.msr ≡ r.msr → placed r back (machine_state r.msr) ≡ placed r address r.msr
same_place r back address h k = ap (λ p. placed r p (machine_state r.msr)) h ∙ ap (λ m. placed r address m) k

here : (p : ℕ) → p % 4 ≡ 0 → instruction_address p ≡ p
here p h = omega (arith, h)

after_call : (p : ℕ) → p % 4 ≡ 0 → instruction_address ((p + 4) % 2 ^ 32) ≡ (p + 4) % 2 ^ 32
after_call p h = omega (arith, h)

pub returns_go_back : ReturnsGoBack
unfolding delivered interrupted checked missing missed with_mas state_after returned
returns_go_back MachineCheck word nv r h k = same_place r (instruction_address r.pc) r.pc (here r.pc h) k
returns_go_back (StorageData address syndrome) word nv r h k = same_place r (instruction_address r.pc) r.pc (here r.pc h) k
returns_go_back (StorageInsn syndrome) word nv r h k = same_place r (instruction_address r.pc) r.pc (here r.pc h) k
returns_go_back External word nv r h k = same_place r (instruction_address r.pc) r.pc (here r.pc h) k
returns_go_back (Align address syndrome) word nv r h k = same_place r (instruction_address r.pc) r.pc (here r.pc h) k
returns_go_back (Program syndrome) word nv r h k = same_place r (instruction_address r.pc) r.pc (here r.pc h) k
returns_go_back NoFloat word nv r h k = same_place r (instruction_address r.pc) r.pc (here r.pc h) k
returns_go_back Syscall word nv r h k = same_place r (instruction_address ((r.pc + 4) % 2 ^ 32)) ((r.pc + 4) % 2 ^ 32) (after_call r.pc h) k
returns_go_back Decrementer word nv r h k = same_place r (instruction_address r.pc) r.pc (here r.pc h) k
returns_go_back (MissData address store) word nv r h k = same_place r (instruction_address r.pc) r.pc (here r.pc h) k
returns_go_back (MissInsn address) word nv r h k = same_place r (instruction_address r.pc) r.pc (here r.pc h) k
