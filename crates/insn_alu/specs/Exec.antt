-- What each instruction does (Power ISA 2.06, Books I, II and III-E): tables in the manual's order, a row for each instruction, and then the
-- instruction's row in them.
use Rattle.std.specs.Prelude.{◌≡◌, ⊤, ℕ, Option, Some, None, List, [], ◌∷◌, ◌+◌, ◌-◌, ◌/◌, ◌%◌, ◌^◌, ◌==◌, not, ◌&&◌, ◌||◌, pos, ◌*ℤ◌, bit_and, bit_or, bit_xor, if◌then◌else◌}
use Rattle.std.specs.Int.{w32, leading_zeros}
use Rattle.insn.specs.declared.instruction.Op.{Op}
use Rattle.insn.specs.declared.instruction.Op.TheVariants as op
use Rattle.insn.specs.Fields.{rt_field, ra_field, rb_field, immediate, conditional_displacement, spr_field, invalidate_kind}
use Rattle.guest_regs.specs.declared.answer.ReadAnswer.{ReadAnswer}
use Rattle.guest_regs.specs.declared.answer.ReadAnswer.TheVariants as read
use Rattle.guest_regs.specs.declared.answer.WriteAnswer.{WriteAnswer}
use Rattle.guest_regs.specs.declared.answer.WriteAnswer.TheVariants as write
use Rattle.guest_regs.specs.Registers.{Registers, advanced, in_problem_state}
use Rattle.guest_regs.specs.Special.{spr_read, spr_write, Written}
use Rattle.insn_alu.specs.declared.effect.Effect.{Effect}
use Rattle.insn_alu.specs.declared.transfer.Transfer.{Transfer}
use Rattle.insn_alu.specs.declared.effect.Effect.TheVariants.{Done, Memory, Priv, Trap, Illegal, NoFloat, Syscall, Hcall, Wait}
use Rattle.insn_alu.specs.Numbers.{signed_value, complement, overflows, compared, shifted_left, shifted_right, extended_byte, extended_half, low_product, high_product, high_signed_product, has_no_quotient, signed_quotient, unsigned_quotient, traps}
use Rattle.insn_alu.specs.Fields.{carry, a_of, b_of, s_of, base_of, extended_immediate, upper, result_in, result_recorded, result_in_form, arithmetic}
use Rattle.insn_alu.specs.Rows.{sum_row, carrying_row, carrying_in, carrying_recorded, comparison_row, rotation_row, insertion_row, algebraic_row, selected, target_of, branch_row, conditional_row, count_register_row, condition_row, first_bit, second_bit, same, field_row, fields_row}
use Rattle.insn_alu.specs.Transfers.{accessed, transfer_of, transfer_effect}

-- what an instruction answers, and the registers after it
pub record Executed : Type 0 where
  pub effect : Effect
  pub after : Registers

-- A row: done, with these registers,
abbrev pub done : Registers → Option Executed
done registers = Some (record { effect = Done; after = registers })

-- or left to the layers above, with the registers as they were.
abbrev pub left : Effect → Registers → Option Executed
left effect registers = Some (record { effect = effect; after = registers })

-- twi and tw
unfoldable pub trap_row : ℕ → ℕ → ℕ → Registers → Option Executed
trap_row word one other registers = if traps (rt_field word) one other then left Trap registers else done (advanced registers)

-- mfspr and mtspr, which the numbers of registers may refuse
abbrev pub read_into : ℕ → ReadAnswer → Registers → Option Executed
read_into n (read.Value value) registers = done (result_in n value registers)
read_into n read.Illegal registers = left Illegal registers
read_into n read.Privileged registers = left Priv registers

abbrev pub written_by : WriteAnswer → Registers → Option Executed
written_by write.Done registers = done (advanced registers)
written_by write.Illegal registers = left Illegal registers
written_by write.Privileged registers = left Priv registers

unfoldable pub special_read_row : ℕ → Registers → Option Executed
special_read_row word registers = read_into (rt_field word) (spr_read (spr_field word) registers) registers

unfoldable pub special_write_row : ℕ → Registers → Option Executed
special_write_row word registers =
    let written : Written = spr_write (spr_field word) (s_of word registers) registers in
    written_by written.answer written.after

-- mftb, which has two numbers
unfoldable pub time_row : ℕ → Registers → Option Executed
time_row word registers =
    if spr_field word == 268 then done (result_in (rt_field word) (registers.time % 2 ^ 32) registers)
    else if spr_field word == 269 then done (result_in (rt_field word) (registers.time / 2 ^ 32) registers)
    else left Illegal registers

-- sc 1 calls the hypervisor, for the system alone.
abbrev pub call_effect : Registers → Effect
call_effect registers = if in_problem_state registers then Priv else Hcall

-- tlbilx has no T of 2.
abbrev pub invalidate_effect : ℕ → Registers → Effect
invalidate_effect word registers = if (invalidate_kind word == 2) && not (in_problem_state registers) then Illegal else Priv

-- Branches (Book I, section 2.4), the condition register (2.5), and the system call (2.6).
unfoldable pub branches_of : Op → ℕ → Registers → Option Executed
branches_of op.B word registers = done (branch_row word registers)
branches_of op.Bc word registers = done (conditional_row word (target_of word (conditional_displacement word) registers) registers)
branches_of op.Bclr word registers = done (conditional_row word registers.lr registers)
branches_of op.Bcctr word registers = done (count_register_row word registers)
branches_of op.Crand word registers = done (condition_row word (first_bit word registers && second_bit word registers) registers)
branches_of op.Crnand word registers = done (condition_row word (not (first_bit word registers && second_bit word registers)) registers)
branches_of op.Cror word registers = done (condition_row word (first_bit word registers || second_bit word registers) registers)
branches_of op.Crxor word registers = done (condition_row word (not (same (first_bit word registers) (second_bit word registers))) registers)
branches_of op.Crnor word registers = done (condition_row word (not (first_bit word registers || second_bit word registers)) registers)
branches_of op.Creqv word registers = done (condition_row word (same (first_bit word registers) (second_bit word registers)) registers)
branches_of op.Crandc word registers = done (condition_row word (first_bit word registers && not (second_bit word registers)) registers)
branches_of op.Crorc word registers = done (condition_row word (first_bit word registers || not (second_bit word registers)) registers)
branches_of op.Mcrf word registers = done (field_row word registers)
branches_of op.Sc word registers = left Syscall registers
branches_of _ word registers = None

-- Loads and stores (Book I, sections 3.3.2 to 3.3.5, and Book II, chapter 4): the access that they make, by their rows in Transfers.antt.
abbrev pub accessing : Option Transfer → ℕ → Registers → Option Executed
accessing None word registers = None
accessing (Some transfer) word registers = left (Memory (accessed transfer word registers)) registers

abbrev pub transfers_of : Op → ℕ → Registers → Option Executed
transfers_of operation word registers = accessing (transfer_of operation) word registers

-- Sums and differences (Book I, section 3.3.8). A difference is a sum with the complement of (RA).
unfoldable pub sums_of : Op → ℕ → Registers → Option Executed
sums_of op.Addi word registers = done (result_in (rt_field word) ((base_of word registers + extended_immediate word) % 2 ^ 32) registers)
sums_of op.Addis word registers = done (result_in (rt_field word) ((base_of word registers + upper word) % 2 ^ 32) registers)
sums_of op.Add word registers = done (sum_row word (a_of word registers) (b_of word registers) 0 registers)
sums_of op.Subf word registers = done (sum_row word (complement (a_of word registers)) (b_of word registers) 1 registers)
sums_of op.Addic word registers = done (carrying_in (rt_field word) (a_of word registers) (extended_immediate word) 0 registers)
sums_of op.AddicRecord word registers = done (carrying_recorded (rt_field word) (a_of word registers) (extended_immediate word) 0 registers)
sums_of op.Subfic word registers = done (carrying_in (rt_field word) (complement (a_of word registers)) (extended_immediate word) 1 registers)
sums_of op.Addc word registers = done (carrying_row word (a_of word registers) (b_of word registers) 0 registers)
sums_of op.Subfc word registers = done (carrying_row word (complement (a_of word registers)) (b_of word registers) 1 registers)
sums_of op.Adde word registers = done (carrying_row word (a_of word registers) (b_of word registers) (carry registers) registers)
sums_of op.Subfe word registers = done (carrying_row word (complement (a_of word registers)) (b_of word registers) (carry registers) registers)
sums_of op.Addme word registers = done (carrying_row word (a_of word registers) (2 ^ 32 - 1) (carry registers) registers)
sums_of op.Subfme word registers = done (carrying_row word (complement (a_of word registers)) (2 ^ 32 - 1) (carry registers) registers)
sums_of op.Addze word registers = done (carrying_row word (a_of word registers) 0 (carry registers) registers)
sums_of op.Subfze word registers = done (carrying_row word (complement (a_of word registers)) 0 (carry registers) registers)
sums_of op.Neg word registers = done (sum_row word (complement (a_of word registers)) 0 1 registers)
sums_of _ word registers = None

-- Products and quotients (Book I, section 3.3.8).
unfoldable pub products_of : Op → ℕ → Registers → Option Executed
products_of op.Mulli word registers = done (result_in (rt_field word) (low_product (a_of word registers) (extended_immediate word)) registers)
products_of op.Mulhw word registers = done (result_in_form word (rt_field word) (high_signed_product (a_of word registers) (b_of word registers)) registers)
products_of op.Mullw word registers = done (arithmetic word (low_product (a_of word registers) (b_of word registers)) (overflows (signed_value (a_of word registers) *ℤ signed_value (b_of word registers))) registers)
products_of op.Mulhwu word registers = done (result_in_form word (rt_field word) (high_product (a_of word registers) (b_of word registers)) registers)
products_of op.Divw word registers = done (arithmetic word (signed_quotient (a_of word registers) (b_of word registers)) (has_no_quotient (a_of word registers) (b_of word registers)) registers)
products_of op.Divwu word registers = done (arithmetic word (unsigned_quotient (a_of word registers) (b_of word registers)) (b_of word registers == 0) registers)
products_of _ word registers = None

-- Comparisons (Book I, section 3.3.9), traps (3.3.10), and selection (3.3.11).
unfoldable pub comparisons_of : Op → ℕ → Registers → Option Executed
comparisons_of op.Cmpi word registers = done (comparison_row word (compared (signed_value (a_of word registers)) (signed_value (extended_immediate word))) registers)
comparisons_of op.Cmp word registers = done (comparison_row word (compared (signed_value (a_of word registers)) (signed_value (b_of word registers))) registers)
comparisons_of op.Cmpli word registers = done (comparison_row word (compared (pos (a_of word registers)) (pos (immediate word))) registers)
comparisons_of op.Cmpl word registers = done (comparison_row word (compared (pos (a_of word registers)) (pos (b_of word registers))) registers)
comparisons_of op.Twi word registers = trap_row word (a_of word registers) (extended_immediate word) registers
comparisons_of op.Tw word registers = trap_row word (a_of word registers) (b_of word registers) registers
comparisons_of op.Isel word registers = done (result_in (rt_field word) (selected word registers) registers)
comparisons_of _ word registers = None

-- Logic (Book I, section 3.3.12).
unfoldable pub logic_of : Op → ℕ → Registers → Option Executed
logic_of op.Andi word registers = done (result_recorded (ra_field word) (bit_and (s_of word registers) (immediate word)) registers)
logic_of op.Andis word registers = done (result_recorded (ra_field word) (bit_and (s_of word registers) (upper word)) registers)
logic_of op.Ori word registers = done (result_in (ra_field word) (bit_or (s_of word registers) (immediate word)) registers)
logic_of op.Oris word registers = done (result_in (ra_field word) (bit_or (s_of word registers) (upper word)) registers)
logic_of op.Xori word registers = done (result_in (ra_field word) (bit_xor (s_of word registers) (immediate word)) registers)
logic_of op.Xoris word registers = done (result_in (ra_field word) (bit_xor (s_of word registers) (upper word)) registers)
logic_of op.And word registers = done (result_in_form word (ra_field word) (bit_and (s_of word registers) (b_of word registers)) registers)
logic_of op.Xor word registers = done (result_in_form word (ra_field word) (bit_xor (s_of word registers) (b_of word registers)) registers)
logic_of op.Nand word registers = done (result_in_form word (ra_field word) (complement (bit_and (s_of word registers) (b_of word registers))) registers)
logic_of op.Or word registers = done (result_in_form word (ra_field word) (bit_or (s_of word registers) (b_of word registers)) registers)
logic_of op.Nor word registers = done (result_in_form word (ra_field word) (complement (bit_or (s_of word registers) (b_of word registers))) registers)
logic_of op.Eqv word registers = done (result_in_form word (ra_field word) (complement (bit_xor (s_of word registers) (b_of word registers))) registers)
logic_of op.Andc word registers = done (result_in_form word (ra_field word) (bit_and (s_of word registers) (complement (b_of word registers))) registers)
logic_of op.Orc word registers = done (result_in_form word (ra_field word) (bit_or (s_of word registers) (complement (b_of word registers))) registers)
logic_of op.Extsb word registers = done (result_in_form word (ra_field word) (extended_byte (s_of word registers)) registers)
logic_of op.Extsh word registers = done (result_in_form word (ra_field word) (extended_half (s_of word registers)) registers)
logic_of op.Cntlzw word registers = done (result_in_form word (ra_field word) (leading_zeros w32 (s_of word registers)) registers)
logic_of _ word registers = None

-- Rotations and shifts (Book I, section 3.3.13).
unfoldable pub rotations_of : Op → ℕ → Registers → Option Executed
rotations_of op.Rlwinm word registers = done (rotation_row word (rb_field word) registers)
rotations_of op.Rlwnm word registers = done (rotation_row word (b_of word registers % 32) registers)
rotations_of op.Rlwimi word registers = done (insertion_row word (rb_field word) registers)
rotations_of op.Slw word registers = done (result_in_form word (ra_field word) (shifted_left (s_of word registers) (b_of word registers % 64)) registers)
rotations_of op.Srw word registers = done (result_in_form word (ra_field word) (shifted_right (s_of word registers) (b_of word registers % 64)) registers)
rotations_of op.Srawi word registers = done (algebraic_row word (rb_field word) registers)
rotations_of op.Sraw word registers = done (algebraic_row word (b_of word registers % 64) registers)
rotations_of _ word registers = None

-- Moves of system registers (Book I, section 3.3.15), and floating point (chapter 4), which a core doesn't have.
unfoldable pub moves_of : Op → ℕ → Registers → Option Executed
moves_of op.Mtspr word registers = special_write_row word registers
moves_of op.Mfspr word registers = special_read_row word registers
moves_of op.Mtcrf word registers = done (fields_row word registers)
moves_of op.Mfcr word registers = done (result_in (rt_field word) registers.cr registers)
moves_of op.FloatingPoint word registers = left NoFloat registers
moves_of _ word registers = None

-- Storage control and synchronization (Book II, chapter 4), of which a guest sees nothing, and the time base (chapter 5).
unfoldable pub storage_of : Op → ℕ → Registers → Option Executed
storage_of op.Icbi word registers = done (advanced registers)
storage_of op.Icbt word registers = done (advanced registers)
storage_of op.Dcba word registers = done (advanced registers)
storage_of op.Dcbt word registers = done (advanced registers)
storage_of op.Dcbtst word registers = done (advanced registers)
storage_of op.Dcbst word registers = done (advanced registers)
storage_of op.Dcbf word registers = done (advanced registers)
storage_of op.Isync word registers = done (advanced registers)
storage_of op.Sync word registers = done (advanced registers)
storage_of op.Mbar word registers = done (advanced registers)
storage_of op.Wait word registers = left Wait registers
storage_of op.Mftb word registers = time_row word registers
storage_of _ word registers = None

-- What only the system may do (Book III-E, chapters 4 to 6): the call of the hypervisor, the machine state, and translations.
unfoldable pub privileged_of : Op → ℕ → Registers → Option Executed
privileged_of op.Hypercall word registers = left (call_effect registers) registers
privileged_of op.Rfi word registers = left Priv registers
privileged_of op.Rfci word registers = left Priv registers
privileged_of op.Rfmci word registers = left Priv registers
privileged_of op.Mtmsr word registers = left Priv registers
privileged_of op.Mfmsr word registers = left Priv registers
privileged_of op.Wrtee word registers = left Priv registers
privileged_of op.Wrteei word registers = left Priv registers
privileged_of op.Dcbi word registers = left Priv registers
privileged_of op.Tlbivax word registers = left Priv registers
privileged_of op.Tlbilx word registers = left (invalidate_effect word registers) registers
privileged_of op.Tlbsx word registers = left Priv registers
privileged_of op.Tlbre word registers = left Priv registers
privileged_of op.Tlbsync word registers = left Priv registers
privileged_of op.Tlbwe word registers = left Priv registers
privileged_of _ word registers = None

-- the first row that there is; without one the instruction is illegal
abbrev pub the_row : List (Option Executed) → Registers → Executed
the_row [] registers = record { effect = Illegal; after = registers }
the_row (Some row ∷ others) registers = row
the_row (None ∷ others) registers = the_row others registers

-- what each table has of an instruction
abbrev pub rows_of : Op → ℕ → Registers → List (Option Executed)
rows_of operation word registers =
    branches_of operation word registers
    ∷ transfers_of operation word registers
    ∷ sums_of operation word registers
    ∷ products_of operation word registers
    ∷ comparisons_of operation word registers
    ∷ logic_of operation word registers
    ∷ rotations_of operation word registers
    ∷ moves_of operation word registers
    ∷ storage_of operation word registers
    ∷ privileged_of operation word registers
    ∷ []

-- What an instruction does: its row in the tables.
unfoldable pub exec_of : Op → ℕ → Registers → Executed
exec_of operation word registers = the_row (rows_of operation word registers) registers

-- the registers change for Done alone
abbrev pub KeepsUnlessDone : Effect → Registers → Registers → Type 0
KeepsUnlessDone Done old new = ⊤
KeepsUnlessDone _ old new = new ≡ old

-- Memory comes for loads and stores alone
abbrev pub TransfersForMemory : Effect → Op → ℕ → Registers → Type 0
TransfersForMemory (Memory access) operation word registers = transfer_effect (transfer_of operation) word registers ≡ Memory access
TransfersForMemory _ operation word registers = ⊤

-- what a function does that knows one table: nothing where the instruction isn't in it
abbrev pub answered : Option Effect → Registers → Option Executed
answered None after = None
answered (Some effect) after = Some (record { effect = effect; after = after })

abbrev pub KeepsUnlessAnswered : Option Effect → Registers → Registers → Type 0
KeepsUnlessAnswered None old new = new ≡ old
KeepsUnlessAnswered (Some effect) old new = KeepsUnlessDone effect old new

-- an answer without an access
abbrev pub HasNoAccess : Option Effect → Type 0
HasNoAccess (Some (Memory access)) = ⊥
HasNoAccess _ = ⊤
