-- The rows of several instructions of one kind (Power ISA 2.06, Book I: sections 2.4, 2.5 and 3.3.8 to 3.3.15).
use Rattle.std.specs.Prelude.{ℕ, ◌+◌, ◌-◌, ◌*◌, ◌/◌, ◌%◌, ◌^◌, ◌==◌, Bool, true, false, not, ◌&&◌, ◌||◌, ℤ, pos, ◌+ℤ◌, bit_and, if◌then◌else◌}
use Rattle.std.specs.Int.{w32, cast_unsigned}
use Rattle.insn.specs.Fields.{rt_field, ra_field, rb_field, absolute_bit, link_bit, branch_displacement, bf_field, bfa_field, mask_begin, mask_end, fxm_field}
use Rattle.guest_regs.specs.Registers.{Registers, advanced}
use Rattle.insn_alu.specs.Numbers.{signed_value, overflows, mask, inserted, rotated, shifted_algebraic, algebraic_carry}
use Rattle.insn_alu.specs.Fields.{condition_field, with_field, condition_bit, with_bit, with_carry, with_condition, gone_to, a_of, b_of, s_of, base_of, result_in, result_recorded, result_in_form, arithmetic}

-- a sum of two words and a carry, as an arithmetic row gives it
unfoldable pub sum_row : ℕ → ℕ → ℕ → ℕ → Registers → Registers
sum_row word left right carry registers =
    arithmetic word ((left + right + carry) % 2 ^ 32) (overflows (signed_value left +ℤ signed_value right +ℤ pos carry)) registers

-- the same, where CA takes the carry out of the unbounded sum
unfoldable pub carrying_row : ℕ → ℕ → ℕ → ℕ → Registers → Registers
carrying_row word left right carry registers = sum_row word left right carry (with_carry ((left + right + carry) / 2 ^ 32) registers)

-- a sum with an immediate whose carry goes to CA
unfoldable pub carrying_in : ℕ → ℕ → ℕ → ℕ → Registers → Registers
carrying_in n left right carry registers = result_in n ((left + right + carry) % 2 ^ 32) (with_carry ((left + right + carry) / 2 ^ 32) registers)

unfoldable pub carrying_recorded : ℕ → ℕ → ℕ → ℕ → Registers → Registers
carrying_recorded n left right carry registers = result_recorded n ((left + right + carry) % 2 ^ 32) (with_carry ((left + right + carry) / 2 ^ 32) registers)

-- a comparison goes to field BF
unfoldable pub comparison_row : ℕ → ℕ → Registers → Registers
comparison_row word order registers = advanced (with_condition (bf_field word) order registers)

-- rlwinm and rlwnm: rotated, under the mask
unfoldable pub rotation_row : ℕ → ℕ → Registers → Registers
rotation_row word count registers =
    result_in_form word (ra_field word) (bit_and (rotated (s_of word registers) count) (mask (mask_begin word) (mask_end word))) registers

-- rlwimi: (RA) stays outside the mask
unfoldable pub insertion_row : ℕ → ℕ → Registers → Registers
insertion_row word count registers =
    result_in_form word (ra_field word) (inserted (mask (mask_begin word) (mask_end word)) (rotated (s_of word registers) count) (a_of word registers)) registers

-- sraw and srawi
unfoldable pub algebraic_row : ℕ → ℕ → Registers → Registers
algebraic_row word count registers =
    result_in_form word (ra_field word) (shifted_algebraic (s_of word registers) count)
    (with_carry (if algebraic_carry (s_of word registers) count then 1 else 0) registers)

-- isel
unfoldable pub selected : ℕ → Registers → ℕ
selected word registers = if condition_bit registers.cr (mask_begin word) then base_of word registers else b_of word registers

-- whether two tests agree
abbrev pub same : Bool → Bool → Bool
same true other = other
same false other = not other

-- BO, in RT's place: 16 asks for no condition, else 8 is what bit BI must be; 4 leaves CTR alone, else it falls by one, and 2 is
-- whether it must then be 0.
abbrev pub condition_met : ℕ → Registers → Bool
condition_met word registers =
    (rt_field word / 16 % 2 == 1) || same (condition_bit registers.cr (ra_field word)) (rt_field word / 8 % 2 == 1)

abbrev pub counts : ℕ → Bool
counts word = rt_field word / 4 % 2 == 0

abbrev pub counted : ℕ → Registers → Registers
counted word registers = if counts word then record registers { ctr = (registers.ctr + (2 ^ 32 - 1)) % 2 ^ 32 } else registers

-- of the registers after the count
abbrev pub count_met : ℕ → Registers → Bool
count_met word registers = not (counts word) || same (registers.ctr == 0) (rt_field word / 2 % 2 == 1)

-- LK keeps the address of the next instruction, also where the branch isn't taken
abbrev pub linked : ℕ → Registers → Registers
linked word registers = if link_bit word == 1 then record registers { lr = (registers.pc + 4) % 2 ^ 32 } else registers

unfoldable pub branched : ℕ → Bool → ℕ → Registers → Registers
branched word taken target registers = if taken then gone_to target (linked word registers) else advanced (linked word registers)

-- forward from the branch itself, or from 0 where AA is 1
abbrev pub target_of : ℕ → ℤ → Registers → ℕ
target_of word displacement registers = ((if absolute_bit word == 1 then 0 else registers.pc) + cast_unsigned w32 displacement) % 2 ^ 32

unfoldable pub branch_row : ℕ → Registers → Registers
branch_row word registers = branched word true (target_of word (branch_displacement word) registers) registers

-- where the count and the condition allow it
unfoldable pub conditional_row : ℕ → ℕ → Registers → Registers
conditional_row word target registers =
    branched word (count_met word (counted word registers) && condition_met word registers) target (counted word registers)

-- bcctr neither changes CTR nor looks at its count
unfoldable pub count_register_row : ℕ → Registers → Registers
count_register_row word registers = branched word (condition_met word registers) registers.ctr registers

-- a bit of the condition register from two others
unfoldable pub condition_row : ℕ → Bool → Registers → Registers
condition_row word value registers = advanced (record registers { cr = with_bit registers.cr (rt_field word) value })

abbrev pub first_bit : ℕ → Registers → Bool
first_bit word registers = condition_bit registers.cr (ra_field word)

abbrev pub second_bit : ℕ → Registers → Bool
second_bit word registers = condition_bit registers.cr (rb_field word)

-- mcrf
unfoldable pub field_row : ℕ → Registers → Registers
field_row word registers = advanced (record registers { cr = with_field registers.cr (bf_field word) (condition_field registers.cr (bfa_field word)) })

-- the fields that FXM names, from the first bit for field 0, come from the one word, and the others from the other
abbrev pub chosen_field : ℕ → ℕ → ℕ → ℕ → ℕ
chosen_field fxm one other n = if fxm / 2 ^ (7 - n) % 2 == 1 then condition_field one n else condition_field other n

unfoldable pub chosen_fields : ℕ → ℕ → ℕ → ℕ
chosen_fields fxm one other =
    chosen_field fxm one other 0 * 2 ^ 28
    + chosen_field fxm one other 1 * 2 ^ 24
    + chosen_field fxm one other 2 * 2 ^ 20
    + chosen_field fxm one other 3 * 2 ^ 16
    + chosen_field fxm one other 4 * 2 ^ 12
    + chosen_field fxm one other 5 * 2 ^ 8
    + chosen_field fxm one other 6 * 2 ^ 4
    + chosen_field fxm one other 7

-- mtcrf
unfoldable pub fields_row : ℕ → Registers → Registers
fields_row word registers = advanced (record registers { cr = chosen_fields (fxm_field word) (s_of word registers) registers.cr })
