-- The fields of the condition register and of XER (Power ISA 2.06, Book I, sections 2.3.1 and 3.2.2), and how an instruction ends.
use Rattle.std.specs.Prelude.{ℕ, ◌+◌, ◌-◌, ◌*◌, ◌/◌, ◌%◌, ◌^◌, ◌==◌, Bool, pos, bit_and, if◌then◌else◌}
use Rattle.std.specs.Int.{w32, cast_unsigned}
use Rattle.insn.specs.Fields.{rt_field, ra_field, rb_field, immediate, signed_immediate, record_bit, overflow_bit}
use Rattle.guest_regs.specs.Registers.{Registers, gpr_of, gpr_or_zero, with_gpr, instruction_address, advanced, xer_bits}
use Rattle.insn_alu.specs.Numbers.{signed_value, compared}

-- another digit at a place of a number that is written in a base
abbrev pub replaced : ℕ → ℕ → ℕ → ℕ → ℕ
replaced base place digit number = number / (base * place) * (base * place) + digit * place + number % place

-- condition field 0 is the first of eight digits in base 16
abbrev pub field_place : ℕ → ℕ
field_place n = 2 ^ (28 - 4 * n)

abbrev pub condition_field : ℕ → ℕ → ℕ
condition_field cr n = cr / field_place n % 16

abbrev pub with_field : ℕ → ℕ → ℕ → ℕ
with_field cr n value = replaced 16 (field_place n) value cr

-- bit 0 is the most significant of 32
abbrev pub condition_bit : ℕ → ℕ → Bool
condition_bit cr n = cr / 2 ^ (31 - n) % 2 == 1

abbrev pub with_bit : ℕ → ℕ → Bool → ℕ
with_bit cr n value = replaced 2 (2 ^ (31 - n)) (if value then 1 else 0) cr

-- XER keeps the bits that it has
abbrev pub with_xer : ℕ → Registers → Registers
with_xer value registers = record registers { xer = bit_and value xer_bits }

-- SO and CA
abbrev pub summary : Registers → ℕ
summary registers = registers.xer / 2 ^ 31 % 2

abbrev pub carry : Registers → ℕ
carry registers = registers.xer / 2 ^ 29 % 2

abbrev pub with_carry : ℕ → Registers → Registers
with_carry value registers = with_xer (replaced 2 (2 ^ 29) value registers.xer) registers

-- OV is set where this overflows, and SO where this or an earlier one did
abbrev pub with_overflow : Bool → Registers → Registers
with_overflow here registers = with_xer (replaced 4 (2 ^ 30) (if here then 3 else 2 * summary registers) registers.xer) registers

-- a condition field that compares: LT, GT, EQ and SO
abbrev pub with_condition : ℕ → ℕ → Registers → Registers
with_condition n order registers = record registers { cr = with_field registers.cr n (order + summary registers) }

-- field 0 compares a result with 0
unfoldable pub recorded : ℕ → Registers → Registers
recorded value registers = with_condition 0 (compared (signed_value value) (pos 0)) registers

-- on to another instruction
abbrev pub gone_to : ℕ → Registers → Registers
gone_to address registers = record registers { pc = instruction_address address }

-- (RA), (RB), (RS) and (RA|0)
abbrev pub a_of : ℕ → Registers → ℕ
a_of word registers = gpr_of registers (ra_field word)

abbrev pub b_of : ℕ → Registers → ℕ
b_of word registers = gpr_of registers (rb_field word)

abbrev pub s_of : ℕ → Registers → ℕ
s_of word registers = gpr_of registers (rt_field word)

abbrev pub base_of : ℕ → Registers → ℕ
base_of word registers = gpr_or_zero registers (ra_field word)

-- EXTS(SI): the immediate with copies of its sign, as 32 bits
abbrev pub extended_immediate : ℕ → ℕ
extended_immediate word = cast_unsigned w32 (signed_immediate word)

-- an immediate in the upper half of a word
abbrev pub upper : ℕ → ℕ
upper word = immediate word * 2 ^ 16

-- a register takes its result
unfoldable pub result_in : ℕ → ℕ → Registers → Registers
result_in n value registers = advanced (with_gpr registers n value)

-- the same with CR0
unfoldable pub result_recorded : ℕ → ℕ → Registers → Registers
result_recorded n value registers = advanced (recorded value (with_gpr registers n value))

-- the same with CR0 where Rc is 1
unfoldable pub result_in_form : ℕ → ℕ → ℕ → Registers → Registers
result_in_form word n value registers = if record_bit word == 1 then result_recorded n value registers else result_in n value registers

-- An arithmetic result goes to RT; where OE is 1, OV and SO say whether it fits.
unfoldable pub arithmetic : ℕ → ℕ → Bool → Registers → Registers
arithmetic word value overflow registers =
    result_in_form word (rt_field word) value (if overflow_bit word == 1 then with_overflow overflow registers else registers)
