-- The fields of an instruction word (Power ISA 2.06, Book I, section 1.6). The manual numbers the bits of a word from 0, the
-- most significant, to 31, so a field that ends at bit b stands 31 - b places from the right.
use Rattle.std.specs.Prelude.{ℕ, ◌+◌, ◌-◌, ◌*◌, ◌/◌, ◌%◌, ◌^◌, ℤ, pos, ◌-ℤ◌, ◌*ℤ◌, nat_lt, if◌then◌else◌}

-- OPCD, bits 0 to 5: the primary opcode
abbrev pub opcode : ℕ → ℕ
opcode word = word / 2 ^ 26

-- RT, and RS in the same place, bits 6 to 10: the register that takes the result, or gives the value
abbrev pub rt_field : ℕ → ℕ
rt_field word = word / 2 ^ 21 % 32

-- RA, bits 11 to 15
abbrev pub ra_field : ℕ → ℕ
ra_field word = word / 2 ^ 16 % 32

-- RB, bits 16 to 20
abbrev pub rb_field : ℕ → ℕ
rb_field word = word / 2 ^ 11 % 32

-- UI, bits 16 to 31: an immediate without a sign
abbrev pub immediate : ℕ → ℕ
immediate word = word % 2 ^ 16

-- what a field of so many bits means as two's complement
abbrev pub signed : ℕ → ℕ → ℤ
signed width field = if nat_lt field (2 ^ (width - 1)) then pos field else pos field -ℤ pos (2 ^ width)

-- D, and SI in the same place, bits 16 to 31: the same immediate with its sign
abbrev pub signed_immediate : ℕ → ℤ
signed_immediate word = signed 16 (immediate word)

-- LI, bits 6 to 29: the words that a branch goes forward, as two's complement
abbrev pub branch_field : ℕ → ℕ
branch_field word = word / 4 % 2 ^ 24

-- LI with two zero bits joined: the bytes that a branch goes forward
abbrev pub branch_displacement : ℕ → ℤ
branch_displacement word = signed 24 (branch_field word) *ℤ pos 4

-- BD, bits 16 to 29: the words that a conditional branch goes forward, as two's complement
abbrev pub conditional_field : ℕ → ℕ
conditional_field word = word / 4 % 2 ^ 14

-- BD with two zero bits joined: the bytes that a conditional branch goes forward
abbrev pub conditional_displacement : ℕ → ℤ
conditional_displacement word = signed 14 (conditional_field word) *ℤ pos 4

-- AA, bit 30: 1 where a branch's displacement is itself the target
abbrev pub absolute_bit : ℕ → ℕ
absolute_bit word = word / 2 % 2

-- LK, bit 31: 1 where a branch sets the link register
abbrev pub link_bit : ℕ → ℕ
link_bit word = word % 2

-- XO, bits 21 to 30: the extended opcode, whose first bit is OE in the arithmetic rows
abbrev pub extended_opcode : ℕ → ℕ
extended_opcode word = word / 2 % 1024

-- XO of an arithmetic row, bits 22 to 30: the extended opcode without OE
abbrev pub arithmetic_opcode : ℕ → ℕ
arithmetic_opcode word = word / 2 % 512

-- XO of isel, bits 26 to 30
abbrev pub select_opcode : ℕ → ℕ
select_opcode word = word / 2 % 32

-- OE, bit 21: 1 where an arithmetic instruction also tells of overflow
abbrev pub overflow_bit : ℕ → ℕ
overflow_bit word = word / 2 ^ 10 % 2

-- Rc, bit 31: 1 where the instruction also sets a condition field
abbrev pub record_bit : ℕ → ℕ
record_bit word = word % 2

-- LEV, bits 20 to 26: whom a system call calls
abbrev pub call_level : ℕ → ℕ
call_level word = word / 2 ^ 5 % 128

-- bit 30, which is 1 in each system call
abbrev pub call_bit : ℕ → ℕ
call_bit word = word / 2 % 2

-- BF, bits 6 to 8: the condition field that takes the result
abbrev pub bf_field : ℕ → ℕ
bf_field word = word / 2 ^ 23 % 8

-- BFA, bits 11 to 13: the condition field that gives the value
abbrev pub bfa_field : ℕ → ℕ
bfa_field word = word / 2 ^ 18 % 8

-- MB, bits 21 to 25: where a mask begins. isel has BC in the same place.
abbrev pub mask_begin : ℕ → ℕ
mask_begin word = word / 2 ^ 6 % 32

-- ME, bits 26 to 30: where a mask ends
abbrev pub mask_end : ℕ → ℕ
mask_end word = word / 2 % 32

-- FXM, bits 12 to 19: which condition fields are written, field 0 by the most significant bit
abbrev pub fxm_field : ℕ → ℕ
fxm_field word = word / 2 ^ 12 % 256

-- spr, and tbr in the same place, bits 11 to 20: a register's number, whose low five bits come first
abbrev pub spr_field : ℕ → ℕ
spr_field word = rb_field word * 32 + ra_field word

-- E, bit 16: what wrteei writes
abbrev pub enable_bit : ℕ → ℕ
enable_bit word = word / 2 ^ 15 % 2

-- T, bits 9 and 10: which translations tlbilx ends
abbrev pub invalidate_kind : ℕ → ℕ
invalidate_kind word = word / 2 ^ 21 % 4
