-- The same table by fields of the word, as the decoder tests them, and in the same order.
use Rattle.std.specs.Prelude.{ℕ, List, [], ◌∷◌, Bool, ◌&&◌, ◌==◌, if◌then◌else◌}
use Rattle.insn.specs.declared.instruction.Op.{Op}
use Rattle.insn.specs.declared.instruction.Op.TheVariants.{Twi, Mulli, Subfic, Cmpli, Cmpi, Addic, AddicRecord, Addi, Addis, Bc, Sc, Hypercall, B, Rlwimi, Rlwinm, Rlwnm, Ori, Oris, Xori, Xoris, Andi, Andis, Lwz, Lwzu, Lbz, Lbzu, Stw, Stwu, Stb, Stbu, Lhz, Lhzu, Lha, Lhau, Sth, Sthu, Lmw, Stmw, FloatingPoint, Mcrf, Crnor, Crandc, Crxor, Crnand, Crand, Creqv, Crorc, Cror, Rfmci, Bclr, Bcctr, Rfi, Rfci, Isync, Cmp, Cmpl, Wrtee, Wrteei, Tw, Subfc, Subf, Neg, Subfe, Subfze, Subfme, Addc, Adde, Addze, Addme, Add, Mulhwu, Mulhw, Mullw, Divwu, Divw, Isel, Mtcrf, Tlbilx, Mtmsr, Tlbivax, Tlbsx, Tlbre, Tlbwe, Mfcr, Mfmsr, Mfspr, Mftb, Mtspr, Lwarx, Icbt, Dcbst, Dcbf, Stwcx, Dcbtst, Dcbt, Dcbi, Lwbrx, Tlbsync, Sync, Stwbrx, Dcba, Lhbrx, Mbar, Sthbrx, Icbi, Dcbz, Lwzx, Lwzux, Lbzx, Lbzux, Stwx, Stwux, Stbx, Stbux, Lhzx, Lhzux, Lhax, Lhaux, Sthx, Sthux, Slw, Srw, Sraw, Srawi, Cntlzw, Extsh, Extsb, And, Andc, Nor, Eqv, Xor, Orc, Or, Nand, Wait, Illegal}
use Rattle.insn.specs.Fields.{extended_opcode, arithmetic_opcode, select_opcode, record_bit, call_level, call_bit}

-- what a row of the primary map asks of the fields
pub data Key : Type 0 where
  Primary : ℕ → Op → Key
  SystemCall : ℕ → Op → Key

-- what a row of another map asks beside its primary opcode
pub data Extension : Type 0 where
  Extended : ℕ → Op → Extension
  Arithmetic : ℕ → Op → Extension
  Select : ℕ → Op → Extension
  Recorded : ℕ → Op → Extension

abbrev pub key_op : Key → Op
key_op (Primary opcode op) = op
key_op (SystemCall level op) = op

abbrev pub extension_op : Extension → Op
extension_op (Extended number op) = op
extension_op (Arithmetic number op) = op
extension_op (Select number op) = op
extension_op (Recorded number op) = op

-- whether a word with this primary opcode has the key's fields
abbrev pub opens : Key → ℕ → ℕ → Bool
opens (Primary opcode op) first word = first == opcode
opens (SystemCall level op) first word = (first == 17) && (call_level word == level) && (call_bit word == 1)

-- whether a word has the extension's fields
abbrev pub extends : Extension → ℕ → Bool
extends (Extended number op) word = extended_opcode word == number
extends (Arithmetic number op) word = arithmetic_opcode word == number
extends (Select number op) word = select_opcode word == number
extends (Recorded number op) word = (extended_opcode word == number) && (record_bit word == 1)

-- the instruction of the first key that fits, or another where none does
abbrev pub by_keys : List Key → Op → ℕ → ℕ → Op
by_keys [] other first word = other
by_keys (key ∷ keys) other first word = if opens key first word then key_op key else by_keys keys other first word

abbrev pub by_extensions : List Extension → Op → ℕ → Op
by_extensions [] other word = other
by_extensions (one ∷ others) other word = if extends one word then extension_op one else by_extensions others other word

unfoldable pub primary_keys : List Key
primary_keys =
    Primary 3 Twi
    ∷ Primary 7 Mulli
    ∷ Primary 8 Subfic
    ∷ Primary 10 Cmpli
    ∷ Primary 11 Cmpi
    ∷ Primary 12 Addic
    ∷ Primary 13 AddicRecord
    ∷ Primary 14 Addi
    ∷ Primary 15 Addis
    ∷ Primary 16 Bc
    ∷ SystemCall 0 Sc
    ∷ SystemCall 1 Hypercall
    ∷ Primary 18 B
    ∷ Primary 20 Rlwimi
    ∷ Primary 21 Rlwinm
    ∷ Primary 23 Rlwnm
    ∷ Primary 24 Ori
    ∷ Primary 25 Oris
    ∷ Primary 26 Xori
    ∷ Primary 27 Xoris
    ∷ Primary 28 Andi
    ∷ Primary 29 Andis
    ∷ Primary 32 Lwz
    ∷ Primary 33 Lwzu
    ∷ Primary 34 Lbz
    ∷ Primary 35 Lbzu
    ∷ Primary 36 Stw
    ∷ Primary 37 Stwu
    ∷ Primary 38 Stb
    ∷ Primary 39 Stbu
    ∷ Primary 40 Lhz
    ∷ Primary 41 Lhzu
    ∷ Primary 42 Lha
    ∷ Primary 43 Lhau
    ∷ Primary 44 Sth
    ∷ Primary 45 Sthu
    ∷ Primary 46 Lmw
    ∷ Primary 47 Stmw
    ∷ Primary 48 FloatingPoint
    ∷ Primary 49 FloatingPoint
    ∷ Primary 50 FloatingPoint
    ∷ Primary 51 FloatingPoint
    ∷ Primary 52 FloatingPoint
    ∷ Primary 53 FloatingPoint
    ∷ Primary 54 FloatingPoint
    ∷ Primary 55 FloatingPoint
    ∷ Primary 59 FloatingPoint
    ∷ Primary 63 FloatingPoint
    ∷ []

unfoldable pub keys_19 : List Extension
keys_19 =
    Extended 0 Mcrf
    ∷ Extended 33 Crnor
    ∷ Extended 129 Crandc
    ∷ Extended 193 Crxor
    ∷ Extended 225 Crnand
    ∷ Extended 257 Crand
    ∷ Extended 289 Creqv
    ∷ Extended 417 Crorc
    ∷ Extended 449 Cror
    ∷ Extended 38 Rfmci
    ∷ Extended 16 Bclr
    ∷ Extended 528 Bcctr
    ∷ Extended 50 Rfi
    ∷ Extended 51 Rfci
    ∷ Extended 150 Isync
    ∷ []

-- columns 0 to 4: comparisons, traps, and the external enable bit
unfoldable pub comparisons : List Extension
comparisons =
    Extended 0 Cmp
    ∷ Extended 32 Cmpl
    ∷ Extended 131 Wrtee
    ∷ Extended 163 Wrteei
    ∷ Extended 4 Tw
    ∷ []

-- columns 8 and 10: sums and differences
unfoldable pub sums : List Extension
sums =
    Arithmetic 8 Subfc
    ∷ Arithmetic 40 Subf
    ∷ Arithmetic 104 Neg
    ∷ Arithmetic 136 Subfe
    ∷ Arithmetic 200 Subfze
    ∷ Arithmetic 232 Subfme
    ∷ Arithmetic 10 Addc
    ∷ Arithmetic 138 Adde
    ∷ Arithmetic 202 Addze
    ∷ Arithmetic 234 Addme
    ∷ Arithmetic 266 Add
    ∷ []

-- column 11 without OE
unfoldable pub high_products : List Extension
high_products =
    Extended 11 Mulhwu
    ∷ Extended 75 Mulhw
    ∷ []

-- column 11 with OE
unfoldable pub products : List Extension
products =
    Arithmetic 235 Mullw
    ∷ Arithmetic 459 Divwu
    ∷ Arithmetic 491 Divw
    ∷ []

-- column 15
unfoldable pub selections : List Extension
selections =
    Select 15 Isel
    ∷ []

-- columns 16 to 22: registers, translations, caches
unfoldable pub system_rows : List Extension
system_rows =
    Extended 144 Mtcrf
    ∷ Extended 18 Tlbilx
    ∷ Extended 146 Mtmsr
    ∷ Extended 786 Tlbivax
    ∷ Extended 914 Tlbsx
    ∷ Extended 946 Tlbre
    ∷ Extended 978 Tlbwe
    ∷ Extended 19 Mfcr
    ∷ Extended 83 Mfmsr
    ∷ Extended 339 Mfspr
    ∷ Extended 371 Mftb
    ∷ Extended 467 Mtspr
    ∷ Extended 20 Lwarx
    ∷ Extended 22 Icbt
    ∷ Extended 54 Dcbst
    ∷ Extended 86 Dcbf
    ∷ Recorded 150 Stwcx
    ∷ Extended 246 Dcbtst
    ∷ Extended 278 Dcbt
    ∷ Extended 470 Dcbi
    ∷ Extended 534 Lwbrx
    ∷ Extended 566 Tlbsync
    ∷ Extended 598 Sync
    ∷ Extended 662 Stwbrx
    ∷ Extended 758 Dcba
    ∷ Extended 790 Lhbrx
    ∷ Extended 854 Mbar
    ∷ Extended 918 Sthbrx
    ∷ Extended 982 Icbi
    ∷ Extended 1014 Dcbz
    ∷ []

-- columns 23 to 30: indexed loads and stores, shifts, logic
unfoldable pub indexed_rows : List Extension
indexed_rows =
    Extended 23 Lwzx
    ∷ Extended 55 Lwzux
    ∷ Extended 87 Lbzx
    ∷ Extended 119 Lbzux
    ∷ Extended 151 Stwx
    ∷ Extended 183 Stwux
    ∷ Extended 215 Stbx
    ∷ Extended 247 Stbux
    ∷ Extended 279 Lhzx
    ∷ Extended 311 Lhzux
    ∷ Extended 343 Lhax
    ∷ Extended 375 Lhaux
    ∷ Extended 407 Sthx
    ∷ Extended 439 Sthux
    ∷ Extended 535 FloatingPoint
    ∷ Extended 567 FloatingPoint
    ∷ Extended 599 FloatingPoint
    ∷ Extended 631 FloatingPoint
    ∷ Extended 663 FloatingPoint
    ∷ Extended 695 FloatingPoint
    ∷ Extended 727 FloatingPoint
    ∷ Extended 759 FloatingPoint
    ∷ Extended 983 FloatingPoint
    ∷ Extended 24 Slw
    ∷ Extended 536 Srw
    ∷ Extended 792 Sraw
    ∷ Extended 824 Srawi
    ∷ Extended 26 Cntlzw
    ∷ Extended 922 Extsh
    ∷ Extended 954 Extsb
    ∷ Extended 28 And
    ∷ Extended 60 Andc
    ∷ Extended 124 Nor
    ∷ Extended 284 Eqv
    ∷ Extended 316 Xor
    ∷ Extended 412 Orc
    ∷ Extended 444 Or
    ∷ Extended 476 Nand
    ∷ Extended 62 Wait
    ∷ []

-- the instruction of a word of primary opcode 19
unfoldable pub by_19 : ℕ → Op
by_19 word = by_extensions keys_19 Illegal word

-- The instruction of a word of primary opcode 31, block by block. Each word below leaves out the blocks before its own.
unfoldable pub by_indexed_rows : ℕ → Op
by_indexed_rows word = by_extensions indexed_rows Illegal word

unfoldable pub by_system_rows : ℕ → Op
by_system_rows word = by_extensions system_rows (by_indexed_rows word) word

unfoldable pub by_selections : ℕ → Op
by_selections word = by_extensions selections (by_system_rows word) word

unfoldable pub by_products : ℕ → Op
by_products word = by_extensions products (by_selections word) word

unfoldable pub by_high_products : ℕ → Op
by_high_products word = by_extensions high_products (by_products word) word

unfoldable pub by_sums : ℕ → Op
by_sums word = by_extensions sums (by_high_products word) word

unfoldable pub by_31 : ℕ → Op
by_31 word = by_extensions comparisons (by_sums word) word

-- the instruction of a word with this primary opcode, by its fields
unfoldable pub op_by_fields : ℕ → ℕ → Op
op_by_fields first word = by_keys primary_keys (if first == 19 then by_19 word else if first == 31 then by_31 word else Illegal) first word
