-- The instruction table: which words are which instruction (Power ISA 2.06, appendix "Opcode Maps").
use Rattle.std.specs.Prelude.{ℕ, ◌+◌, ◌*◌, ◌^◌, List, [], ◌∷◌, ◌++◌, Bool, ◌==◌, bit_and, IsTrue, AllPairs, if◌then◌else◌}
use Rattle.insn.specs.declared.instruction.Op.{Op}
use Rattle.insn.specs.declared.instruction.Op.TheVariants.{Twi, Mulli, Subfic, Cmpli, Cmpi, Addic, AddicRecord, Addi, Addis, Bc, Sc, Hypercall, B, Rlwimi, Rlwinm, Rlwnm, Ori, Oris, Xori, Xoris, Andi, Andis, Lwz, Lwzu, Lbz, Lbzu, Stw, Stwu, Stb, Stbu, Lhz, Lhzu, Lha, Lhau, Sth, Sthu, Lmw, Stmw, FloatingPoint, Mcrf, Crnor, Crandc, Crxor, Crnand, Crand, Creqv, Crorc, Cror, Rfmci, Bclr, Bcctr, Rfi, Rfci, Isync, Cmp, Cmpl, Wrtee, Wrteei, Tw, Subfc, Subf, Neg, Subfe, Subfze, Subfme, Addc, Adde, Addze, Addme, Add, Mulhwu, Mulhw, Mullw, Divwu, Divw, Isel, Mtcrf, Tlbilx, Mtmsr, Tlbivax, Tlbsx, Tlbre, Tlbwe, Mfcr, Mfmsr, Mfspr, Mftb, Mtspr, Lwarx, Icbt, Dcbst, Dcbf, Stwcx, Dcbtst, Dcbt, Dcbi, Lwbrx, Tlbsync, Sync, Stwbrx, Dcba, Lhbrx, Mbar, Sthbrx, Icbi, Dcbz, Lwzx, Lwzux, Lbzx, Lbzux, Stwx, Stwux, Stbx, Stbux, Lhzx, Lhzux, Lhax, Lhaux, Sthx, Sthux, Slw, Srw, Sraw, Srawi, Cntlzw, Extsh, Extsb, And, Andc, Nor, Eqv, Xor, Orc, Or, Nand, Wait, Illegal}

-- a row: the bits that it fixes, what they must be, and the instruction
pub record Row : Type 0 where
  pub mask : ℕ
  pub word : ℕ
  pub op : Op

-- whether the word has the row's bits, whatever stands in the rest of it
abbrev pub fits : Row → ℕ → Bool
fits row word = bit_and word row.mask == row.word

-- the primary opcode alone decides
abbrev pub primary : ℕ → Op → Row
primary opcode op = record { mask = 0xFC000000; word = opcode * 2 ^ 26; op = op }

-- sc of this level
abbrev pub system_call : ℕ → Op → Row
system_call level op = record { mask = 0xFC000FE2; word = 17 * 2 ^ 26 + level * 2 ^ 5 + 2; op = op }

-- primary and extended opcode decide
abbrev pub extended : ℕ → ℕ → Op → Row
extended opcode number op = record { mask = 0xFC0007FE; word = opcode * 2 ^ 26 + number * 2; op = op }

-- the same without OE, the first bit of the extended opcode, which an arithmetic row leaves open
abbrev pub arithmetic : ℕ → ℕ → Op → Row
arithmetic opcode number op = record { mask = 0xFC0003FE; word = opcode * 2 ^ 26 + number * 2; op = op }

-- the last five bits of the extended opcode alone, since the first five name a bit of the condition register
abbrev pub select : ℕ → ℕ → Op → Row
select opcode number op = record { mask = 0xFC00003E; word = opcode * 2 ^ 26 + number * 2; op = op }

-- primary and extended opcode decide, and Rc must be 1
abbrev pub recorded : ℕ → ℕ → Op → Row
recorded opcode number op = record { mask = 0xFC0007FF; word = opcode * 2 ^ 26 + number * 2 + 1; op = op }

-- the map of primary opcodes
unfoldable pub primary_map : List Row
primary_map =
    primary 3 Twi
    ∷ primary 7 Mulli
    ∷ primary 8 Subfic
    ∷ primary 10 Cmpli
    ∷ primary 11 Cmpi
    ∷ primary 12 Addic
    ∷ primary 13 AddicRecord
    ∷ primary 14 Addi
    ∷ primary 15 Addis
    ∷ primary 16 Bc
    ∷ system_call 0 Sc
    ∷ system_call 1 Hypercall
    ∷ primary 18 B
    ∷ primary 20 Rlwimi
    ∷ primary 21 Rlwinm
    ∷ primary 23 Rlwnm
    ∷ primary 24 Ori
    ∷ primary 25 Oris
    ∷ primary 26 Xori
    ∷ primary 27 Xoris
    ∷ primary 28 Andi
    ∷ primary 29 Andis
    ∷ primary 32 Lwz
    ∷ primary 33 Lwzu
    ∷ primary 34 Lbz
    ∷ primary 35 Lbzu
    ∷ primary 36 Stw
    ∷ primary 37 Stwu
    ∷ primary 38 Stb
    ∷ primary 39 Stbu
    ∷ primary 40 Lhz
    ∷ primary 41 Lhzu
    ∷ primary 42 Lha
    ∷ primary 43 Lhau
    ∷ primary 44 Sth
    ∷ primary 45 Sthu
    ∷ primary 46 Lmw
    ∷ primary 47 Stmw
    ∷ primary 48 FloatingPoint
    ∷ primary 49 FloatingPoint
    ∷ primary 50 FloatingPoint
    ∷ primary 51 FloatingPoint
    ∷ primary 52 FloatingPoint
    ∷ primary 53 FloatingPoint
    ∷ primary 54 FloatingPoint
    ∷ primary 55 FloatingPoint
    ∷ primary 59 FloatingPoint
    ∷ primary 63 FloatingPoint
    ∷ []

-- the map of primary opcode 19, column after column: by the last five bits of the extended opcode, then by the first five
unfoldable pub map_19 : List Row
map_19 =
    extended 19 0 Mcrf
    ∷ extended 19 33 Crnor
    ∷ extended 19 129 Crandc
    ∷ extended 19 193 Crxor
    ∷ extended 19 225 Crnand
    ∷ extended 19 257 Crand
    ∷ extended 19 289 Creqv
    ∷ extended 19 417 Crorc
    ∷ extended 19 449 Cror
    ∷ extended 19 38 Rfmci
    ∷ extended 19 16 Bclr
    ∷ extended 19 528 Bcctr
    ∷ extended 19 50 Rfi
    ∷ extended 19 51 Rfci
    ∷ extended 19 150 Isync
    ∷ []

-- the map of primary opcode 31, in the same order
unfoldable pub map_31 : List Row
map_31 =
    extended 31 0 Cmp
    ∷ extended 31 32 Cmpl
    ∷ extended 31 131 Wrtee
    ∷ extended 31 163 Wrteei
    ∷ extended 31 4 Tw
    ∷ arithmetic 31 8 Subfc
    ∷ arithmetic 31 40 Subf
    ∷ arithmetic 31 104 Neg
    ∷ arithmetic 31 136 Subfe
    ∷ arithmetic 31 200 Subfze
    ∷ arithmetic 31 232 Subfme
    ∷ arithmetic 31 10 Addc
    ∷ arithmetic 31 138 Adde
    ∷ arithmetic 31 202 Addze
    ∷ arithmetic 31 234 Addme
    ∷ arithmetic 31 266 Add
    ∷ extended 31 11 Mulhwu
    ∷ extended 31 75 Mulhw
    ∷ arithmetic 31 235 Mullw
    ∷ arithmetic 31 459 Divwu
    ∷ arithmetic 31 491 Divw
    ∷ select 31 15 Isel
    ∷ extended 31 144 Mtcrf
    ∷ extended 31 18 Tlbilx
    ∷ extended 31 146 Mtmsr
    ∷ extended 31 786 Tlbivax
    ∷ extended 31 914 Tlbsx
    ∷ extended 31 946 Tlbre
    ∷ extended 31 978 Tlbwe
    ∷ extended 31 19 Mfcr
    ∷ extended 31 83 Mfmsr
    ∷ extended 31 339 Mfspr
    ∷ extended 31 371 Mftb
    ∷ extended 31 467 Mtspr
    ∷ extended 31 20 Lwarx
    ∷ extended 31 22 Icbt
    ∷ extended 31 54 Dcbst
    ∷ extended 31 86 Dcbf
    ∷ recorded 31 150 Stwcx
    ∷ extended 31 246 Dcbtst
    ∷ extended 31 278 Dcbt
    ∷ extended 31 470 Dcbi
    ∷ extended 31 534 Lwbrx
    ∷ extended 31 566 Tlbsync
    ∷ extended 31 598 Sync
    ∷ extended 31 662 Stwbrx
    ∷ extended 31 758 Dcba
    ∷ extended 31 790 Lhbrx
    ∷ extended 31 854 Mbar
    ∷ extended 31 918 Sthbrx
    ∷ extended 31 982 Icbi
    ∷ extended 31 1014 Dcbz
    ∷ extended 31 23 Lwzx
    ∷ extended 31 55 Lwzux
    ∷ extended 31 87 Lbzx
    ∷ extended 31 119 Lbzux
    ∷ extended 31 151 Stwx
    ∷ extended 31 183 Stwux
    ∷ extended 31 215 Stbx
    ∷ extended 31 247 Stbux
    ∷ extended 31 279 Lhzx
    ∷ extended 31 311 Lhzux
    ∷ extended 31 343 Lhax
    ∷ extended 31 375 Lhaux
    ∷ extended 31 407 Sthx
    ∷ extended 31 439 Sthux
    ∷ extended 31 535 FloatingPoint
    ∷ extended 31 567 FloatingPoint
    ∷ extended 31 599 FloatingPoint
    ∷ extended 31 631 FloatingPoint
    ∷ extended 31 663 FloatingPoint
    ∷ extended 31 695 FloatingPoint
    ∷ extended 31 727 FloatingPoint
    ∷ extended 31 759 FloatingPoint
    ∷ extended 31 983 FloatingPoint
    ∷ extended 31 24 Slw
    ∷ extended 31 536 Srw
    ∷ extended 31 792 Sraw
    ∷ extended 31 824 Srawi
    ∷ extended 31 26 Cntlzw
    ∷ extended 31 922 Extsh
    ∷ extended 31 954 Extsb
    ∷ extended 31 28 And
    ∷ extended 31 60 Andc
    ∷ extended 31 124 Nor
    ∷ extended 31 284 Eqv
    ∷ extended 31 316 Xor
    ∷ extended 31 412 Orc
    ∷ extended 31 444 Or
    ∷ extended 31 476 Nand
    ∷ extended 31 62 Wait
    ∷ []

unfoldable pub table : List Row
table = primary_map ++ (map_19 ++ map_31)

-- the instruction of the first row that the word fits
abbrev pub op_among : List Row → ℕ → Op
op_among [] word = Illegal
op_among (row ∷ rows) word = if fits row word then row.op else op_among rows word

-- the instruction that a word of 32 bits is
unfoldable pub op_of : ℕ → Op
op_of word = op_among table word

-- no word fits both rows
abbrev pub Exclude : Row → Row → Type 0
Exclude row other = (word : ℕ) → IsTrue (fits row word) → ¬ IsTrue (fits other word)

-- no word fits two rows, so their order means nothing
abbrev pub AtMostOneFits : Type 0
AtMostOneFits = AllPairs Exclude table
