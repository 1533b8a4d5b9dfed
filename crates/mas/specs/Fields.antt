-- The fields of the MAS registers (Power ISA 2.06, Book III-E, chapter 6, MMU assist registers), each read from the 32 bits
-- of its register.
use Rattle.std.specs.Prelude.{ℕ, ◌+◌, ◌-◌, ◌*◌, ◌/◌, ◌%◌, ◌^◌, ◌==◌, Bool, if◌then◌else◌}

-- a bit as a number: 1 where this holds
abbrev pub bit : Bool → ℕ
bit holds = if holds then 1 else 0

-- MAS0: TLBSEL, the TLB
abbrev pub tlbsel_field : ℕ → ℕ
tlbsel_field m0 = m0 / 2 ^ 28 % 4

-- ESEL, the entry in it: a way of TLB0, a slot of TLB1
abbrev pub esel_field : ℕ → ℕ
esel_field m0 = m0 / 2 ^ 16 % 2 ^ 12

-- NV, the next victim: the way of TLB0 that the next miss is to replace
abbrev pub nv_field : ℕ → ℕ
nv_field m0 = m0 % 2 ^ 12

-- MAS1: V, whether the translation is valid
abbrev pub v_bit : ℕ → Bool
v_bit m1 = m1 / 2 ^ 31 % 2 == 1

-- IPROT, whether invalidations spare it
abbrev pub iprot_bit : ℕ → Bool
iprot_bit m1 = m1 / 2 ^ 30 % 2 == 1

-- TID, whose translation it is; 0 is everyone's
abbrev pub tid_field : ℕ → ℕ
tid_field m1 = m1 / 2 ^ 16 % 2 ^ 14

-- TS, its address space
abbrev pub ts_bit : ℕ → Bool
ts_bit m1 = m1 / 2 ^ 12 % 2 == 1

-- TSIZE: its page has 4 ^ TSIZE KiB
abbrev pub tsize_field : ℕ → ℕ
tsize_field m1 = m1 / 2 ^ 8 % 2 ^ 4

-- MAS2: EPN, as the effective address of the page
abbrev pub epn_field : ℕ → ℕ
epn_field m2 = m2 / 2 ^ 12 % 2 ^ 20 * 2 ^ 12

-- W, I, M, G and E, from 16 down to 1
abbrev pub wimge_field : ℕ → ℕ
wimge_field m2 = m2 % 2 ^ 5

-- MAS7 and MAS3: RPN, as the logical address of the page, whose upper four bits are in MAS7
abbrev pub rpn_field : ℕ → ℕ → ℕ
rpn_field m7 m3 = m7 % 2 ^ 4 * 2 ^ 32 + m3 / 2 ^ 12 % 2 ^ 20 * 2 ^ 12

-- MAS3: the user bits and the permissions UX, SX, UW, SW, UR and SR, from 512 down to 1
abbrev pub perms_field : ℕ → ℕ
perms_field m3 = m3 % 2 ^ 10

-- MAS4: what a miss takes for TLBSEL, TSIZE and W, I, M, G, E
abbrev pub tlbsel_default : ℕ → ℕ
tlbsel_default m4 = m4 / 2 ^ 28 % 4

abbrev pub tsize_default : ℕ → ℕ
tsize_default m4 = m4 / 2 ^ 8 % 2 ^ 4

abbrev pub wimge_default : ℕ → ℕ
wimge_default m4 = m4 % 2 ^ 5

-- MAS6: SPID, for whom a search is
abbrev pub spid_field : ℕ → ℕ
spid_field m6 = m6 / 2 ^ 16 % 2 ^ 14

-- SAS, the address space of a search
abbrev pub sas_bit : ℕ → Bool
sas_bit m6 = m6 % 2 == 1

-- MAS0 with another next victim
abbrev pub with_nv : ℕ → ℕ → ℕ
with_nv nv m0 = m0 - m0 % 2 ^ 12 + nv

-- MAS0 with another TLB and another entry in it, which stand beside each other. Each is cut to its field.
abbrev pub with_tlbsel_esel : ℕ → ℕ → ℕ → ℕ
with_tlbsel_esel tlbsel esel m0 = m0 / 2 ^ 30 * 2 ^ 30 + tlbsel % 4 * 2 ^ 28 + esel % 2 ^ 12 * 2 ^ 16 + m0 % 2 ^ 16
