-- The special registers: first which register a number names, then what reading and writing it does (Power ISA 2.06, Book III-E,
-- chapter 5).
use Rattle.std.specs.Prelude.{◌≡◌, ⊤, ℕ, ◌-◌, ◌/◌, ◌%◌, ◌^◌, ◌<◌, ◌==◌, Bool, true, false, not, ◌&&◌, ◌||◌, nat_lt, List, [], ◌∷◌, slice_index, slice_set, bit_and, if◌then◌else◌}
use Rattle.std.specs.Int.{w32, bit_not}
use Rattle.guest_regs.specs.declared.special.Special.{Special}
use Rattle.guest_regs.specs.declared.special.Special.TheVariants.{Xer, Lr, Ctr, Dec, Decar, Srr0, Srr1, Dear, Esr, Pid, Csrr0, Csrr1, Mcsrr0, Mcsrr1, Ivpr, Ivor, Sprg, UserSprg, TimeLower, TimeUpper, Pir, Pvr, Tsr, Tcr, Mas0, Mas1, Mas2, Mas3, Mas4, Mas6, Mas7, Tlb0cfg, Tlb1cfg, Hid0, L1csr0, L1csr1, Bucsr, Unlisted}
use Rattle.guest_regs.specs.declared.answer.ReadAnswer.{ReadAnswer}
use Rattle.guest_regs.specs.declared.answer.ReadAnswer.TheVariants as read
use Rattle.guest_regs.specs.declared.answer.WriteAnswer.{WriteAnswer}
use Rattle.guest_regs.specs.declared.answer.WriteAnswer.TheVariants as write
use Rattle.guest_regs.specs.Registers.{Registers, in_problem_state, xer_bits, pid_bits, ivpr_bits, mas7_bits, l1csr0_bits, l1csr1_bits, bucsr_bits, ivor_bits, version, first_tlb_shape, second_tlb_shape}

-- a number and its register
pub record Numbered : Type 0 where
  pub number : ℕ
  pub special : Special

abbrev pub numbered : ℕ → Special → Numbered
numbered number special = record { number = number; special = special }

-- the registers that have one number each
unfoldable pub numbers : List Numbered
numbers =
    numbered 1 Xer
    ∷ numbered 8 Lr
    ∷ numbered 9 Ctr
    ∷ numbered 22 Dec
    ∷ numbered 26 Srr0
    ∷ numbered 27 Srr1
    ∷ numbered 48 Pid
    ∷ numbered 54 Decar
    ∷ numbered 58 Csrr0
    ∷ numbered 59 Csrr1
    ∷ numbered 61 Dear
    ∷ numbered 62 Esr
    ∷ numbered 63 Ivpr
    ∷ numbered 268 TimeLower
    ∷ numbered 269 TimeUpper
    ∷ numbered 286 Pir
    ∷ numbered 287 Pvr
    ∷ numbered 336 Tsr
    ∷ numbered 340 Tcr
    ∷ numbered 570 Mcsrr0
    ∷ numbered 571 Mcsrr1
    ∷ numbered 624 Mas0
    ∷ numbered 625 Mas1
    ∷ numbered 626 Mas2
    ∷ numbered 627 Mas3
    ∷ numbered 628 Mas4
    ∷ numbered 630 Mas6
    ∷ numbered 688 Tlb0cfg
    ∷ numbered 689 Tlb1cfg
    ∷ numbered 944 Mas7
    ∷ numbered 1008 Hid0
    ∷ numbered 1010 L1csr0
    ∷ numbered 1011 L1csr1
    ∷ numbered 1013 Bucsr
    ∷ []

abbrev pub special_among : List Numbered → ℕ → Special
special_among [] number = Unlisted
special_among (one ∷ others) number = if number == one.number then one.special else special_among others number

-- whether a number is one of so many from the first
abbrev pub in_run : ℕ → ℕ → ℕ → Bool
in_run first count number = not (nat_lt number first) && nat_lt (number - first) count

-- The register that a number names. Three runs stand beside the table: IVOR0 to 15 from 400, SPRG0 to 7 from 272, and from 259
-- SPRG3 to 7 again, which user programs may read.
unfoldable pub special_of : ℕ → Special
special_of number =
    if in_run 400 16 number then Ivor (number - 400)
    else if in_run 272 8 number then Sprg (number - 272)
    else if in_run 259 5 number then UserSprg (number - 256)
    else special_among numbers number

-- a register of a run is one of its run
abbrev pub IsInRun : Special → Type 0
IsInRun (Ivor n) = n < 16
IsInRun (Sprg n) = n < 8
IsInRun (UserSprg n) = n < 8
IsInRun _ = Unit {0}

-- the others, of which an unlisted one reads as 0
unfoldable pub other_value : Special → Registers → ℕ
other_value (Sprg n) registers = slice_index registers.sprg n
other_value (UserSprg n) registers = slice_index registers.sprg n
other_value TimeLower registers = registers.time % 2 ^ 32
other_value TimeUpper registers = registers.time / 2 ^ 32
other_value Pir registers = registers.pir
other_value Pvr registers = version
other_value Tsr registers = registers.tsr
other_value Tcr registers = registers.tcr
other_value Mas0 registers = registers.mas0
other_value Mas1 registers = registers.mas1
other_value Mas2 registers = registers.mas2
other_value Mas3 registers = registers.mas3
other_value Mas4 registers = registers.mas4
other_value Mas6 registers = registers.mas6
other_value Mas7 registers = registers.mas7
other_value Tlb0cfg registers = first_tlb_shape
other_value Tlb1cfg registers = second_tlb_shape
other_value Hid0 registers = registers.hid0
other_value L1csr0 registers = registers.l1csr0
other_value L1csr1 registers = registers.l1csr1
other_value Bucsr registers = registers.bucsr
other_value _ registers = 0

-- what a register reads as
unfoldable pub special_value : Special → Registers → ℕ
special_value Xer registers = registers.xer
special_value Lr registers = registers.lr
special_value Ctr registers = registers.ctr
special_value Dec registers = registers.dec
special_value Decar registers = registers.decar
special_value Srr0 registers = registers.srr0
special_value Srr1 registers = registers.srr1
special_value Dear registers = registers.dear
special_value Esr registers = registers.esr
special_value Pid registers = registers.pid
special_value Csrr0 registers = registers.csrr0
special_value Csrr1 registers = registers.csrr1
special_value Mcsrr0 registers = registers.mcsrr0
special_value Mcsrr1 registers = registers.mcsrr1
special_value Ivpr registers = registers.ivpr
special_value (Ivor n) registers = slice_index registers.ivor n
special_value other registers = other_value other registers

-- A write of the others. TSR is cleared where the value has ones. What is unlisted or can only be read stays.
unfoldable pub other_written : Special → ℕ → Registers → Registers
other_written (Sprg n) value registers = record registers { sprg = slice_set registers.sprg n value }
other_written Tsr value registers = record registers { tsr = bit_and registers.tsr (bit_not w32 value) }
other_written Tcr value registers = record registers { tcr = value }
other_written Mas0 value registers = record registers { mas0 = value }
other_written Mas1 value registers = record registers { mas1 = value }
other_written Mas2 value registers = record registers { mas2 = value }
other_written Mas3 value registers = record registers { mas3 = value }
other_written Mas4 value registers = record registers { mas4 = value }
other_written Mas6 value registers = record registers { mas6 = value }
other_written Mas7 value registers = record registers { mas7 = bit_and value mas7_bits }
other_written Hid0 value registers = record registers { hid0 = value }
other_written L1csr0 value registers = record registers { l1csr0 = bit_and value l1csr0_bits }
other_written L1csr1 value registers = record registers { l1csr1 = bit_and value l1csr1_bits }
other_written Bucsr value registers = record registers { bucsr = bit_and value bucsr_bits }
other_written _ value registers = registers

-- a write of a register, which keeps the bits that it has
unfoldable pub special_written : Special → ℕ → Registers → Registers
special_written Xer value registers = record registers { xer = bit_and value xer_bits }
special_written Lr value registers = record registers { lr = value }
special_written Ctr value registers = record registers { ctr = value }
special_written Dec value registers = record registers { dec = value }
special_written Decar value registers = record registers { decar = value }
special_written Srr0 value registers = record registers { srr0 = value }
special_written Srr1 value registers = record registers { srr1 = value }
special_written Dear value registers = record registers { dear = value }
special_written Esr value registers = record registers { esr = value }
special_written Pid value registers = record registers { pid = bit_and value pid_bits }
special_written Csrr0 value registers = record registers { csrr0 = value }
special_written Csrr1 value registers = record registers { csrr1 = value }
special_written Mcsrr0 value registers = record registers { mcsrr0 = value }
special_written Mcsrr1 value registers = record registers { mcsrr1 = value }
special_written Ivpr value registers = record registers { ivpr = bit_and value ivpr_bits }
special_written (Ivor n) value registers = record registers { ivor = slice_set registers.ivor n (bit_and value ivor_bits) }
special_written other value registers = other_written other value registers

-- a number whose fifth bit from the right is 1 is the system's
abbrev pub is_privileged : ℕ → Bool
is_privileged number = number / 2 ^ 4 % 2 == 1

abbrev pub is_listed : Special → Bool
is_listed Unlisted = false
is_listed _ = true

-- the registers that user programs may write
abbrev pub is_user_writable : Special → Bool
is_user_writable Xer = true
is_user_writable Lr = true
is_user_writable Ctr = true
is_user_writable _ = false

-- What mfspr of a number gives. A system's number is refused to a user program, and without a register it reads as 0.
unfoldable pub spr_read : ℕ → Registers → ReadAnswer
spr_read number registers =
    if is_privileged number && in_problem_state registers then read.Privileged
    else if is_privileged number || is_listed (special_of number) then read.Value (special_value (special_of number) registers)
    else read.Illegal

-- the answer to a write, and the registers after it
pub record Written : Type 0 where
  pub answer : WriteAnswer
  pub after : Registers

-- What mtspr of a number does. A system's number without a register that can be written has no effect.
unfoldable pub spr_write : ℕ → ℕ → Registers → Written
spr_write number value registers =
    if is_privileged number && in_problem_state registers then record { answer = write.Privileged; after = registers }
    else if is_privileged number || is_user_writable (special_of number) then record {
      answer = write.Done;
      after = special_written (special_of number) value registers;
    }
    else record { answer = write.Illegal; after = registers }

-- a write that isn't done leaves the registers
abbrev pub KeepsUnlessDone : WriteAnswer → Registers → Registers → Type 0
KeepsUnlessDone write.Done old new = ⊤
KeepsUnlessDone _ old new = new ≡ old
