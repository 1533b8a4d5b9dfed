-- What the registers of a core keep at all times: none has a bit that it doesn't keep. A saved state rests on it.
use Rattle.std.specs.Prelude.{◌≡◌, ℕ, ◌%◌, ◌^◌, ◌<◌, List, IfSome, length, slice_index, bit_and}
use Rattle.guest_regs.specs.Registers.{Registers, machine_state, xer_bits, pid_bits, ivpr_bits, ivor_bits, l1csr0_bits, l1csr1_bits, bucsr_bits, mas7_bits}

-- a value that has no bit but these
abbrev pub HasOnly : ℕ → ℕ → Type 0
HasOnly bits value = bit_and value bits ≡ value

-- a value of 32 bits
abbrev pub IsWord : ℕ → Type 0
IsWord value = value < 2 ^ 32

-- so many values, each of 32 bits
pub record AreWords (count : ℕ) (values : List ℕ) : Type 0 where
  pub number : length values ≡ count
  pub each : (n : ℕ) → IsWord (slice_index values n)

-- What is kept of the registers that don't keep all 32 bits.
pub record HaveTheirBits (counter state exceptions process prefix : ℕ) (offsets : List ℕ) (upper_page data_cache instruction_cache branches : ℕ) : Type 0 where
  -- an instruction stands at a multiple of 4
  pub pc : counter % 4 ≡ 0
  -- GS is set, and beside it only what a guest turns
  pub msr : machine_state state ≡ state
  -- SO, OV, CA and the byte count
  pub xer : HasOnly xer_bits exceptions
  -- 14 bits
  pub pid : HasOnly pid_bits process
  -- the upper half of a handler's address
  pub ivpr : HasOnly ivpr_bits prefix
  -- multiples of 16 in the lower half
  pub ivor : (n : ℕ) → HasOnly ivor_bits (slice_index offsets n)
  -- the upper 4 of the 36 bits of a real page's address
  pub mas7 : HasOnly mas7_bits upper_page
  -- no request, since each is done at once
  pub l1csr0 : HasOnly l1csr0_bits data_cache
  pub l1csr1 : HasOnly l1csr1_bits instruction_cache
  pub bucsr : HasOnly bucsr_bits branches

-- what all registers keep: those bits, the numbers of registers, and the widths
pub record AreKept (registers : Registers) : Type 0 where
  pub bits : HaveTheirBits registers.pc registers.msr registers.xer registers.pid registers.ivpr registers.ivor registers.mas7 registers.l1csr0 registers.l1csr1 registers.bucsr
  pub gpr : AreWords 32 registers.gpr
  pub ivor : AreWords 16 registers.ivor
  pub sprg : AreWords 8 registers.sprg
  pub pc : IsWord registers.pc
  pub cr : IsWord registers.cr
  pub lr : IsWord registers.lr
  pub ctr : IsWord registers.ctr
  pub dec : IsWord registers.dec
  pub decar : IsWord registers.decar
  pub srr0 : IsWord registers.srr0
  pub srr1 : IsWord registers.srr1
  pub csrr0 : IsWord registers.csrr0
  pub csrr1 : IsWord registers.csrr1
  pub mcsrr0 : IsWord registers.mcsrr0
  pub mcsrr1 : IsWord registers.mcsrr1
  pub dear : IsWord registers.dear
  pub esr : IsWord registers.esr
  -- the timers' registers as they are stored: all 32 bits
  pub tsr : IsWord registers.tsr
  pub tcr : IsWord registers.tcr
  pub hid0 : IsWord registers.hid0
  pub mas0 : IsWord registers.mas0
  pub mas1 : IsWord registers.mas1
  pub mas2 : IsWord registers.mas2
  pub mas3 : IsWord registers.mas3
  pub mas4 : IsWord registers.mas4
  pub mas6 : IsWord registers.mas6
  pub pir : IsWord registers.pir
  -- 64 bits
  pub time : registers.time < 2 ^ 64
  pub reserved : IfSome registers.reserved (λ block. block < 2 ^ 64)
