-- The registers of a core (Power ISA 2.06: Book I, sections 2.3 and 3.2; Book III-E, chapters 4 to 7 and 9).
use Rattle.std.specs.Prelude.{ℕ, ◌+◌, ◌-◌, ◌%◌, ◌^◌, ◌==◌, Bool, false, List, Option, None, replicate, slice_index, slice_set, bit_and, bit_or, if◌then◌else◌}
use Rattle.guest_regs.specs.State.{is_set, guest_state, problem_state, instruction_address_space, data_address_space, state_bits}

pub record Registers : Type 0 where
  -- general registers 0 to 31
  pub gpr : List ℕ
  pub cr : ℕ
  pub xer : ℕ
  pub lr : ℕ
  pub ctr : ℕ
  -- the effective address of the next instruction
  pub pc : ℕ
  -- the machine state register
  pub msr : ℕ
  pub dec : ℕ
  pub decar : ℕ
  pub srr0 : ℕ
  pub srr1 : ℕ
  pub dear : ℕ
  pub esr : ℕ
  pub pid : ℕ
  pub csrr0 : ℕ
  pub csrr1 : ℕ
  pub mcsrr0 : ℕ
  pub mcsrr1 : ℕ
  pub ivpr : ℕ
  -- interrupt vector offset registers 0 to 15
  pub ivor : List ℕ
  -- software-use special registers 0 to 7
  pub sprg : List ℕ
  pub tsr : ℕ
  pub tcr : ℕ
  pub hid0 : ℕ
  pub l1csr0 : ℕ
  pub l1csr1 : ℕ
  pub bucsr : ℕ
  pub mas0 : ℕ
  pub mas1 : ℕ
  pub mas2 : ℕ
  pub mas3 : ℕ
  pub mas4 : ℕ
  pub mas6 : ℕ
  pub mas7 : ℕ
  -- the core's place in its partition
  pub pir : ℕ
  -- the time base, of 64 bits
  pub time : ℕ
  -- the block of storage that is reserved
  pub reserved : Option ℕ
  -- whether the core waits for an interrupt
  pub idle : Bool

-- what general register n holds
abbrev pub gpr_of : Registers → ℕ → ℕ
gpr_of registers n = slice_index registers.gpr n

-- general register n takes a value
abbrev pub with_gpr : Registers → ℕ → ℕ → Registers
with_gpr registers n value = record registers { gpr = slice_set registers.gpr n value }

-- (RA|0): what general register n holds, and 0 where n is 0
abbrev pub gpr_or_zero : Registers → ℕ → ℕ
gpr_or_zero registers n = if n == 0 then 0 else gpr_of registers n

-- the effective address (RA|0) + (RB) (Book I, section 1.10.3)
abbrev pub indexed_address : Registers → ℕ → ℕ → ℕ
indexed_address registers ra rb = (gpr_or_zero registers ra + gpr_of registers rb) % 2 ^ 32

-- An instruction stands at a multiple of 4, so the last two bits of its address aren't kept.
abbrev pub instruction_address : ℕ → ℕ
instruction_address value = value - value % 4

-- on to the next instruction
unfoldable pub advanced : Registers → Registers
advanced registers = record registers { pc = instruction_address ((registers.pc + 4) % 2 ^ 32) }

-- GS is 1, since the core is a guest's.
abbrev pub machine_state : ℕ → ℕ
machine_state value = bit_or (bit_and value state_bits) guest_state

-- whether a user program runs
abbrev pub in_problem_state : Registers → Bool
in_problem_state registers = is_set problem_state registers.msr

-- the address spaces of instructions and of data
abbrev pub instruction_space : Registers → Bool
instruction_space registers = is_set instruction_address_space registers.msr

abbrev pub data_space : Registers → Bool
data_space registers = is_set data_address_space registers.msr

-- the bits that these registers keep
abbrev pub xer_bits : ℕ
xer_bits = 0xE000007F

abbrev pub pid_bits : ℕ
pid_bits = 0x00003FFF

abbrev pub ivpr_bits : ℕ
ivpr_bits = 0xFFFF0000

abbrev pub mas7_bits : ℕ
mas7_bits = 0x0000000F

abbrev pub l1csr0_bits : ℕ
l1csr0_bits = 0xFFFFFEFD

abbrev pub l1csr1_bits : ℕ
l1csr1_bits = 0xFFFFFEFD

abbrev pub bucsr_bits : ℕ
bucsr_bits = 0xFFFFFDFF

abbrev pub ivor_bits : ℕ
ivor_bits = 0x0000FFF0

-- what never changes: the processor's version, and the shapes of its two TLBs
abbrev pub version : ℕ
version = 0x80230020

abbrev pub first_tlb_shape : ℕ
first_tlb_shape = 0x04110200

abbrev pub second_tlb_shape : ℕ
second_tlb_shape = 0x401BC040

-- What a client program finds (ePAPR 1.1, chapter 5): its entry in the PC, its device tree's address in r3, the magic number
-- "EPAP" in r6, the size of the area that is mapped at the start in r7, 64 MiB. All else is 0 but PIR, and GS in MSR.
unfoldable pub boot_registers : ℕ → ℕ → ℕ → Registers
boot_registers entry tree core =
    let zeros : Registers = record {
      gpr = replicate 32 0;
      cr = 0;
      xer = 0;
      lr = 0;
      ctr = 0;
      pc = entry;
      msr = guest_state;
      dec = 0;
      decar = 0;
      srr0 = 0;
      srr1 = 0;
      dear = 0;
      esr = 0;
      pid = 0;
      csrr0 = 0;
      csrr1 = 0;
      mcsrr0 = 0;
      mcsrr1 = 0;
      ivpr = 0;
      ivor = replicate 16 0;
      sprg = replicate 8 0;
      tsr = 0;
      tcr = 0;
      hid0 = 0;
      l1csr0 = 0;
      l1csr1 = 0;
      bucsr = 0;
      mas0 = 0;
      mas1 = 0;
      mas2 = 0;
      mas3 = 0;
      mas4 = 0;
      mas6 = 0;
      mas7 = 0;
      pir = core;
      time = 0;
      reserved = None;
      idle = false;
    } in
    with_gpr (with_gpr (with_gpr zeros 3 tree) 6 0x45504150) 7 0x04000000
