-- The bits of the machine state register (Power ISA 2.06, Book III-E, chapter 4) and of the exception syndrome register (chapter 7),
-- each by its weight.
use Rattle.std.specs.Prelude.{ℕ, ◌+◌, ◌/◌, ◌%◌, ◌^◌, ◌==◌, Bool, if◌then◌else◌}

-- whether a value has the bit of this weight
abbrev pub is_set : ℕ → ℕ → Bool
is_set bit value = value / bit % 2 == 1

-- GS: the core is a guest's.
abbrev pub guest_state : ℕ
guest_state = 0x10000000

-- CE: critical interrupts are enabled.
abbrev pub critical_enable : ℕ
critical_enable = 2 ^ 17

-- EE: external and decrementer interrupts are enabled.
abbrev pub external_enable : ℕ
external_enable = 2 ^ 15

-- PR: the problem state, in which user programs run
abbrev pub problem_state : ℕ
problem_state = 2 ^ 14

-- ME: machine checks are enabled.
abbrev pub machine_check_enable : ℕ
machine_check_enable = 2 ^ 12

-- IS: the address space that instructions are fetched from
abbrev pub instruction_address_space : ℕ
instruction_address_space = 2 ^ 5

-- DS: the address space of loads and stores
abbrev pub data_address_space : ℕ
data_address_space = 2 ^ 4

-- the bits that a guest turns, which are all that MSR keeps beside GS
abbrev pub state_bits : ℕ
state_bits = critical_enable + external_enable + problem_state + machine_check_enable + instruction_address_space + data_address_space

-- PIL: an illegal instruction
abbrev pub illegal : ℕ
illegal = 0x08000000

-- PPR: a privileged instruction, in the problem state
abbrev pub privileged : ℕ
privileged = 0x04000000

-- PTR: a trap
abbrev pub trap : ℕ
trap = 0x02000000

-- ST: the access was a store.
abbrev pub store_access : ℕ
store_access = 0x00800000

-- BO: the page is little-endian.
abbrev pub byte_ordering : ℕ
byte_ordering = 0x00020000

-- what ESR tells of an access that is a store, or a load
abbrev pub store_syndrome : Bool → ℕ
store_syndrome store = if store then store_access else 0

-- what ESR tells of the order of a page's bytes
abbrev pub order_syndrome : Bool → ℕ
order_syndrome little = if little then byte_ordering else 0
