-- The timers of a core as one step passes (Power ISA 2.06, Book III-E, chapter 9). A step is the unit of time.
use Rattle.std.specs.Prelude.{ℕ, ◌+◌, ◌-◌, ◌%◌, ◌^◌, ◌==◌, Bool, ◌&&◌, bit_or, if◌then◌else◌}
use Rattle.guest_regs.specs.Registers.{Registers}
use Rattle.guest_regs.specs.State.{is_set}

-- DIS of the timer status register: the decrementer has expired.
abbrev pub decrementer_status : ℕ
decrementer_status = 2 ^ 27

-- DIE of the timer control register: the decrementer's interrupt is enabled.
abbrev pub decrementer_enable : ℕ
decrementer_enable = 2 ^ 26

-- ARE of the timer control register: the decrementer is reloaded when it expires.
abbrev pub auto_reload : ℕ
auto_reload = 2 ^ 22

-- The time base counts up through all its 64 bits, and begins again at 0.
abbrev pub time_passed : Registers → Registers
time_passed registers = record registers { time = (registers.time + 1) % 2 ^ 64 }

-- A decrementer that expires sets its status, and goes on from DECAR where it is reloaded, else it is 0.
unfoldable pub expired : Registers → Registers
expired registers = record registers {
  dec = if is_set auto_reload registers.tcr then registers.decar else 0;
  tsr = bit_or registers.tsr decrementer_status;
}

-- A decrementer above 1 falls by one, at 1 it expires, and at 0 it stays.
abbrev pub decremented : Registers → Registers
decremented registers =
    if registers.dec == 0 then registers
    else if registers.dec == 1 then expired registers
    else record registers { dec = registers.dec - 1 }

-- The decrementer has expired, and its interrupt is enabled. MSR[EE] has no part in it.
abbrev pub is_decrementer_pending : Registers → Bool
is_decrementer_pending registers = is_set decrementer_status registers.tsr && is_set decrementer_enable registers.tcr

-- one step's time
unfoldable pub ticked : Registers → Registers
ticked registers = decremented (time_passed registers)
