-- What the registers keep is there from the start, and stays through each write.
use Rattle.std.specs.Prelude.{◌≡◌, ℕ, ◌%◌}
use Rattle.guest_regs.specs.declared.special.Special.{Special}
use Rattle.guest_regs.specs.Registers.{Registers, boot_registers, with_gpr, advanced}
use Rattle.guest_regs.specs.Special.{special_written, spr_write}
use Rattle.guest_regs.specs.Kept.{IsWord, AreKept}

-- A core that starts at an instruction's address keeps it,
abbrev pub StartKeeps : Type 0
StartKeeps = (entry tree core : ℕ) → entry % 4 ≡ 0 → IsWord entry → IsWord tree → IsWord core → AreKept (boot_registers entry tree core)

-- a write of a special register does,
abbrev pub SpecialWritesKeep : Type 0
SpecialWritesKeep = (special : Special) (value : ℕ) (registers : Registers) → IsWord value → AreKept registers → AreKept (special_written special value registers)

-- so does mtspr of any number,
abbrev pub NumberedWritesKeep : Type 0
NumberedWritesKeep = (number value : ℕ) (registers : Registers) → IsWord value → AreKept registers → AreKept (spr_write number value registers).after

-- a general register that takes a word,
abbrev pub GeneralWritesKeep : Type 0
GeneralWritesKeep = (n value : ℕ) (registers : Registers) → IsWord value → AreKept registers → AreKept (with_gpr registers n value)

-- and going on to the next instruction.
abbrev pub AdvancesKeep : Type 0
AdvancesKeep = (registers : Registers) → AreKept registers → AreKept (advanced registers)
