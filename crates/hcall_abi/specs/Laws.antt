-- A reply is read where it was written, and bytes that were received could be sent.
use Rattle.std.specs.Prelude.{◌≡◌, ℕ, ◌+◌, ◌-◌, ◌<◌, ◌≤◌, ◌⊎◌, List, ◌++◌, All, length, slice_index, flat_map, replicate}
use Rattle.std.specs.Int.{w32, to_be_bytes}
use Rattle.guest_regs.specs.Registers.{Registers, gpr_of}
use Rattle.hcall_abi.specs.Payload.{words_of}
use Rattle.hcall_abi.specs.Reply.{Reply, replied}

-- The status stands in r3,
abbrev pub StatusIsRead : Type 0
StatusIsRead = (reply : Reply) (registers : Registers) → length registers.gpr ≡ 32 → gpr_of (replied reply registers) 3 ≡ reply.status

-- the values stand in r4 and on,
abbrev pub ValuesAreRead : Type 0
ValuesAreRead =
    (reply : Reply) (registers : Registers) (n : ℕ) → length registers.gpr ≡ 32 → length reply.outs ≤ 5 → n < length reply.outs
    → gpr_of (replied reply registers) (4 + n) ≡ slice_index reply.outs n

-- the other general registers are as before,
abbrev pub OthersStay : Type 0
OthersStay =
    (reply : Reply) (registers : Registers) (n : ℕ) → (n < 3) ⊎ (4 + length reply.outs ≤ n) → gpr_of (replied reply registers) n ≡ gpr_of registers n

-- and so is all else.
abbrev pub AllElseStays : Type 0
AllElseStays = (reply : Reply) (registers : Registers) → record (replied reply registers) { gpr = registers.gpr } ≡ registers

-- Four words spell their sixteen bytes: those that were given, and zeros behind.
abbrev pub WordsSpell : Type 0
WordsSpell =
    (bytes : List ℕ) → length bytes ≤ 16 → All (λ byte. byte < 256) bytes → flat_map (to_be_bytes w32) (words_of bytes) ≡ bytes ++ replicate (16 - length bytes) 0
