-- The bytes that travel in r5 to r8, each register's most significant first (ePAPR 1.1, chapter 7, byte channels).
use Rattle.std.specs.Prelude.{ℕ, ◌+◌, List, [], ◌∷◌, ◌++◌, take, slice_index}
use Rattle.std.specs.Int.{w32, to_be_bytes, from_be_bytes}
use Rattle.guest_regs.specs.Registers.{Registers, gpr_of}

-- the sixteen bytes of r5 to r8
unfoldable pub payload : Registers → List ℕ
payload registers =
    to_be_bytes w32 (gpr_of registers 5)
    ++ to_be_bytes w32 (gpr_of registers 6)
    ++ to_be_bytes w32 (gpr_of registers 7)
    ++ to_be_bytes w32 (gpr_of registers 8)

-- the first of them
abbrev pub sent_bytes : ℕ → Registers → List ℕ
sent_bytes count registers = take count (payload registers)

-- the word of four bytes from a place on; behind the last byte are zeros
abbrev pub word_at : List ℕ → ℕ → ℕ
word_at bytes place =
    from_be_bytes w32 (slice_index bytes place ∷ slice_index bytes (place + 1) ∷ slice_index bytes (place + 2) ∷ slice_index bytes (place + 3) ∷ [])

-- at most sixteen bytes as four words, for r5 to r8
abbrev pub words_of : List ℕ → List ℕ
words_of bytes = word_at bytes 0 ∷ word_at bytes 4 ∷ word_at bytes 8 ∷ word_at bytes 12 ∷ []
