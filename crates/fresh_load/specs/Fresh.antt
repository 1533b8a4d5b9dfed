-- What the memory of a partition begins with.
use Rattle.std.specs.Prelude.{ℕ, ◌+◌, ◌-◌, Bool, cond, ◌&&◌, nat_le, nat_lt, List, ◌∷◌, map, reverse, replicate, find, slice_index_or, Option, Some, None}
use Rattle.std.specs.List.{range_with_len}
use Rattle.machine_desc.specs.declared.desc.Desc.{Desc}
use Rattle.machine_desc.specs.declared.desc.Piece.{Piece}
use Rattle.machine_desc.specs.declared.desc.Region.{Region}

-- the piece has a byte for the address
abbrev pub covers : ℕ → Piece → Bool
covers address piece = nat_le piece.at address && nat_lt address (piece.at + piece.len)

-- that byte: one of its own, or zero behind them
abbrev pub byte_of : ℕ → Piece → ℕ
byte_of address piece = slice_index_or piece.bytes (address - piece.at) 0

-- the byte of the piece, or zero where there is none
abbrev pub byte_from : ℕ → Option Piece → ℕ
byte_from address None = 0
byte_from address (Some piece) = byte_of address piece

-- the byte at an address: that of the last piece that covers it
unfoldable pub fresh_byte : List Piece → ℕ → ℕ
fresh_byte pieces address = byte_from address (find (covers address) (reverse pieces))

-- the bytes of a private region
unfoldable pub fresh_bytes : List Piece → Region → List ℕ
fresh_bytes pieces region = map (fresh_byte pieces) (range_with_len region.logical region.size)

-- the bytes of each region in order; shared ones begin with zeros
abbrev pub fresh_memory : Desc → List (List ℕ)
fresh_memory desc = map (λ (region : Region). cond region.private (fresh_bytes desc.pieces region) (replicate region.size 0)) desc.regions

-- the memory of a partition that is loaded anew: its private regions are as they were first, and shared ones stay
abbrev pub reloaded : List Piece → List Region → List (List ℕ) → List (List ℕ)
reloaded pieces (region ∷ regions) (bytes ∷ memory) = cond region.private (fresh_bytes pieces region) bytes ∷ reloaded pieces regions memory
reloaded pieces _ memory = memory
