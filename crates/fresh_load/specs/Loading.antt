-- What the steps of loading leave.
use Rattle.std.specs.Prelude.{ℕ, ◌+◌, cond, List, [], ◌∷◌, map, slice_index_or}
use Rattle.std.specs.List.{range_with_len}
use Rattle.machine_desc.specs.declared.desc.Piece.{Piece}
use Rattle.machine_desc.specs.declared.desc.Region.{Region}
use Rattle.ground.specs.Extents.{with_extent}
use Rattle.fresh_load.specs.Fresh.{covers, byte_of, fresh_bytes}

-- so many of the bytes from there on, and zeros behind the last
abbrev pub padded_part : List ℕ → ℕ → ℕ → List ℕ
padded_part bytes from count = map (λ place. slice_index_or bytes place 0) (range_with_len from count)

-- the byte at the address once the piece is over it
abbrev pub byte_over : Piece → ℕ → ℕ → ℕ
byte_over piece address old = cond (covers address piece) (byte_of address piece) old

-- the bytes from the address on once the piece is over them
abbrev pub bytes_over : Piece → ℕ → List ℕ → List ℕ
bytes_over piece address [] = []
bytes_over piece address (old ∷ rest) = byte_over piece address old ∷ bytes_over piece (address + 1) rest

-- the memory after one region was filled, unless it is shared
abbrev pub region_loaded : List Piece → Region → List (List ℕ) → List (List ℕ)
region_loaded pieces region memory = cond region.private (with_extent memory region.extent (fresh_bytes pieces region)) memory

-- the memory after these regions were filled
abbrev pub loaded : List Piece → List Region → List (List ℕ) → List (List ℕ)
loaded pieces [] memory = memory
loaded pieces (region ∷ regions) memory = loaded pieces regions (region_loaded pieces region memory)
