-- Real memory as a list of extents, each the list of its bytes.
use Rattle.std.specs.Prelude.{ℕ, ◌+◌, ◌<◌, ◌≤◌, List, [], ◌++◌, length, take, drop, map, replicate, slice_index_or, slice_set, sum}
use Rattle.byteorder.specs.Endian.{big_number, big_bytes}

-- the bytes of the extent with this number, in order
abbrev pub extent_at : List (List ℕ) → ℕ → List ℕ
extent_at extents extent = slice_index_or extents extent []

-- the memory whose extent with this number has these bytes, and whose others stay
abbrev pub with_extent : List (List ℕ) → ℕ → List ℕ → List (List ℕ)
with_extent extents extent bytes = slice_set extents extent bytes

-- the extent exists, and so many bytes from this offset on lie within it
abbrev pub HasRange : List (List ℕ) → ℕ → ℕ → ℕ → Type 0
HasRange extents extent at count = (extent < length extents) × (at + count ≤ length (extent_at extents extent))

-- so many bytes of an extent from this offset on
abbrev pub bytes_at : List (List ℕ) → ℕ → ℕ → ℕ → List ℕ
bytes_at extents extent at count = take count (drop at (extent_at extents extent))

-- the old bytes, but for the new ones from this offset on
abbrev pub written : ℕ → List ℕ → List ℕ → List ℕ
written at bytes old = take at old ++ (bytes ++ drop (at + length bytes) old)

-- the memory after these bytes were written into one extent from this offset on
abbrev pub after_write : List (List ℕ) → ℕ → ℕ → List ℕ → List (List ℕ)
after_write extents extent at bytes = with_extent extents extent (written at bytes (extent_at extents extent))

-- the number in so many bytes from this offset on, the highest byte first
abbrev pub number_at : List (List ℕ) → ℕ → ℕ → ℕ → ℕ
number_at extents extent at width = big_number width (drop at (extent_at extents extent))

-- the memory after the lowest bytes of a number, so many, were written from this offset on, the highest of them first
abbrev pub after_store : List (List ℕ) → ℕ → ℕ → ℕ → ℕ → List (List ℕ)
after_store extents extent at width value = after_write extents extent at (big_bytes width value)

-- extents of these sizes in bytes, all zero
abbrev pub zero_extents : List ℕ → List (List ℕ)
zero_extents sizes = map (λ size. replicate size 0) sizes

-- the sizes together are a GiB at most
abbrev pub AreSmall : List ℕ → Type 0
AreSmall sizes = sum sizes ≤ 1073741824
