-- What a copy brings: pieces of bytes, each for the addresses from one on.
use Rattle.std.specs.Prelude.{ℕ, ◌==◌, ◌||◌, Bool, not, List, [], ◌∷◌, map, filter, take, drop, sum_by, length}
use Rattle.std.specs.List.{list_all}
use Rattle.machine_desc.specs.declared.desc.Region.{Region}
use Rattle.machine_desc.specs.declared.desc.Span.{Span}
use Rattle.machine_desc.specs.Private.{is_private_range}
use Rattle.copy_lists.specs.declared.list.SgEntry.{SgEntry}
use Rattle.copy_lists.specs.Moving.{bytes_in, put}

-- bytes, and the logical address from which on they stand once they are written
pub record Piece : Type 0 where
  pub at : ℕ
  pub bytes : List ℕ

-- the addresses of its bytes
abbrev pub span_of : Piece → Span
span_of piece = record { at = piece.at; size = length piece.bytes }

-- how many bytes the pieces have together
abbrev pub size_of : List Piece → ℕ
size_of pieces = sum_by (λ (piece : Piece). length piece.bytes) pieces

-- an entry without bytes copies nothing
abbrev pub with_bytes : List SgEntry → List SgEntry
with_bytes entries = filter (λ (entry : SgEntry). not (entry.size == 0)) entries

-- the addresses that a list reads, and those that it writes
abbrev pub sources_of : List SgEntry → List Span
sources_of entries = map (λ (entry : SgEntry). record { at = entry.source; size = entry.size }) (with_bytes entries)

abbrev pub targets_of : List SgEntry → List Span
targets_of entries = map (λ (entry : SgEntry). record { at = entry.target; size = entry.size }) (with_bytes entries)

-- what goes out of a memory of these regions by a list
abbrev pub pieces_out : List Region → List (List ℕ) → List SgEntry → List Piece
pieces_out regions memory entries =
    map (λ (entry : SgEntry). record { at = entry.target; bytes = bytes_in regions memory entry.source entry.size }) (with_bytes entries)

-- so many of the bytes that are given to each entry, one after the other
abbrev pub shared_out : List SgEntry → List ℕ → List Piece
shared_out [] bytes = []
shared_out (entry ∷ entries) bytes = record { at = entry.target; bytes = take entry.size bytes } ∷ shared_out entries (drop entry.size bytes)

-- what comes by a list, of which these are the bytes
abbrev pub pieces_in : List SgEntry → List ℕ → List Piece
pieces_in entries bytes = shared_out (with_bytes entries) bytes

-- a memory of these regions once the pieces were written into private ones, the first piece first
abbrev pub all_put : List Region → List Piece → List (List ℕ) → List (List ℕ)
all_put regions [] memory = memory
all_put regions (piece ∷ pieces) memory = all_put regions pieces (put regions memory piece.at piece.bytes)

-- the bytes that each entry writes are private. One without bytes may have any address.
abbrev pub are_targets_private : List Region → List SgEntry → Bool
are_targets_private regions entries = list_all (λ (entry : SgEntry). entry.size == 0 || is_private_range regions entry.target entry.size) entries
