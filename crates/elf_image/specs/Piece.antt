-- What the pieces of an image take of its file.
use Rattle.std.specs.Prelude.{◌≡◌, ℕ, ◌+◌, Bool, true, ◌&&◌, ◌||◌, nat_lt, nat_le, ◌==◌, List}
use Rattle.std.specs.List.{list_all}
use Rattle.elf_image.specs.declared.image.PlanPiece.{PlanPiece}

-- how long a piece may be: less than 4 GiB
abbrev pub piece_limit : ℕ
piece_limit = 4294967296

-- Its bytes are within a file of this size, unless it takes none; it has at most as many as there are in all, and those are few
-- enough.
unfoldable pub is_piece_of : ℕ → PlanPiece → Bool
is_piece_of size piece =
    (piece.len == 0 || nat_le (piece.from + piece.len) size)
    && nat_le piece.len piece.total
    && nat_lt piece.total piece_limit

abbrev pub AreOf : ℕ → List PlanPiece → Type 0
AreOf size pieces = list_all (is_piece_of size) pieces ≡ true
