-- What segments that fit their file give.
use Rattle.std.proofs.Common.{◌≡◌, ℕ, ◌+◌, ◌<◌, true, false, nat_lt, nat_le, arith}
use Rattle.std.specs.Prelude.{◌&&◌, ◌||◌, ◌==◌}
use Rattle.std.proofs.lemmas.Bool.Decides.{nat_tests}
use Rattle.elf_image.specs.declared.segment.Segment.{Segment}
use Rattle.elf_image.specs.Piece.{piece_limit, is_piece_of}
use Rattle.elf_image.specs.Segment.{is_load, is_bad_segment}

tests-kept : (size from len total limit : ℕ) → total < limit → ((nat_lt 0 len && nat_lt size (from + len)) || nat_lt total len) ≡ false
    → ((len == 0 || nat_le (from + len) size) && nat_le len total && nat_lt total limit) ≡ true
tests-kept size from len total limit small placed = grind (arith, nat_tests)

-- a piece of a loaded segment that fits the file has its bytes in the file, and no more than in all, wherever it lies
pub piece-fits : (size at : ℕ) (segment : Segment) → is_load segment ≡ true → is_bad_segment size segment ≡ false → segment.total < piece_limit
    → is_piece_of size (record { at = at; from = segment.from; len = segment.len; total = segment.total }) ≡ true
unfolding is_bad_segment is_piece_of
piece-fits size at segment load placed small =
    tests-kept size segment.from segment.len segment.total piece_limit small (rw load at placed)
