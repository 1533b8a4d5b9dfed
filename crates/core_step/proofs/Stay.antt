-- A write keeps the sizes of all extents.
use Rattle.std.proofs.Common.{◌≡◌, ℕ, zero, suc, ◌+◌, ◌<◌, ◌≤◌, List, [], ◌∷◌, ◌++◌, map, length, take, drop, slice_index_or, slice_set, ap, ◌∙◌, arith, length-append}
use Rattle.std.proofs.lemmas.List.{length-take-le, length-drop}
use Rattle.ground.specs.Extents.{extent_at, written, after_write, HasRange}

written_size : (at : ℕ) (bytes old : List ℕ) → at + length bytes ≤ length old → length (written at bytes old) ≡ length old
written_size at bytes old fits =
    length-append (take at old) (bytes ++ drop (at + length bytes) old)
    ∙ ap (λ n. length (take at old) + n) (length-append bytes (drop (at + length bytes) old))
    ∙ omega (arith, length-take-le at old (omega arith), length-drop (at + length bytes) old)

set_size : (extents : List (List ℕ)) (i : ℕ) (new : List ℕ) → length new ≡ length (slice_index_or extents i []) → i < length extents → map length (slice_set extents i new) ≡ map length extents
set_size [] i new same exists = absurd (omega arith)
set_size (x ∷ xs) zero new same exists = ap (λ n. n ∷ map length xs) same
set_size (x ∷ xs) (suc i) new same exists = ap (λ ns. length x ∷ ns) (set_size xs i new same (omega arith))

pub same_sizes : (extents : List (List ℕ)) (extent at : ℕ) (bytes : List ℕ) → HasRange extents extent at (length bytes) → map length (after_write extents extent at bytes) ≡ map length extents
same_sizes extents extent at bytes range = set_size extents extent _ (written_size at bytes (extent_at extents extent) range.1) range.0

-- the ranges of one extent of 16 KiB
first_size : (x : List ℕ) (xs : List (List ℕ)) → length x ∷ map length xs ≡ 16384 ∷ [] → length x ≡ 16384
first_size x xs e = cc

pub first_page : (memory : List (List ℕ)) (at count : ℕ) → map length memory ≡ 16384 ∷ [] → at + count ≤ 16384 → HasRange memory 0 at count
first_page [] at count e fits = absurd cc
first_page (x ∷ xs) at count e fits = (omega arith, omega (arith, first_size x xs e))
