-- A copy is what it takes from the one memory, put into the other.
use Rattle.std.proofs.Common.{◌≡◌, ℕ, ◌+◌, Bool, true, false, not, cond, ◌==◌, List, [], ◌∷◌, ◌++◌, length, map, take, drop, flat_map, refl, sym, ap, ◌∙◌, arith}
use Rattle.std.proofs.Math.Seq.{take-append_seam, drop-append_seam}
use Rattle.std.proofs.lemmas.Bool.{and_parts, eqb-true, eq-eqb}
use Rattle.std.proofs.lemmas.List.FromFn.{length-map-range_with_len}
use Rattle.std.proofs.lemmas.List.Sums.{sum_by-cons}
use Rattle.machine_desc.specs.declared.desc.Region.{Region}
use Rattle.machine_desc.specs.declared.desc.Span.{Span}
use Rattle.machine_desc.specs.Private.{is_private_range}
use Rattle.machine_desc.specs.Sound.{are_regions_sound}
use Rattle.copy_lists.specs.declared.list.SgEntry.{SgEntry}
use Rattle.copy_lists.specs.Lists.{is_entry_private, total}
use Rattle.copy_lists.specs.Moving.{byte_in, bytes_in, put, entry_copied, copied, AreApart, AreCopiable}
use Rattle.copy_lists.specs.Pieces.{Piece, with_bytes, sources_of, pieces_out, pieces_in, shared_out, size_of, all_put}
use Rattle.copy_lists.proofs.Entries.{both_private}
use Rattle.ground.specs.Extents.{extent_at}
use Rattle.fresh_load.specs.Placed.{is_private_extent, sizes_of}
use Rattle.copy_lists.proofs.Putting.{put_none, put_sizes, put_others}
use Rattle.copy_lists.proofs.Runs.{bytes_stay}

-- what an entry takes
abbrev piece_out : List Region → List (List ℕ) → SgEntry → Piece
piece_out from memory entry = record { at = entry.target; bytes = bytes_in from memory entry.source entry.size }

-- what goes out is as it was, after bytes were put into the other memory
pieces_kept : (from to : List Region) (memory : List (List ℕ)) (at : ℕ) (bytes : List ℕ) (entries : List SgEntry) → are_regions_sound from ≡ true → AreApart from to → AreCopiable from to entries
    → pieces_out from (put to memory at bytes) entries ≡ pieces_out from memory entries
pieces_kept from to memory at bytes [] sound apart h = refl
pieces_kept from to memory at bytes (entry ∷ entries) sound apart h =
    let parts = and_parts (is_entry_private (is_private_range from) (is_private_range to) entry) _ h in
    let mine : bytes_in from (put to memory at bytes) entry.source entry.size ≡ bytes_in from memory entry.source entry.size =
    bytes_stay from to memory at bytes entry.source entry.size sound apart (both_private from to entry parts.0).0 in
    by_size (entry.size == 0) mine (pieces_kept from to memory at bytes entries sound apart parts.1)
  where
    by_size : (b : Bool) → bytes_in from (put to memory at bytes) entry.source entry.size ≡ bytes_in from memory entry.source entry.size
        → pieces_out from (put to memory at bytes) entries ≡ pieces_out from memory entries
        → map (piece_out from (put to memory at bytes)) (cond (not b) (entry ∷ with_bytes entries) (with_bytes entries))
        ≡ map (piece_out from memory) (cond (not b) (entry ∷ with_bytes entries) (with_bytes entries))
    by_size true mine rest = rest
    by_size false mine rest = λ i. (record { at = entry.target; bytes = mine i }) ∷ rest i

pub copied_pieces : (from to : List Region) (memory : List (List ℕ)) (entries : List SgEntry) → are_regions_sound from ≡ true → AreApart from to → AreCopiable from to entries
    → copied from to entries memory ≡ all_put to (pieces_out from memory entries) memory
copied_pieces from to memory [] sound apart h = refl
copied_pieces from to memory (entry ∷ entries) sound apart h =
    let parts = and_parts (is_entry_private (is_private_range from) (is_private_range to) entry) _ h in
    let after : List (List ℕ) = entry_copied from to memory entry in
    copied_pieces from to after entries sound apart parts.1
    ∙ (ap (λ (pieces : List Piece). all_put to pieces after) (pieces_kept from to memory entry.target (bytes_in from memory entry.source entry.size) entries sound apart parts.1)
    ∙ by_size (entry.size == 0) refl)
  where
    by_size : (b : Bool) → (entry.size == 0) ≡ b → all_put to (pieces_out from memory entries) (entry_copied from to memory entry)
        ≡ all_put to (map (piece_out from memory) (cond (not b) (entry ∷ with_bytes entries) (with_bytes entries))) memory
    by_size true none =
        ap (λ (n : ℕ). all_put to (pieces_out from memory entries) (put to memory entry.target (bytes_in from memory entry.source n))) (eqb-true entry.size 0 none)
        ∙ ap (all_put to (pieces_out from memory entries)) (put_none to memory entry.target)
    by_size false some = refl

-- they have as many bytes as the entries copy together
pub pieces_total : (from : List Region) (memory : List (List ℕ)) (entries : List SgEntry) → size_of (pieces_out from memory entries) ≡ total entries
pieces_total from memory [] = refl
pieces_total from memory (entry ∷ entries) =
    by_size (entry.size == 0) refl (pieces_total from memory entries) ∙ sym (sum_by-cons (λ (it : SgEntry). it.size) entry entries)
  where
    by_size : (b : Bool) → (entry.size == 0) ≡ b → size_of (pieces_out from memory entries) ≡ total entries
        → size_of (map (piece_out from memory) (cond (not b) (entry ∷ with_bytes entries) (with_bytes entries))) ≡ entry.size + total entries
    by_size true none rest = let zero : entry.size ≡ 0 = eqb-true entry.size 0 none in omega (arith, zero, rest)
    by_size false some rest =
        let long : length (bytes_in from memory entry.source entry.size) ≡ entry.size = length-map-range_with_len (byte_in from memory) entry.source entry.size in
        sum_by-cons (λ (piece : Piece). length piece.bytes) (piece_out from memory entry) (pieces_out from memory entries) ∙ (λ i. long i + rest i)

-- the bytes of the ranges that a list reads, one range after the other, are the bytes of the pieces
pub fed_pieces : (from : List Region) (memory : List (List ℕ)) (entries : List SgEntry)
    → pieces_in entries (flat_map (λ (range : Span). bytes_in from memory range.at range.size) (sources_of entries)) ≡ pieces_out from memory entries
fed_pieces from memory entries = of_each (with_bytes entries)
  where
    source : SgEntry → Span
    source entry = record { at = entry.source; size = entry.size }

    of_each : (some : List SgEntry) → shared_out some (flat_map (λ (range : Span). bytes_in from memory range.at range.size) (map source some)) ≡ map (piece_out from memory) some
    of_each [] = refl
    of_each (entry ∷ some) =
        let bytes : List ℕ = bytes_in from memory entry.source entry.size in
        let rest : List ℕ = flat_map (λ (range : Span). bytes_in from memory range.at range.size) (map source some) in
        let long : length bytes ≡ entry.size = length-map-range_with_len (byte_in from memory) entry.source entry.size in
        let first : take entry.size (bytes ++ rest) ≡ bytes = ap (λ (n : ℕ). take n (bytes ++ rest)) (sym long) ∙ take-append_seam bytes rest in
        let left : drop entry.size (bytes ++ rest) ≡ rest = ap (λ (n : ℕ). drop n (bytes ++ rest)) (sym long) ∙ drop-append_seam bytes rest in
        (λ i. (record { at = entry.target; bytes = first i }) ∷ shared_out some (left i))
        ∙ ap (λ (pieces : List Piece). piece_out from memory entry ∷ pieces) (of_each some)

-- ---- what pieces leave

pub all_put_sizes : (regions : List Region) (pieces : List Piece) (memory : List (List ℕ)) → sizes_of (all_put regions pieces memory) ≡ sizes_of memory
all_put_sizes regions [] memory = refl
all_put_sizes regions (piece ∷ pieces) memory = all_put_sizes regions pieces (put regions memory piece.at piece.bytes) ∙ put_sizes regions memory piece.at piece.bytes

-- extents that are none of a private region stay
pub all_put_others : (regions : List Region) (pieces : List Piece) (memory : List (List ℕ)) (extent : ℕ) → is_private_extent regions extent ≡ false
    → extent_at (all_put regions pieces memory) extent ≡ extent_at memory extent
all_put_others regions [] memory extent h = refl
all_put_others regions (piece ∷ pieces) memory extent h =
    all_put_others regions pieces (put regions memory piece.at piece.bytes) extent h ∙ put_others regions memory piece.at piece.bytes extent h

-- ---- a list that copies bytes

-- where it copies some, some entry has some
pub none_with_bytes : (entries : List SgEntry) → total entries ≡ 0 → with_bytes entries ≡ []
none_with_bytes [] none = refl
none_with_bytes (entry ∷ entries) none =
    let all : total (entry ∷ entries) ≡ entry.size + total entries = sum_by-cons (λ (it : SgEntry). it.size) entry entries in
    let zero : entry.size ≡ 0 = omega (arith, all, none) in
    ap (λ (b : Bool). cond (not b) (entry ∷ with_bytes entries) (with_bytes entries)) (eq-eqb entry.size 0 zero) ∙ none_with_bytes entries (omega (arith, all, none))
