-- What a write leaves of an extent, and of the memory.
use Rattle.std.proofs.Common.{arith, refl, ap, sym, ◌∙◌, ◌≡◌, ℕ, ◌+◌, ◌^◌, ◌<◌, ◌≤◌, List, [], ◌++◌, length, take, drop}
use Rattle.std.proofs.lemmas.List.{get_or-set_same, length-take-le, drop_at, drop-drop, take-append-le, take-take, drop-take}
use Rattle.std.proofs.lemmas.Slice.{drop-put_mid}
use Rattle.byteorder.specs.Endian.{big_number, big_bytes}
use Rattle.byteorder.specs.Numbers.{big_number-reads_back}
use Rattle.ground.specs.Extents.{extent_at, written, after_write, bytes_at, number_at, after_store, HasRange}

-- what lies from the offset on
drop-written : (at : ℕ) (bytes old : List ℕ) → at ≤ length old → drop at (written at bytes old) ≡ bytes ++ drop (at + length bytes) old
drop-written at bytes old h = drop_at (take at old) _ at (length-take-le at old h)

-- what lies behind the range
drop-written_above : (at place : ℕ) (bytes old : List ℕ) → at + length bytes ≤ length old → at + length bytes ≤ place → drop place (written at bytes old) ≡ drop place old
drop-written_above at place bytes old h le =
    ap (λ zs. drop place (take at old ++ (bytes ++ zs))) (sym (drop-drop (length bytes) at old))
    ∙ drop-put_mid at (length bytes) old bytes place le (omega arith) refl

-- lists that are alike at the front are alike in each part of it
same_part : (place count : ℕ) (xs ys : List ℕ) → take (place + count) xs ≡ take (place + count) ys → take count (drop place xs) ≡ take count (drop place ys)
same_part place count xs ys e = sym (drop-take place count xs) ∙ (ap (drop place) e ∙ drop-take place count ys)

-- what lies before the range
take-written_below : (at n : ℕ) (bytes old : List ℕ) → at ≤ length old → n ≤ at → take n (written at bytes old) ≡ take n old
take-written_below at n bytes old h le =
    let long : n ≤ length (take at old) = omega (arith, length-take-le at old h) in take-append-le n (take at old) _ long ∙ take-take n at old le

written_extent : (extents : List (List ℕ)) (extent at : ℕ) (bytes : List ℕ) → extent < length extents
    → extent_at (after_write extents extent at bytes) extent ≡ written at bytes (extent_at extents extent)
written_extent extents extent at bytes h = get_or-set_same extents extent _ [] h

pub same_below : (extents : List (List ℕ)) (extent at place count : ℕ) (bytes : List ℕ) → HasRange extents extent at (length bytes) → place + count ≤ at
    → bytes_at (after_write extents extent at bytes) extent place count ≡ bytes_at extents extent place count
same_below extents extent at place count bytes h le =
    ap (λ xs. take count (drop place xs)) (written_extent extents extent at bytes h.0)
    ∙ same_part place count _ _ (take-written_below at (place + count) bytes (extent_at extents extent) (omega (arith, h.1)) le)

pub same_above : (extents : List (List ℕ)) (extent at place count : ℕ) (bytes : List ℕ) → HasRange extents extent at (length bytes) → at + length bytes ≤ place
    → bytes_at (after_write extents extent at bytes) extent place count ≡ bytes_at extents extent place count
same_above extents extent at place count bytes h le =
    ap (λ xs. take count (drop place xs)) (written_extent extents extent at bytes h.0)
    ∙ ap (take count) (drop-written_above at place bytes (extent_at extents extent) h.1 le)

pub loaded_back : (extents : List (List ℕ)) (extent at width value : ℕ) → HasRange extents extent at width → value < 256 ^ width
    → number_at (after_store extents extent at width value) extent at width ≡ value
loaded_back extents extent at width value h small =
    ap (λ xs. big_number width (drop at xs)) (written_extent extents extent at (big_bytes width value) h.0)
    ∙ (ap (big_number width) (drop-written at (big_bytes width value) (extent_at extents extent) (omega (arith, h.1)))
    ∙ big_number-reads_back width value _ small)
