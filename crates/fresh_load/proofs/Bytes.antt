-- Bytes written over bytes.
use Rattle.std.proofs.Common.{◌≡◌, ℕ, ◌+◌, ◌-◌, ◌<◌, ◌≤◌, min, List, [], ◌++◌, length, get_or, take, drop, replicate, refl, sym, ap, ◌∙◌, ⊎_elim, append_assoc, arith}
use Rattle.std.proofs.lemmas.Bool.{cases_lt}
use Rattle.std.proofs.lemmas.Grind.{same_number_lists}
use Rattle.std.proofs.lemmas.List.{length-take, length-drop, length-append, length-replicate, length-take-le, get_or_append_left, get_or-append_right, get_or-take, get_or-drop, get_or-replicate, get_or_past, drop-drop, drop_at, take_at, set-set, get_or-set_same}
use Rattle.std.proofs.lemmas.List.FromFn.{length-map-range_with_len, get_or-map-range_with_len}
use Rattle.ground.specs.Extents.{extent_at, written, after_write, with_extent}
use Rattle.fresh_load.specs.Loading.{padded_part}

-- ---- one write

pub length-written : (at : ℕ) (bytes old : List ℕ) → at + length bytes ≤ length old → length (written at bytes old) ≡ length old
length-written at bytes old h =
    let front : length (take at old) ≡ at = length-take-le at old (omega arith) in
    let back : length (drop (at + length bytes) old) ≡ length old - (at + length bytes) = length-drop (at + length bytes) old in
    let inner : length (bytes ++ drop (at + length bytes) old) ≡ length bytes + length (drop (at + length bytes) old) = length-append bytes (drop (at + length bytes) old) in
    let all : length (written at bytes old) ≡ length (take at old) + length (bytes ++ drop (at + length bytes) old) = length-append (take at old) _ in
    omega arith

pub written_below : (at k : ℕ) (bytes old : List ℕ) → at ≤ length old → k < at → get_or (written at bytes old) k 0 ≡ get_or old k 0
written_below at k bytes old h low =
    let front : length (take at old) ≡ at = length-take-le at old h in
    get_or_append_left (take at old) _ 0 k (omega arith) ∙ get_or-take at old k 0 low

-- what stands from the offset on
behind : (at k : ℕ) (bytes old : List ℕ) → at ≤ length old → at ≤ k → get_or (written at bytes old) k 0 ≡ get_or (bytes ++ drop (at + length bytes) old) (k - at) 0
behind at k bytes old h low = get_or-append_right (take at old) _ at k 0 (length-take-le at old h) low

pub written_within : (at k : ℕ) (bytes old : List ℕ) → at ≤ length old → at ≤ k → k < at + length bytes → get_or (written at bytes old) k 0 ≡ get_or bytes (k - at) 0
written_within at k bytes old h low high = behind at k bytes old h low ∙ get_or_append_left bytes _ 0 (k - at) (omega arith)

pub written_above : (at k : ℕ) (bytes old : List ℕ) → at + length bytes ≤ length old → at + length bytes ≤ k → get_or (written at bytes old) k 0 ≡ get_or old k 0
written_above at k bytes old h high =
    let same : at + length bytes + (k - at - length bytes) ≡ k = omega arith in
    behind at k bytes old (omega arith) (omega arith)
    ∙ (get_or-append_right bytes _ (length bytes) (k - at) 0 refl (omega arith)
    ∙ (get_or-drop (at + length bytes) old (k - at - length bytes) 0 ∙ ap (λ (n : ℕ). get_or old n 0) same))

-- ---- one write behind another

written_on : (at : ℕ) (a b old : List ℕ) → at + length a + length b ≤ length old → written (at + length a) b (written at a old) ≡ written at (a ++ b) old
written_on at a b old h =
    let front : length (take at old) ≡ at = length-take-le at old (omega arith) in
    let all : written at a old ≡ (take at old ++ a) ++ drop (at + length a) old = sym (append_assoc (take at old) a _) in
    let size : length (take at old ++ a) ≡ at + length a = omega (arith, length-append (take at old) a) in
    let start : take (at + length a) (written at a old) ≡ take at old ++ a = ap (take (at + length a)) all ∙ take_at (take at old ++ a) _ (at + length a) size in
    let middle : drop (at + length a) (written at a old) ≡ drop (at + length a) old = ap (drop (at + length a)) all ∙ drop_at (take at old ++ a) _ (at + length a) size in
    let sum : at + length (a ++ b) ≡ at + length a + length b = omega (arith, length-append a b) in
    let end : drop (at + length a + length b) (written at a old) ≡ drop (at + length (a ++ b)) old =
    sym (drop-drop (length b) (at + length a) (written at a old)) ∙ (ap (drop (length b)) middle ∙ (drop-drop (length b) (at + length a) old ∙ ap (λ (n : ℕ). drop n old) (sym sum))) in
    ap (λ (xs : List ℕ). xs ++ (b ++ drop (at + length a + length b) (written at a old))) start
    ∙ (ap (λ (xs : List ℕ). (take at old ++ a) ++ (b ++ xs)) end
    ∙ (append_assoc (take at old) a _ ∙ ap (λ (xs : List ℕ). take at old ++ xs) (sym (append_assoc a b _))))

-- ---- bytes and the zeros behind them

own_length : (bytes : List ℕ) (from count : ℕ) → length (take count (drop from bytes)) ≡ min count (length bytes - from)
own_length bytes from count = length-take count (drop from bytes) ∙ ap (min count) (length-drop from bytes)

pub own_few : (bytes : List ℕ) (from count : ℕ) → length (take count (drop from bytes)) ≤ count
own_few bytes from count = let size = own_length bytes from count in omega arith

own_byte : (bytes : List ℕ) (from count k : ℕ) → k < count → get_or (take count (drop from bytes)) k 0 ≡ get_or bytes (from + k) 0
own_byte bytes from count k h = get_or-take count (drop from bytes) k 0 h ∙ get_or-drop from bytes k 0

-- a byte of the bytes and of the zeros behind them
own_or_zero : (bytes own : List ℕ) (from count k : ℕ) → own ≡ take count (drop from bytes) → k < count → get_or (own ++ replicate (count - length own) 0) k 0 ≡ get_or bytes (from + k) 0
own_or_zero bytes own from count k e small =
    let size : length own ≡ min count (length bytes - from) = ap length e ∙ own_length bytes from count in
    ⊎_elim
    (λ (l : k < length own). get_or_append_left own _ 0 k l ∙ (ap (λ (xs : List ℕ). get_or xs k 0) e ∙ own_byte bytes from count k small))
    (
    λ (l : length own ≤ k).
    get_or-append_right own _ (length own) k 0 refl l
    ∙ (get_or-replicate (count - length own) (k - length own) 0 0 (omega arith) ∙ sym (get_or_past bytes (from + k) 0 (omega arith)))
    )
    (cases_lt k (length own))

length-own : (own : List ℕ) (count : ℕ) → length own ≤ count → length (own ++ replicate (count - length own) 0) ≡ count
length-own own count few = omega (arith, length-append own (replicate (count - length own) 0), length-replicate {A = ℕ} (count - length own) 0)

padded : (bytes own : List ℕ) (from count : ℕ) → own ≡ take count (drop from bytes) → own ++ replicate (count - length own) 0 ≡ padded_part bytes from count
padded bytes own from count e =
    let whole : length (own ++ replicate (count - length own) 0) ≡ count = length-own own count (omega (arith, ap length e, own_few bytes from count)) in
    same_number_lists _ _ (whole ∙ sym (length-map-range_with_len (λ place. get_or bytes place 0) from count))
    (
    λ k below.
    let small : k < count = omega arith in
    own_or_zero bytes own from count k e small ∙ sym (get_or-map-range_with_len (λ place. get_or bytes place 0) from count k (from + k) 0 small refl)
    )

pub length-padded : (bytes : List ℕ) (from count : ℕ) → length (padded_part bytes from count) ≡ count
length-padded bytes from count = length-map-range_with_len (λ place. get_or bytes place 0) from count

-- the own bytes written, and then the zeros behind them
pub put_padded : (memory : List (List ℕ)) (extent at : ℕ) (bytes own : List ℕ) (from count : ℕ) → extent < length memory → at + count ≤ length (extent_at memory extent)
    → own ≡ take count (drop from bytes)
    → after_write (after_write memory extent at own) extent (at + length own) (replicate (count - length own) 0) ≡ after_write memory extent at (padded_part bytes from count)
put_padded memory extent at bytes own from count exists fits e =
    let old : List ℕ = extent_at memory extent in
    let zeros : List ℕ = replicate (count - length own) 0 in
    let few : length own ≤ count = omega (arith, ap length e, own_few bytes from count) in
    let room : at + length own + length zeros ≤ length old = omega (arith, length-replicate {A = ℕ} (count - length own) 0) in
    let read : extent_at (with_extent memory extent (written at own old)) extent ≡ written at own old = get_or-set_same memory extent (written at own old) [] exists in
    ap (λ (xs : List ℕ). with_extent (with_extent memory extent (written at own old)) extent (written (at + length own) zeros xs)) read
    ∙ (set-set memory extent (written at own old) _
    ∙ ap (λ (xs : List ℕ). with_extent memory extent xs) (written_on at own zeros old room ∙ ap (λ (xs : List ℕ). written at xs old) (padded bytes own from count e)))
