-- Pieces over bytes.
use Rattle.std.proofs.Common.{◌≡◌, ℕ, zero, suc, ◌+◌, ◌-◌, ◌<◌, ◌≤◌, max, min, Bool, true, false, cond, Option, Some, List, [], ◌∷◌, ◌++◌, length, get_or, take, map, replicate, reverse, refl, sym, ap, ◌∙◌, ⊎_elim, add-zero, arith}
use Rattle.std.specs.List.{find, range_with_len}
use Rattle.std.proofs.lemmas.Bool.{cases_lt, and_from, and_left, and_right, cond-true, cond-false, le-leb, lt-leb, lt-ltb, le-ltb, ltb-true, ltb-false}
use Rattle.std.proofs.lemmas.Grind.{same_number_lists}
use Rattle.std.proofs.lemmas.List.{reverse-append, append-nil, length-replicate, drop_all, take_more, get_or-set_same, set-set, set-get_or}
use Rattle.std.proofs.lemmas.List.FromFn.{length-map-range_with_len, get_or-map-range_with_len}
use Rattle.machine_desc.specs.declared.desc.Piece.{Piece}
use Rattle.machine_desc.specs.declared.desc.Region.{Region}
use Rattle.machine_desc.specs.Ranges.{ranges_meet}
use Rattle.ground.specs.Extents.{extent_at, written, after_write, with_extent}
use Rattle.fresh_load.specs.Fresh.{covers, byte_of, byte_from, fresh_byte, fresh_bytes}
use Rattle.fresh_load.specs.Loading.{padded_part, byte_over, bytes_over}
use Rattle.fresh_load.proofs.Bytes.{length-written, written_below, written_within, written_above, length-padded}

-- ---- one more piece

chosen : (b : Bool) (piece : Piece) (address : ℕ) (rest : Option Piece) → cond b (byte_of address piece) (byte_from address rest) ≡ byte_from address (cond b (Some piece) rest)
chosen true piece address rest = refl
chosen false piece address rest = refl

-- the last piece goes over those before it
byte_over_fresh : (pieces : List Piece) (piece : Piece) (address : ℕ) → byte_over piece address (fresh_byte pieces address) ≡ fresh_byte (pieces ++ piece ∷ []) address
unfolding fresh_byte
byte_over_fresh pieces piece address =
    chosen (covers address piece) piece address (find (covers address) (reverse pieces))
    ∙ ap (λ (all : List Piece). byte_from address (find (covers address) all)) (sym (reverse-append pieces (piece ∷ [])))

over_range : (pieces : List Piece) (piece : Piece) (at size : ℕ)
    → bytes_over piece at (map (fresh_byte pieces) (range_with_len at size)) ≡ map (fresh_byte (pieces ++ piece ∷ [])) (range_with_len at size)
over_range pieces piece at zero = refl
over_range pieces piece at (suc size) =
    let head : byte_over piece at (fresh_byte pieces at) ≡ fresh_byte (pieces ++ piece ∷ []) at = byte_over_fresh pieces piece at in
    let tail : bytes_over piece (at + 1) (map (fresh_byte pieces) (range_with_len (at + 1) size)) ≡ map (fresh_byte (pieces ++ piece ∷ [])) (range_with_len (at + 1) size) =
    over_range pieces piece (at + 1) size in
    cc

over_fresh : (pieces : List Piece) (piece : Piece) (region : Region) → bytes_over piece region.logical (fresh_bytes pieces region) ≡ fresh_bytes (pieces ++ piece ∷ []) region
unfolding fresh_bytes
over_fresh pieces piece region = over_range pieces piece region.logical region.size

pub length-fresh : (pieces : List Piece) (region : Region) → length (fresh_bytes pieces region) ≡ region.size
unfolding fresh_bytes
length-fresh pieces region = length-map-range_with_len (fresh_byte pieces) region.logical region.size

-- ---- a region's bytes, piece after piece

zeros_fresh : (at size : ℕ) → replicate size 0 ≡ map (fresh_byte []) (range_with_len at size)
unfolding fresh_byte
zeros_fresh at zero = refl
zeros_fresh at (suc size) = ap (λ (bytes : List ℕ). 0 ∷ bytes) (zeros_fresh (at + 1) size)

-- zeros are what a region has before its first piece
pub begun : (memory : List (List ℕ)) (region : Region) → length (extent_at memory region.extent) ≡ region.size
    → after_write memory region.extent 0 (replicate region.size 0) ≡ with_extent memory region.extent (fresh_bytes [] region)
unfolding fresh_bytes
begun memory region size =
    let none : written 0 (replicate region.size 0) (extent_at memory region.extent) ≡ replicate region.size 0 ++ [] =
    ap (λ (rest : List ℕ). replicate region.size 0 ++ rest) (drop_all _ (extent_at memory region.extent) (omega (arith, length-replicate {A = ℕ} region.size 0))) in
    ap (λ (bytes : List ℕ). with_extent memory region.extent bytes) (none ∙ (append-nil (replicate region.size 0) ∙ zeros_fresh region.logical region.size))

-- the next piece goes over what the region has of those before it
pub gone_on : (memory : List (List ℕ)) (pieces : List Piece) (i : ℕ) (d : Piece) (region : Region) → i < length pieces → region.extent < length memory
    → with_extent (with_extent memory region.extent (fresh_bytes (take i pieces) region)) region.extent
    (bytes_over (get_or pieces i d) region.logical (extent_at (with_extent memory region.extent (fresh_bytes (take i pieces) region)) region.extent))
    ≡ with_extent memory region.extent (fresh_bytes (take (i + 1) pieces) region)
gone_on memory pieces i d region below exists =
    let before : List ℕ = fresh_bytes (take i pieces) region in
    let read : extent_at (with_extent memory region.extent before) region.extent ≡ before = get_or-set_same memory region.extent before [] exists in
    ap (λ (bytes : List ℕ). with_extent (with_extent memory region.extent before) region.extent (bytes_over (get_or pieces i d) region.logical bytes)) read
    ∙ (set-set memory region.extent before _
    ∙ ap (λ (bytes : List ℕ). with_extent memory region.extent bytes)
    (over_fresh (take i pieces) (get_or pieces i d) region ∙ ap (λ (front : List Piece). fresh_bytes front region) (sym (take_more pieces i d below))))

-- ---- byte after byte

length-over : (piece : Piece) (address : ℕ) (old : List ℕ) → length (bytes_over piece address old) ≡ length old
length-over piece address [] = refl
length-over piece address (byte ∷ old) = ap suc (length-over piece (address + 1) old)

over_at : (piece : Piece) (address : ℕ) (old : List ℕ) (k : ℕ) → k < length old → get_or (bytes_over piece address old) k 0 ≡ byte_over piece (address + k) (get_or old k 0)
over_at piece address [] k h = absurd (omega arith)
over_at piece address (byte ∷ old) zero h = rw add-zero refl
over_at piece address (byte ∷ old) (suc k) h =
    let same : (address + 1) + k ≡ address + suc k = omega arith in
    over_at piece (address + 1) old k (omega arith) ∙ ap (λ (n : ℕ). byte_over piece n (get_or old k 0)) same

covered : (piece : Piece) (address old : ℕ) → piece.at ≤ address → address < piece.at + piece.len → byte_over piece address old ≡ byte_of address piece
covered piece address old low high = cond-true (covers address piece) _ _ (and_from _ _ (le-leb piece.at address low) (lt-ltb address (piece.at + piece.len) high))

before_it : (piece : Piece) (address old : ℕ) → address < piece.at → byte_over piece address old ≡ old
before_it piece address old low = cond-false (covers address piece) _ _ (and_left _ _ (lt-leb piece.at address low))

behind_it : (piece : Piece) (address old : ℕ) → piece.at + piece.len ≤ address → byte_over piece address old ≡ old
behind_it piece address old high = cond-false (covers address piece) _ _ (and_right _ _ (le-ltb address (piece.at + piece.len) high))

-- ---- a piece put into a region

put_over : (piece : Piece) (logical from end : ℕ) (old : List ℕ) → from ≡ max piece.at logical → end ≡ min (piece.at + piece.len) (logical + length old) → from < end
    → written (from - logical) (padded_part piece.bytes (from - piece.at) (end - from)) old ≡ bytes_over piece logical old
put_over piece logical from end old f e meets =
    let part : List ℕ = padded_part piece.bytes (from - piece.at) (end - from) in
    let count : length part ≡ end - from = length-padded piece.bytes (from - piece.at) (end - from) in
    let fits : from - logical + length part ≤ length old = omega arith in
    let whole : length (written (from - logical) part old) ≡ length old = length-written (from - logical) part old fits in
    same_number_lists _ _ (whole ∙ sym (length-over piece logical old))
    (
    λ k below.
    let small : k < length old = omega arith in
    let over : get_or (bytes_over piece logical old) k 0 ≡ byte_over piece (logical + k) (get_or old k 0) = over_at piece logical old k small in
    ⊎_elim
    (
    λ (l : k < from - logical).
    written_below (from - logical) k part old (omega arith) l ∙ (sym (before_it piece (logical + k) (get_or old k 0) (omega arith)) ∙ sym over)
    )
    (
    λ (l : from - logical ≤ k).
    ⊎_elim
    (
    λ (m : k < from - logical + length part).
    written_within (from - logical) k part old (omega arith) l m
    ∙ (get_or-map-range_with_len (λ place. get_or piece.bytes place 0) (from - piece.at) (end - from) (k - (from - logical)) (logical + k - piece.at) 0 (omega arith) (omega arith)
    ∙ (sym (covered piece (logical + k) (get_or old k 0) (omega arith) (omega arith)) ∙ sym over))
    )
    (
    λ (m : from - logical + length part ≤ k).
    written_above (from - logical) k part old fits m ∙ (sym (behind_it piece (logical + k) (get_or old k 0) (omega arith)) ∙ sym over)
    )
    (cases_lt k (from - logical + length part))
    )
    (cases_lt k (from - logical))
    )

none_over : (piece : Piece) (logical : ℕ) (old : List ℕ) → min (piece.at + piece.len) (logical + length old) ≤ max piece.at logical → bytes_over piece logical old ≡ old
none_over piece logical old apart =
    same_number_lists _ _ (length-over piece logical old)
    (
    λ k below.
    let size : length (bytes_over piece logical old) ≡ length old = length-over piece logical old in
    let small : k < length old = omega arith in
    over_at piece logical old k small
    ∙ ⊎_elim
    (λ (l : logical + k < piece.at). before_it piece (logical + k) (get_or old k 0) l)
    (λ (l : piece.at ≤ logical + k). behind_it piece (logical + k) (get_or old k 0) (omega arith))
    (cases_lt (logical + k) piece.at)
    )

-- where they meet, the part is written
pub part_put : (memory : List (List ℕ)) (piece : Piece) (region : Region) (bytes : List ℕ) (from end : ℕ) → bytes ≡ piece.bytes → from ≡ max piece.at region.logical
    → end ≡ min (piece.at + piece.len) (region.logical + region.size) → ranges_meet piece.at piece.len region.logical region.size ≡ true
    → length (extent_at memory region.extent) ≡ region.size
    → after_write memory region.extent (from - region.logical) (padded_part bytes (from - piece.at) (end - from))
    ≡ with_extent memory region.extent (bytes_over piece region.logical (extent_at memory region.extent))
part_put memory piece region bytes from end b f e meets size =
    let below : max piece.at region.logical < min (piece.at + piece.len) (region.logical + region.size) = ltb-true _ _ meets in
    let over = put_over piece region.logical from end (extent_at memory region.extent) f (omega arith) (omega arith) in
    ap (λ (own : List ℕ). after_write memory region.extent (from - region.logical) (padded_part own (from - piece.at) (end - from))) b
    ∙ ap (λ (its : List ℕ). with_extent memory region.extent its) over

-- where they don't, nothing is
pub nothing_put : (memory : List (List ℕ)) (piece : Piece) (region : Region) → ranges_meet piece.at piece.len region.logical region.size ≡ false
    → length (extent_at memory region.extent) ≡ region.size
    → memory ≡ with_extent memory region.extent (bytes_over piece region.logical (extent_at memory region.extent))
nothing_put memory piece region apart size =
    let least : min (piece.at + piece.len) (region.logical + region.size) ≤ max piece.at region.logical = ltb-false _ _ apart in
    sym
    (
    ap (λ (bytes : List ℕ). with_extent memory region.extent bytes) (none_over piece region.logical (extent_at memory region.extent) (omega arith))
    ∙ set-get_or memory region.extent []
    )
