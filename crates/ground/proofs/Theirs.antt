-- The extents of a partition among those of a larger memory.
use Rattle.std.proofs.Common.{◌≡◌, ℕ, zero, suc, ◌<◌, List, [], ◌∷◌, map, length, slice_index_or, slice_set, refl, sym, ap, ◌∙◌, arith, length-set, get_or-set_same, get_or-set_other}
use Rattle.std.proofs.lemmas.List.{length-map, get_or-map}
use Rattle.ground.specs.Extents.{extent_at, written, after_write}
use Rattle.ground.specs.Own.{name_of, AreExtents, IsForeign, KeepsForeign, own_of}

-- the bytes of a region are those of its extent
pub own_extent : (names : List ℕ) (memory : List (List ℕ)) (region : ℕ) → region < length names → extent_at (own_of names memory) region ≡ extent_at memory (name_of names region)
own_extent names memory region below = get_or-map (λ name. extent_at memory name) names region 0 [] below

pub own_length : (names : List ℕ) (memory : List (List ℕ)) → length (own_of names memory) ≡ length names
own_length names memory = length-map names (λ name. extent_at memory name)

-- the bytes of extents that aren't written stay
others_stay : (names : List ℕ) (memory : List (List ℕ)) (extent : ℕ) (bytes : List ℕ) → IsForeign names extent → own_of names (slice_set memory extent bytes) ≡ own_of names memory
others_stay [] memory extent bytes foreign = refl
others_stay (name ∷ names) memory extent bytes foreign =
    let head : extent_at (slice_set memory extent bytes) name ≡ extent_at memory name = get_or-set_other memory extent name bytes [] (foreign 0 (omega arith)) in
    let tail : own_of names (slice_set memory extent bytes) ≡ own_of names memory = others_stay names memory extent bytes (λ region below. foreign (suc region) (omega (arith, below))) in
    cc

tail_extents : (name : ℕ) (names : List ℕ) (memory : List (List ℕ)) → AreExtents (name ∷ names) memory → AreExtents names memory
tail_extents name names memory are = record {
  exist = λ region below. are.exist (suc region) (omega (arith, below));
  differ = λ one other a b same. omega (arith, are.differ (suc one) (suc other) (omega (arith, a)) (omega (arith, b)) same);
}

-- a write into a region's extent is a write into the region
pub own_written : (names : List ℕ) (memory : List (List ℕ)) (region : ℕ) (bytes : List ℕ) → AreExtents names memory → region < length names
    → own_of names (slice_set memory (name_of names region) bytes) ≡ slice_set (own_of names memory) region bytes
own_written [] memory region bytes are below = absurd (omega (arith, below))
own_written (name ∷ names) memory zero bytes are below =
    let head : extent_at (slice_set memory name bytes) name ≡ bytes = get_or-set_same memory name bytes [] (are.exist 0 (omega arith)) in
    let tail : own_of names (slice_set memory name bytes) ≡ own_of names memory =
    others_stay names memory name bytes (λ region small same. absurd (omega (arith, are.differ (suc region) 0 (omega (arith, small)) (omega arith) same))) in
    cc
own_written (name ∷ names) memory (suc region) bytes are below =
    let small : region < length names = omega (arith, below) in
    let head : extent_at (slice_set memory (name_of names region) bytes) name ≡ extent_at memory name =
    get_or-set_other memory (name_of names region) name bytes [] (λ same. absurd (omega (arith, are.differ 0 (suc region) (omega arith) below same))) in
    let tail : own_of names (slice_set memory (name_of names region) bytes) ≡ slice_set (own_of names memory) region bytes =
    own_written names memory region bytes (tail_extents name names memory are) small in
    cc

-- what a write leaves of the extents
pub still_extents : (names : List ℕ) (memory : List (List ℕ)) (extent : ℕ) (bytes : List ℕ) → AreExtents names memory → AreExtents names (slice_set memory extent bytes)
still_extents names memory extent bytes are = record {
  exist = λ region below. omega (arith, are.exist region below, length-set memory extent bytes);
  differ = are.differ;
}

-- ---- sizes

size_of_extent : (memory : List (List ℕ)) (extent : ℕ) → slice_index_or (map length memory) extent 0 ≡ length (extent_at memory extent)
size_of_extent [] extent = refl
size_of_extent (bytes ∷ memory) zero = refl
size_of_extent (bytes ∷ memory) (suc extent) = size_of_extent memory extent

pub own_sizes : (names : List ℕ) (before after : List (List ℕ)) → map length after ≡ map length before → map length (own_of names after) ≡ map length (own_of names before)
own_sizes [] before after same = refl
own_sizes (name ∷ names) before after same =
    let head : length (extent_at after name) ≡ length (extent_at before name) =
    sym (size_of_extent after name) ∙ ap (λ (sizes : List ℕ). slice_index_or sizes name 0) same ∙ size_of_extent before name in
    let tail : map length (own_of names after) ≡ map length (own_of names before) = own_sizes names before after same in
    cc

pub own_stays : (names others : List ℕ) (before after : List (List ℕ)) → ((region : ℕ) → region < length others → IsForeign names (name_of others region)) → KeepsForeign names before after
    → own_of others after ≡ own_of others before
own_stays names [] before after foreign keeps = refl
own_stays names (other ∷ others) before after foreign keeps =
    let head : extent_at after other ≡ extent_at before other = keeps other (foreign 0 (omega arith)) in
    let tail : own_of others after ≡ own_of others before = own_stays names others before after (λ region below. foreign (suc region) (omega (arith, below))) keeps in
    cc

pub extents_stay : (names : List ℕ) (before after : List (List ℕ)) → map length after ≡ map length before → AreExtents names before → AreExtents names after
extents_stay names before after same are =
    let count : length after ≡ length before = sym (length-map after length) ∙ ap length same ∙ length-map before length in
    record { exist = λ region below. omega (arith, count, are.exist region below); differ = are.differ }

pub own_after_write : (names : List ℕ) (memory : List (List ℕ)) (region at : ℕ) (bytes : List ℕ) → AreExtents names memory → region < length names
    → own_of names (after_write memory (name_of names region) at bytes) ≡ after_write (own_of names memory) region at bytes
own_after_write names memory region at bytes are below =
    own_written names memory region _ are below
    ∙ ap (λ (old : List ℕ). slice_set (own_of names memory) region (written at bytes old)) (sym (own_extent names memory region below))

pub foreign_after_write : (names : List ℕ) (memory : List (List ℕ)) (region at : ℕ) (bytes : List ℕ) → region < length names → KeepsForeign names memory (after_write memory (name_of names region) at bytes)
foreign_after_write names memory region at bytes below extent foreign =
    get_or-set_other memory (name_of names region) extent (written at bytes (extent_at memory (name_of names region))) [] (λ same. foreign region below (sym same))
