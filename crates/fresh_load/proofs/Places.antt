-- Regions in memory, filled one after another.
use Rattle.std.proofs.Common.{◌≡◌, ℕ, zero, suc, ◌<◌, Bool, true, false, cond, ◌&&◌, ◌==◌, List, [], ◌∷◌, ◌++◌, ◌+◌, drop, map, replicate, Some, length, get_or, refl, sym, ap, subst, ◌∙◌, arith}
use Rattle.std.specs.List.{list_any, slice_get, All}
use Rattle.std.proofs.lemmas.Bool.{cond-true, cond-false, and_parts, and_from, and_left, and_right, or_parts, or_from, ltb-true, eqb-true, eqb-false, eq-eqb}
use Rattle.std.proofs.lemmas.Option.{slice_get-get_or}
use Rattle.std.proofs.lemmas.List.{at_drop_more, length-map, get_or-set_same, get_or-set_other}
use Rattle.machine_desc.specs.declared.desc.Desc.{Desc}
use Rattle.machine_desc.specs.declared.desc.Piece.{Piece}
use Rattle.machine_desc.specs.declared.desc.Region.{Region}
use Rattle.machine_desc.specs.Ranges.{none_meets}
use Rattle.machine_desc.specs.Sound.{have_extent}
use Rattle.machine_desc.proofs.Apart.{earlier_apart, one_place}
use Rattle.memory_areas.proofs.Found.{all_at}
use Rattle.ground.specs.Extents.{extent_at, with_extent}
use Rattle.ground.specs.Own.{own_of}
use Rattle.fresh_load.specs.Fresh.{fresh_bytes, fresh_memory, reloaded}
use Rattle.fresh_load.specs.Loading.{region_loaded, loaded}
use Rattle.fresh_load.specs.Placed.{is_placed, ArePlaced, sizes_of, is_private_extent, extents_of, AreSharedZero}
use Rattle.fresh_load.proofs.Covering.{length-fresh}

-- ---- placed regions

-- what holds of one
pub record IsThere (memory : List (List ℕ)) (region : Region) : Type 0 where
  pub exists : region.extent < length memory
  pub size : length (extent_at memory region.extent) ≡ region.size

pub there : (memory : List (List ℕ)) (region : Region) → is_placed memory region ≡ true → IsThere memory region
there memory region h =
    let parts = and_parts _ _ h in
    record { exists = ltb-true region.extent (length memory) parts.0; size = eqb-true (length (extent_at memory region.extent)) region.size parts.1 }

-- ---- sizes

pub size_at : (memory : List (List ℕ)) (extent : ℕ) → get_or (sizes_of memory) extent 0 ≡ length (extent_at memory extent)
size_at [] extent = refl
size_at (bytes ∷ memory) zero = refl
size_at (bytes ∷ memory) (suc extent) = size_at memory extent

pub sizes_kept : (memory : List (List ℕ)) (extent : ℕ) (bytes : List ℕ) → length bytes ≡ length (extent_at memory extent) → sizes_of (with_extent memory extent bytes) ≡ sizes_of memory
sizes_kept [] extent bytes same = refl
sizes_kept (old ∷ memory) zero bytes same = ap (λ (size : ℕ). size ∷ sizes_of memory) same
sizes_kept (old ∷ memory) (suc extent) bytes same = ap (λ (sizes : List ℕ). length old ∷ sizes) (sizes_kept memory extent bytes same)

-- a region stays placed where the sizes stay
pub still_placed : (before after : List (List ℕ)) (region : Region) → sizes_of after ≡ sizes_of before → is_placed before region ≡ true → is_placed after region ≡ true
still_placed before after region same h =
    let count : length after ≡ length before = sym (length-map after length) ∙ (ap length same ∙ length-map before length) in
    let size : length (extent_at after region.extent) ≡ length (extent_at before region.extent) =
    sym (size_at after region.extent) ∙ (ap (λ (sizes : List ℕ). get_or sizes region.extent 0) same ∙ size_at before region.extent) in
    rw (count, size) h

pub all_still_placed : (before after : List (List ℕ)) (regions : List Region) → sizes_of after ≡ sizes_of before → ArePlaced before regions → ArePlaced after regions
all_still_placed before after [] same h = refl
all_still_placed before after (region ∷ regions) same h =
    let parts = and_parts _ _ h in
    and_from _ _ (still_placed before after region same parts.0) (all_still_placed before after regions same parts.1)

-- filling a placed region changes no size
pub fresh_sizes : (pieces : List Piece) (region : Region) (memory : List (List ℕ)) → is_placed memory region ≡ true
    → sizes_of (with_extent memory region.extent (fresh_bytes pieces region)) ≡ sizes_of memory
fresh_sizes pieces region memory h =
    sizes_kept memory region.extent (fresh_bytes pieces region) (length-fresh pieces region ∙ sym (there memory region h).size)

pub step_sizes : (pieces : List Piece) (region : Region) (memory : List (List ℕ)) → is_placed memory region ≡ true → sizes_of (region_loaded pieces region memory) ≡ sizes_of memory
step_sizes pieces region memory h =
    elim region.private as (λ b. sizes_of (cond b (with_extent memory region.extent (fresh_bytes pieces region)) memory) ≡ sizes_of memory)
    [ true ↦ fresh_sizes pieces region memory h | false ↦ refl ]

pub loaded_sizes : (pieces : List Piece) (regions : List Region) (memory : List (List ℕ)) → ArePlaced memory regions → sizes_of (loaded pieces regions memory) ≡ sizes_of memory
loaded_sizes pieces [] memory h = refl
loaded_sizes pieces (region ∷ regions) memory h =
    let parts = and_parts _ _ h in
    let here : sizes_of (region_loaded pieces region memory) ≡ sizes_of memory = step_sizes pieces region memory parts.0 in
    loaded_sizes pieces regions (region_loaded pieces region memory) (all_still_placed memory (region_loaded pieces region memory) regions here parts.1) ∙ here

-- ---- other extents

step_others : (pieces : List Piece) (region : Region) (memory : List (List ℕ)) (extent : ℕ) → (region.private && region.extent == extent) ≡ false
    → extent_at (region_loaded pieces region memory) extent ≡ extent_at memory extent
step_others pieces region memory extent h =
    elim region.private as (λ b. (b && region.extent == extent) ≡ false → extent_at (cond b (with_extent memory region.extent (fresh_bytes pieces region)) memory) extent ≡ extent_at memory extent) [
      | true ↦ λ h. get_or-set_other memory region.extent extent (fresh_bytes pieces region) [] (λ same. eqb-false region.extent extent h (sym same))
      | false ↦ λ h. refl
    ] h

pub loaded_others : (pieces : List Piece) (regions : List Region) (memory : List (List ℕ)) (extent : ℕ) → is_private_extent regions extent ≡ false
    → extent_at (loaded pieces regions memory) extent ≡ extent_at memory extent
loaded_others pieces [] memory extent h = refl
loaded_others pieces (region ∷ regions) memory extent h =
    let parts = or_parts (region.private && region.extent == extent) (is_private_extent regions extent) h in
    loaded_others pieces regions (region_loaded pieces region memory) extent parts.1 ∙ step_others pieces region memory extent parts.0

-- ---- private extents

none_passes : {X : Type 0} (test : X → Bool) (xs : List X) → ((i : ℕ) (x : X) → slice_get xs i ≡ Some x → test x ≡ false) → list_any test xs ≡ false
none_passes test [] h = refl
none_passes test (x ∷ xs) h = or_from _ _ (h 0 x refl) (none_passes test xs (λ i y e. h (suc i) y e))

-- no later region has the first one's extent
none_again : (earlier rest : List Region) (region : Region) → none_meets have_extent earlier (region ∷ rest) ≡ true → is_private_extent rest region.extent ≡ false
none_again earlier rest region h =
    none_passes (λ (other : Region). other.private && other.extent == region.extent) rest
    (λ i other e. and_right _ _ (earlier_apart have_extent earlier (region ∷ rest) 0 (suc i) region other h refl e (omega arith)))

step_private : (pieces : List Piece) (region : Region) (memory : List (List ℕ)) → is_placed memory region ≡ true → region.private ≡ true
    → extent_at (region_loaded pieces region memory) region.extent ≡ fresh_bytes pieces region
step_private pieces region memory h private =
    elim region.private as (λ b. b ≡ true → extent_at (cond b (with_extent memory region.extent (fresh_bytes pieces region)) memory) region.extent ≡ fresh_bytes pieces region)
    [ true ↦ λ t. get_or-set_same memory region.extent (fresh_bytes pieces region) [] (there memory region h).exists | false ↦ λ t. absurd cc ] private

pub loaded_private : (pieces : List Piece) (earlier regions : List Region) (memory : List (List ℕ)) (i : ℕ) (region : Region) → none_meets have_extent earlier regions ≡ true
    → ArePlaced memory regions → slice_get regions i ≡ Some region → region.private ≡ true → extent_at (loaded pieces regions memory) region.extent ≡ fresh_bytes pieces region
loaded_private pieces earlier [] memory i region apart placed e private = absurd cc
loaded_private pieces earlier (first ∷ rest) memory zero region apart placed e private =
    let same : first ≡ region = cc in
    let its : first.private ≡ true = subst (λ (r : Region). r.private ≡ true) (sym same) private in
    subst (λ (r : Region). extent_at (loaded pieces rest (region_loaded pieces first memory)) r.extent ≡ fresh_bytes pieces r) same
    (
    loaded_others pieces rest (region_loaded pieces first memory) first.extent (none_again earlier rest first apart)
    ∙ step_private pieces first memory (and_parts _ _ placed).0 its
    )
loaded_private pieces earlier (first ∷ rest) memory (suc i) region apart placed e private =
    let parts = and_parts _ _ placed in
    loaded_private pieces (earlier ++ first ∷ []) rest (region_loaded pieces first memory) i region (and_parts _ _ apart).1
    (all_still_placed memory (region_loaded pieces first memory) rest (step_sizes pieces first memory parts.0) parts.1) e private

pub all_private : (pieces : List Piece) (regions : List Region) (memory after : List (List ℕ)) → none_meets have_extent [] regions ≡ true → ArePlaced memory regions
    → after ≡ loaded pieces regions memory
    → All (λ (region : Region). region.private ≡ true → extent_at after region.extent ≡ fresh_bytes pieces region) regions
all_private pieces regions memory after apart placed e k d below private =
    ap (λ (all : List (List ℕ)). extent_at all (get_or regions k d).extent) e
    ∙ loaded_private pieces [] regions memory k (get_or regions k d) apart placed (slice_get-get_or regions k d below) private

through : (regions : List Region) (memory : List (List ℕ)) → own_of (extents_of regions) memory ≡ map (λ (region : Region). extent_at memory region.extent) regions
through [] memory = refl
through (region ∷ regions) memory = ap (λ (rest : List (List ℕ)). extent_at memory region.extent ∷ rest) (through regions memory)

mapped : (f g : Region → List ℕ) (regions : List Region) → ((k : ℕ) (d : Region) → k < length regions → f (get_or regions k d) ≡ g (get_or regions k d))
    → map f regions ≡ map g regions
mapped f g [] same = refl
mapped f g (region ∷ regions) same =
    let head : f region ≡ g region = same 0 region (omega arith) in
    let tail : map f regions ≡ map g regions = mapped f g regions (λ k d below. same (suc k) d (omega (arith, below))) in
    cc

-- no private region has a shared one's extent
shared_alone : (regions : List Region) (i : ℕ) (region : Region) → none_meets have_extent [] regions ≡ true → slice_get regions i ≡ Some region → region.private ≡ false
    → is_private_extent regions region.extent ≡ false
shared_alone regions i region apart at shared =
    none_passes (λ (other : Region). other.private && other.extent == region.extent) regions
    (
    λ j other e.
    elim (other.extent == region.extent) as (λ b. (other.extent == region.extent) ≡ b → (other.private && b) ≡ false) [
      | true ↦ λ t.
          let same : other.extent ≡ region.extent = eqb-true other.extent region.extent t in
          let one : j ≡ i = one_place have_extent regions j i other region apart e at t (eq-eqb region.extent other.extent (sym same)) in
          let its : Some other ≡ Some region = sym e ∙ (ap (slice_get regions) one ∙ at) in
          let region_is : other ≡ region = cc in
          and_left _ _ (ap (λ (r : Region). r.private) region_is ∙ shared)
      | false ↦ λ t. and_right _ _ refl
    ] refl
    )

-- what a region has once all were filled
bytes_after : (desc : Desc) (memory after : List (List ℕ)) (k : ℕ) (d : Region) → none_meets have_extent [] desc.regions ≡ true → ArePlaced memory desc.regions
    → after ≡ loaded desc.pieces desc.regions memory → k < length desc.regions
    → extent_at after (get_or desc.regions k d).extent
    ≡ cond (get_or desc.regions k d).private (fresh_bytes desc.pieces (get_or desc.regions k d)) (extent_at memory (get_or desc.regions k d).extent)
bytes_after desc memory after k d apart placed e below =
    let region : Region = get_or desc.regions k d in
    let at : slice_get desc.regions k ≡ Some region = slice_get-get_or desc.regions k d below in
    elim region.private as (λ b. region.private ≡ b → extent_at after region.extent ≡ cond b (fresh_bytes desc.pieces region) (extent_at memory region.extent)) [
      | true ↦ λ t. all_private desc.pieces desc.regions memory after apart placed e k d below t
      | false ↦ λ t. ap (λ (all : List (List ℕ)). extent_at all region.extent) e
          ∙ loaded_others desc.pieces desc.regions memory region.extent (shared_alone desc.regions k region apart at t)
    ] refl

-- loaded anew, region by region
reloaded-mapped : (pieces : List Piece) (regions : List Region) (memory : List (List ℕ))
    → reloaded pieces regions (own_of (extents_of regions) memory)
    ≡ map (λ (region : Region). cond region.private (fresh_bytes pieces region) (extent_at memory region.extent)) regions
reloaded-mapped pieces [] memory = refl
reloaded-mapped pieces (region ∷ regions) memory =
    ap (λ (rest : List (List ℕ)). cond region.private (fresh_bytes pieces region) (extent_at memory region.extent) ∷ rest) (reloaded-mapped pieces regions memory)

pub all_reloaded : (desc : Desc) (memory after : List (List ℕ)) → none_meets have_extent [] desc.regions ≡ true → ArePlaced memory desc.regions
    → after ≡ loaded desc.pieces desc.regions memory
    → own_of (extents_of desc.regions) after ≡ reloaded desc.pieces desc.regions (own_of (extents_of desc.regions) memory)
all_reloaded desc memory after apart placed e =
    through desc.regions after
    ∙ mapped (λ (region : Region). extent_at after region.extent)
    (λ (region : Region). cond region.private (fresh_bytes desc.pieces region) (extent_at memory region.extent)) desc.regions
    (λ k d below. bytes_after desc memory after k d apart placed e below)
    ∙ sym (reloaded-mapped desc.pieces desc.regions memory)

zeros-or : (private : Bool) (bytes old zeros : List ℕ) → (private ≡ false → old ≡ zeros) → cond private bytes old ≡ cond private bytes zeros
zeros-or true bytes old zeros same = refl
zeros-or false bytes old zeros same = same refl

-- over shared regions of zeros that is the first memory
pub reloaded_first : (desc : Desc) (memory : List (List ℕ)) → AreSharedZero memory desc.regions
    → reloaded desc.pieces desc.regions (own_of (extents_of desc.regions) memory) ≡ fresh_memory desc
reloaded_first desc memory zeros =
    reloaded-mapped desc.pieces desc.regions memory
    ∙ mapped (λ (region : Region). cond region.private (fresh_bytes desc.pieces region) (extent_at memory region.extent))
    (λ (region : Region). cond region.private (fresh_bytes desc.pieces region) (replicate region.size 0)) desc.regions
    (
    λ k d below.
    let region : Region = get_or desc.regions k d in
    zeros-or region.private (fresh_bytes desc.pieces region) (extent_at memory region.extent) (replicate region.size 0) (zeros k d below)
    )

-- ---- region after region

pub placed_at : (memory : List (List ℕ)) (regions : List Region) (i : ℕ) (d : Region) → ArePlaced memory regions → i < length regions → is_placed memory (get_or regions i d) ≡ true
placed_at memory regions i d placed below = all_at (is_placed memory) regions i (get_or regions i d) placed (slice_get-get_or regions i d below)

pub filled : (pieces : List Piece) (region : Region) (memory : List (List ℕ)) → region.private ≡ true
    → with_extent memory region.extent (fresh_bytes pieces region) ≡ region_loaded pieces region memory
filled pieces region memory private = sym (cond-true region.private (with_extent memory region.extent (fresh_bytes pieces region)) memory private)

pub left : (pieces : List Piece) (region : Region) (memory : List (List ℕ)) → region.private ≡ false → memory ≡ region_loaded pieces region memory
left pieces region memory shared = sym (cond-false region.private (with_extent memory region.extent (fresh_bytes pieces region)) memory shared)

-- the next one
pub one_on : (pieces : List Piece) (regions : List Region) (start memory after : List (List ℕ)) (i : ℕ) (d : Region) → i < length regions → ArePlaced start regions
    → loaded pieces (drop i regions) memory ≡ loaded pieces regions start → sizes_of memory ≡ sizes_of start → after ≡ region_loaded pieces (get_or regions i d) memory
    → (loaded pieces (drop (i + 1) regions) after ≡ loaded pieces regions start) × (sizes_of after ≡ sizes_of start)
one_on pieces regions start memory after i d below placed rest sizes e = (
  ap (λ (all : List (List ℕ)). loaded pieces (drop (i + 1) regions) all) e ∙ (sym (at_drop_more (λ (left : List Region). loaded pieces left memory) regions i d below) ∙ rest),
  ap sizes_of e
      ∙ (step_sizes pieces (get_or regions i d) memory (still_placed start memory (get_or regions i d) sizes (placed_at start regions i d placed below)) ∙ sizes),
)
