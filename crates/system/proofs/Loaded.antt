-- Real memory while partition after partition is loaded into it.
use Rattle.std.proofs.Common.{◌≡◌, ◌≢◌, ℕ, zero, suc, ◌+◌, ◌<◌, ◌≤◌, ◌==◌, Bool, true, false, not, cond, ◌&&◌, ◌||◌, List, [], ◌∷◌, length, sum, slice_index_or, refl, sym, ap, subst, ◌∙◌, arith}
use Rattle.std.specs.Prelude.{count_by}
use Rattle.std.specs.List.{list_all, list_any}
use Rattle.std.proofs.lemmas.Bool.{and_parts, false≢true, eqb-true, eqb-false, eq-eqb, leb-true, or_left, or_right}
use Rattle.std.proofs.lemmas.List.{get_or_default}
use Rattle.std.proofs.lemmas.List.Sums.{sum_by-cons}
use Rattle.ground.specs.Extents.{extent_at, zero_extents}
use Rattle.ground.specs.Own.{own_of}
use Rattle.machine_desc.specs.declared.desc.Desc.{Desc}
use Rattle.machine_desc.specs.declared.desc.Region.{Region}
use Rattle.machine_desc.specs.declared.wiring.Wiring.{Wiring}
use Rattle.machine_desc.specs.Limits.{most_bytes}
use Rattle.machine_desc.specs.Ranges.{none_meets}
use Rattle.machine_desc.specs.Sound.{IsSound, is_sound}
use Rattle.machine_desc.specs.Joined.{AreJoined, has_at, same_bool, names_extent, is_region_joined, are_regions_joined, are_extents_sound, extent_spans, spans_meet}
use Rattle.fresh_load.specs.Fresh.{fresh_memory}
use Rattle.fresh_load.specs.Placed.{ArePlaced, AreSharedZero, extents_of, is_private_extent, sizes_of}
use Rattle.fresh_load.proofs.Places.{all_still_placed}
use Rattle.partition.specs.Loading.{have_extents}
use Rattle.partition.proofs.Zeros.{zeros_placed, zeros_shared}
use Rattle.network.specs.Network.{no_desc}
use Rattle.system.specs.Beginning.{Loads}
use Rattle.system.specs.System.{AreLoaded}
use Rattle.system.proofs.Tied.{joined_parts, all_at}

-- ---- counts

count_cons : {X : Type 0} (p : X → Bool) (x : X) (xs : List X) → count_by p (x ∷ xs) ≡ cond (p x) 1 0 + count_by p xs
count_cons p x xs = sum_by-cons (λ y. cond (p y) 1 0) x xs

some : {X : Type 0} (p : X → Bool) (xs : List X) (i : ℕ) (d : X) → i < length xs → p (slice_index_or xs i d) ≡ true → 1 ≤ count_by p xs
some p [] i d there h = absurd (omega arith)
some p (x ∷ xs) zero d there h =
    let all : count_by p (x ∷ xs) ≡ 1 + count_by p xs = count_cons p x xs ∙ ap (λ (b : Bool). cond b 1 0 + count_by p xs) h in omega (arith, all)
some p (x ∷ xs) (suc i) d there h = let all = count_cons p x xs in let rest = some p xs i d (omega arith) h in omega (arith, all, rest)

first_only : {X : Type 0} (p : X → Bool) (x : X) (xs : List X) (i : ℕ) (d : X) → count_by p (x ∷ xs) ≡ 1 → p x ≡ true → i < length xs → p (slice_index_or xs i d) ≡ true → ⊥
first_only p x xs i d one h there k =
    let all : count_by p (x ∷ xs) ≡ 1 + count_by p xs = count_cons p x xs ∙ ap (λ (b : Bool). cond b 1 0 + count_by p xs) h in
    let rest = some p xs i d there k in
    omega (arith, all, one, rest)

-- one alone passes
one_passes : {X : Type 0} (p : X → Bool) (xs : List X) (i j : ℕ) (d : X) → count_by p xs ≡ 1 → i < length xs → j < length xs → p (slice_index_or xs i d) ≡ true → p (slice_index_or xs j d) ≡ true → i ≡ j
one_passes p [] i j d one there there_too h k = absurd (omega arith)
one_passes p (x ∷ xs) zero zero d one there there_too h k = refl
one_passes p (x ∷ xs) zero (suc j) d one there there_too h k = absurd (first_only p x xs j d one h (omega arith) k)
one_passes p (x ∷ xs) (suc i) zero d one there there_too h k = absurd (first_only p x xs i d one k (omega arith) h)
one_passes p (x ∷ xs) (suc i) (suc j) d one there there_too h k =
    let all = count_cons p x xs in
    let rest = some p xs i d (omega arith) h in
    ap suc (one_passes p xs i j d (omega (arith, all, one, rest)) (omega arith) (omega arith) h k)

-- ---- regions of joined partitions

record RegionJoins (descs : List Desc) (wiring : Wiring) (region : Region) : Type 0 where
  has : has_at wiring.sizes region.extent region.size ≡ true
  private : same_bool region.private (count_by (names_extent region.extent) descs == 1) ≡ true

region_joins : (descs : List Desc) (wiring : Wiring) (region : Region) → is_region_joined descs wiring region ≡ true → RegionJoins descs wiring region
unfolding is_region_joined
region_joins descs wiring region h =
    let two = and_parts (has_at wiring.sizes region.extent region.size && has_at wiring.reals region.extent region.real) (same_bool region.private (count_by (names_extent region.extent) descs == 1)) h in
    record { has = (and_parts (has_at wiring.sizes region.extent region.size) (has_at wiring.reals region.extent region.real) two.0).0; private = two.1 }

regions_at : (descs : List Desc) (wiring : Wiring) (part : ℕ) → AreJoined descs wiring → part < length descs → list_all (is_region_joined descs wiring) (slice_index_or descs part no_desc).regions ≡ true
unfolding are_regions_joined
regions_at descs wiring part joined there =
    all_at (λ (desc : Desc). list_all (is_region_joined descs wiring) desc.regions) descs part no_desc (joined_parts descs wiring joined).regions there

have_all : (descs : List Desc) (wiring : Wiring) (regions : List Region) → list_all (is_region_joined descs wiring) regions ≡ true → have_extents wiring.sizes regions ≡ true
have_all descs wiring [] h = refl
have_all descs wiring (region ∷ regions) h =
    let parts = and_parts (is_region_joined descs wiring region) (list_all (is_region_joined descs wiring) regions) h in
    ap (λ (b : Bool). b && have_extents wiring.sizes regions) (region_joins descs wiring region parts.0).has ∙ have_all descs wiring regions parts.1

-- one description alone names a private extent
alone : (descs : List Desc) (wiring : Wiring) (regions : List Region) (extent : ℕ) → list_all (is_region_joined descs wiring) regions ≡ true → is_private_extent regions extent ≡ true
    → count_by (names_extent extent) descs ≡ 1
alone descs wiring [] extent h e = absurd (false≢true e)
alone descs wiring (region ∷ regions) extent h e = by_here (region.private && region.extent == extent) refl (alone descs wiring regions extent parts.1)
  where
    parts : (is_region_joined descs wiring region ≡ true) × (list_all (is_region_joined descs wiring) regions ≡ true)
    parts = and_parts (is_region_joined descs wiring region) (list_all (is_region_joined descs wiring) regions) h

    by_here : (b : Bool) → (region.private && region.extent == extent) ≡ b → (is_private_extent regions extent ≡ true → count_by (names_extent extent) descs ≡ 1) → count_by (names_extent extent) descs ≡ 1
    by_here true b rest =
        let here = and_parts region.private (region.extent == extent) b in
        let private : same_bool true (count_by (names_extent region.extent) descs == 1) ≡ true =
        subst (λ (p : Bool). same_bool p (count_by (names_extent region.extent) descs == 1) ≡ true) here.0 (region_joins descs wiring region parts.0).private in
        subst (λ (n : ℕ). count_by (names_extent n) descs ≡ 1) (eqb-true region.extent extent here.1) (eqb-true (count_by (names_extent region.extent) descs) 1 private)
    by_here false b rest = rest (sym (ap (λ (p : Bool). p || is_private_extent regions extent) b) ∙ e)

pub private_names : (regions : List Region) (extent : ℕ) → is_private_extent regions extent ≡ true → list_any (λ (region : Region). region.extent == extent) regions ≡ true
private_names [] extent e = e
private_names (region ∷ regions) extent e = by_here (region.private && region.extent == extent) refl (private_names regions extent)
  where
    by_here : (b : Bool) → (region.private && region.extent == extent) ≡ b → (is_private_extent regions extent ≡ true → list_any (λ (region : Region). region.extent == extent) regions ≡ true)
        → list_any (λ (region : Region). region.extent == extent) (region ∷ regions) ≡ true
    by_here true b rest = or_left (region.extent == extent) (list_any (λ (region : Region). region.extent == extent) regions) (and_parts region.private (region.extent == extent) b).1
    by_here false b rest =
        or_right (region.extent == extent) (list_any (λ (region : Region). region.extent == extent) regions) (rest (sym (ap (λ (p : Bool). p || is_private_extent regions extent) b) ∙ e))

-- what a partition has for itself no other names
pub private_apart : (descs : List Desc) (wiring : Wiring) (one other extent : ℕ) → AreJoined descs wiring → one < length descs → other < length descs
    → is_private_extent (slice_index_or descs one no_desc).regions extent ≡ true → names_extent extent (slice_index_or descs other no_desc) ≡ true → one ≡ other
private_apart descs wiring one other extent joined there there_too h k =
    one_passes (names_extent extent) descs one other no_desc (alone descs wiring (slice_index_or descs one no_desc).regions extent (regions_at descs wiring one joined there) h) there there_too
    (private_names (slice_index_or descs one no_desc).regions extent h) k

-- a shared region's extent is private nowhere
shared_nowhere : (descs : List Desc) (wiring : Wiring) (region : Region) (part : ℕ) → AreJoined descs wiring → part < length descs → is_region_joined descs wiring region ≡ true → region.private ≡ false
    → is_private_extent (slice_index_or descs part no_desc).regions region.extent ≡ false
shared_nowhere descs wiring region part joined there h shared = by_case (is_private_extent (slice_index_or descs part no_desc).regions region.extent) refl
  where
    by_case : (b : Bool) → is_private_extent (slice_index_or descs part no_desc).regions region.extent ≡ b → b ≡ false
    by_case false e = refl
    by_case true e =
        let one = alone descs wiring (slice_index_or descs part no_desc).regions region.extent (regions_at descs wiring part joined there) e in
        let few : not (count_by (names_extent region.extent) descs == 1) ≡ true =
        subst (λ (p : Bool). same_bool p (count_by (names_extent region.extent) descs == 1) ≡ true) shared (region_joins descs wiring region h).private in
        absurd (false≢true (sym (ap not (eq-eqb (count_by (names_extent region.extent) descs) 1 one)) ∙ few))

-- ---- memories

-- a partition's memory is the same where its extents are
pub own_same : (regions : List Region) (before after : List (List ℕ))
    → ((extent : ℕ) → list_any (λ (region : Region). region.extent == extent) regions ≡ true → extent_at after extent ≡ extent_at before extent)
    → own_of (extents_of regions) after ≡ own_of (extents_of regions) before
own_same [] before after h = refl
own_same (region ∷ regions) before after h =
    let head : extent_at after region.extent ≡ extent_at before region.extent =
    h region.extent (or_left (region.extent == region.extent) (list_any (λ (it : Region). it.extent == region.extent) regions) (eq-eqb region.extent region.extent refl)) in
    let tail : own_of (extents_of regions) after ≡ own_of (extents_of regions) before =
    own_same regions before after (λ extent k. h extent (or_right (region.extent == extent) (list_any (λ (it : Region). it.extent == extent) regions) k)) in
    cc

-- so many partitions are loaded, and what none has for itself is zero
pub record IsSoFar (descs : List Desc) (wiring : Wiring) (count : ℕ) (memory : List (List ℕ)) : Type 0 where
  pub sizes : sizes_of memory ≡ sizes_of (zero_extents wiring.sizes)
  pub done : (part : ℕ) → part < count → part < length descs → own_of (extents_of (slice_index_or descs part no_desc).regions) memory ≡ fresh_memory (slice_index_or descs part no_desc)
  pub rest : (extent : ℕ) → ((part : ℕ) → part < length descs → is_private_extent (slice_index_or descs part no_desc).regions extent ≡ false) → extent_at memory extent ≡ extent_at (zero_extents wiring.sizes) extent

pub opening_loaded : (descs : List Desc) (wiring : Wiring) → IsSoFar descs wiring 0 (zero_extents wiring.sizes)
opening_loaded descs wiring = record { sizes = refl; done = λ part below there. absurd (omega arith); rest = λ extent h. refl }

placed_in : (descs : List Desc) (wiring : Wiring) (part : ℕ) (memory : List (List ℕ)) → AreJoined descs wiring → part < length descs → sizes_of memory ≡ sizes_of (zero_extents wiring.sizes)
    → ArePlaced memory (slice_index_or descs part no_desc).regions
placed_in descs wiring part memory joined there sizes =
    let regions : List Region = (slice_index_or descs part no_desc).regions in
    all_still_placed (zero_extents wiring.sizes) memory regions sizes (zeros_placed wiring.sizes regions (have_all descs wiring regions (regions_at descs wiring part joined there)))

pub placed_so_far : (descs : List Desc) (wiring : Wiring) (count part : ℕ) (memory : List (List ℕ)) (d : Desc) → AreJoined descs wiring → part < length descs → IsSoFar descs wiring count memory
    → ArePlaced memory (slice_index_or descs part d).regions
placed_so_far descs wiring count part memory d joined there so_far =
    subst (λ (desc : Desc). ArePlaced memory desc.regions) (get_or_default descs part no_desc d there) (placed_in descs wiring part memory joined there so_far.sizes)

shared_zero : (descs : List Desc) (wiring : Wiring) (count part : ℕ) (memory : List (List ℕ)) → AreJoined descs wiring → part < length descs → IsSoFar descs wiring count memory
    → AreSharedZero memory (slice_index_or descs part no_desc).regions
shared_zero descs wiring count part memory joined there so_far k d below shared =
    let regions : List Region = (slice_index_or descs part no_desc).regions in
    let all = regions_at descs wiring part joined there in
    let region : Region = slice_index_or regions k d in
    so_far.rest region.extent (λ other there_too. shared_nowhere descs wiring region other joined there_too (all_at (is_region_joined descs wiring) regions k d all below) shared)
    ∙ zeros_shared wiring.sizes regions (have_all descs wiring regions all) k d below shared

still_done : (descs : List Desc) (wiring : Wiring) (part other : ℕ) (before after : List (List ℕ)) → AreJoined descs wiring → part < length descs → other < length descs → (part ≡ other → ⊥)
    → Loads (slice_index_or descs part no_desc) before after
    → own_of (extents_of (slice_index_or descs other no_desc).regions) after ≡ own_of (extents_of (slice_index_or descs other no_desc).regions) before
still_done descs wiring part other before after joined there there_too ne loads =
    own_same (slice_index_or descs other no_desc).regions before after
    (λ extent named. loads.others extent (by_case extent named (is_private_extent (slice_index_or descs part no_desc).regions extent) refl))
  where
    by_case : (extent : ℕ) → names_extent extent (slice_index_or descs other no_desc) ≡ true → (b : Bool) → is_private_extent (slice_index_or descs part no_desc).regions extent ≡ b
        → is_private_extent (slice_index_or descs part no_desc).regions extent ≡ false
    by_case extent named false e = e
    by_case extent named true e = absurd (ne (private_apart descs wiring part other extent joined there there_too e named))

one_more : (descs : List Desc) (wiring : Wiring) (count : ℕ) (before after : List (List ℕ)) → AreJoined descs wiring → count < length descs → IsSoFar descs wiring count before
    → Loads (slice_index_or descs count no_desc) before after → IsSoFar descs wiring (count + 1) after
one_more descs wiring count before after joined there so_far loads = record {
  sizes = loads.sizes ∙ so_far.sizes;
  done = λ part below there_too. by_place part there_too below (part == count) refl;
  rest = λ extent h. loads.others extent (h count there) ∙ so_far.rest extent h;
}
  where
    here : own_of (extents_of (slice_index_or descs count no_desc).regions) after ≡ fresh_memory (slice_index_or descs count no_desc)
    here = loads.fresh (shared_zero descs wiring count count before joined there so_far)

    by_place : (part : ℕ) → part < length descs → part < count + 1 → (b : Bool) → (part == count) ≡ b
        → own_of (extents_of (slice_index_or descs part no_desc).regions) after ≡ fresh_memory (slice_index_or descs part no_desc)
    by_place part there_too below true e =
        subst (λ (n : ℕ). own_of (extents_of (slice_index_or descs n no_desc).regions) after ≡ fresh_memory (slice_index_or descs n no_desc)) (sym (eqb-true part count e)) here
    by_place part there_too below false e =
        let ne : part ≢ count = eqb-false part count e in
        still_done descs wiring count part before after joined there there_too (λ (q : count ≡ part). ne (sym q)) loads
        ∙ so_far.done part (omega (arith, below, ne)) there_too

pub loaded_on : (descs : List Desc) (wiring : Wiring) (count : ℕ) (before after : List (List ℕ)) (d : Desc) → AreJoined descs wiring → count < length descs → IsSoFar descs wiring count before
    → Loads (slice_index_or descs count d) before after → IsSoFar descs wiring (count + 1) after
loaded_on descs wiring count before after d joined there so_far loads =
    one_more descs wiring count before after joined there so_far (subst (λ (desc : Desc). Loads desc before after) (get_or_default descs count d no_desc there) loads)

pub all_loaded : (descs : List Desc) (wiring : Wiring) (count : ℕ) (memory : List (List ℕ)) → AreJoined descs wiring → count ≡ length descs → IsSoFar descs wiring count memory → AreLoaded descs memory
all_loaded descs wiring count memory joined last so_far = record {
  each = λ part there. record { placed = placed_in descs wiring part memory joined there so_far.sizes; fresh = so_far.done part (omega (arith, last, there)) there };
}

-- ---- what the program asks for

pub sizes_small : (descs : List Desc) (wiring : Wiring) → AreJoined descs wiring → sum wiring.sizes ≤ 1073741824
unfolding are_extents_sound
sizes_small descs wiring joined =
    let apart = none_meets spans_meet [] (extent_spans wiring.reals wiring.sizes) in
    let few = (and_parts _ apart (joined_parts descs wiring joined).extents).0 in
    leb-true (sum wiring.sizes) most_bytes (and_parts (length wiring.sizes == length wiring.reals) _ few).1

pub sound_at : (descs : List Desc) (wiring : Wiring) (part : ℕ) (d : Desc) → AreJoined descs wiring → part < length descs → IsSound (slice_index_or descs part d)
sound_at descs wiring part d joined there = all_at is_sound descs part d (joined_parts descs wiring joined).sound there
