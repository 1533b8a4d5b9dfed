-- Elements that pass a test, and the first of them.
use Rattle.std.proofs.Common.{◌≡◌, ℕ, zero, suc, ◌+◌, ◌<◌, ◌||◌, add-zero, arith, Bool, true, false, cond, List, [], ◌∷◌, Some, IsTrue, refl, sym, ap, subst}
use Rattle.std.specs.List.{list_all, list_any, range_with_len, find, slice_get}
use Rattle.std.proofs.lemmas.Bool.{and_parts}
use Rattle.machine_desc.specs.declared.desc.Region.{Region}
use Rattle.machine_desc.specs.declared.desc.Desc.{Desc}
use Rattle.machine_desc.specs.Sound.{is_within, IsSound}
use Rattle.machine_desc.proofs.Parts.{regions_parts, sound_regions}
use Rattle.memory_areas.specs.Place.{has_address}
use Rattle.memory_areas.specs.Kept.{AreWithin}

-- ---- any test

-- it passes the test, and stands in the list
pub found_at : {X : Type 0} (test : X → Bool) (xs : List X) (x : X) → find test xs ≡ Some x → (test x ≡ true) × ((i : ℕ) × (slice_get xs i ≡ Some x))
found_at test [] x e = absurd cc
found_at test (y ∷ xs) x e =
    elim (test y) as (λ b. test y ≡ b → cond b (Some y) (find test xs) ≡ Some x → (test x ≡ true) × ((i : ℕ) × (slice_get (y ∷ xs) i ≡ Some x))) [
      | true ↦ λ t e. let same : y ≡ x = cc in (subst (λ z. test z ≡ true) same t, (0, e))
      | false ↦ λ t e. let rest = found_at test xs x e in (rest.0, (suc rest.1.0, rest.1.1))
    ] refl e

-- where some element passes, one is found
pub some_found : {X : Type 0} (test : X → Bool) (xs : List X) (i : ℕ) (x : X) → slice_get xs i ≡ Some x → test x ≡ true → (y : X) × (find test xs ≡ Some y)
some_found test [] i x at h = absurd cc
some_found test (y ∷ xs) zero x at h =
    let same : y ≡ x = cc in
    let passes : test y ≡ true = subst (λ z. test z ≡ true) (sym same) h in
    (y, ap (λ b. cond b (Some y) (find test xs)) passes)
some_found {X} test (y ∷ xs) (suc i) x at h =
    elim (test y) as (λ b. (z : X) × (cond b (Some y) (find test xs) ≡ Some z)) [ true ↦ (y, refl) | false ↦ some_found test xs i x at h ]

-- what all have it has
pub all_at : {X : Type 0} (all : X → Bool) (xs : List X) (i : ℕ) (x : X) → list_all all xs ≡ true → slice_get xs i ≡ Some x → all x ≡ true
all_at all [] i x h at = absurd cc
all_at all (y ∷ xs) zero x h at = let same : y ≡ x = cc in subst (λ z. all z ≡ true) same (and_parts _ _ h).0
all_at all (y ∷ xs) (suc i) x h at = all_at all xs i x (and_parts _ _ h).1 at

-- what all numbers of a range have each has
pub all_in_range : (test : ℕ → Bool) (size at more : ℕ) → list_all test (range_with_len at size) ≡ true → more < size → test (at + more) ≡ true
all_in_range test zero at more h below = absurd (omega arith)
all_in_range test (suc size) at zero h below = rw add-zero (and_parts _ _ h).0
all_in_range test (suc size) at (suc more) h below =
    let same : at + suc more ≡ (at + 1) + more = omega arith in
    rw same (all_in_range test size (at + 1) more (and_parts _ _ h).1 (omega arith))

-- where some element passes, one does
pub some_holds : {X : Type 0} (test : X → Bool) (xs : List X) → list_any test xs ≡ true → (i : ℕ) × (x : X) × (slice_get xs i ≡ Some x) × (test x ≡ true)
some_holds test [] h = absurd cc
some_holds {X} test (x ∷ xs) h =
    elim (test x) as (λ b. test x ≡ b → (b || list_any test xs) ≡ true → (i : ℕ) × (y : X) × (slice_get (x ∷ xs) i ≡ Some y) × (test y ≡ true)) [
      | true ↦ λ t h. (0, x, refl, t)
      | false ↦ λ t h. let rest = some_holds test xs h in (suc rest.0, rest.1, rest.2, rest.3)
    ] refl h

-- ---- regions

pub found_has : (logical : ℕ) (regions : List Region) (region : Region) → find (has_address logical) regions ≡ Some region → IsTrue (has_address logical region)
found_has logical regions region e = (found_at (has_address logical) regions region e).0

pub found_within : (logical : ℕ) (regions : List Region) (region : Region) → find (has_address logical) regions ≡ Some region → AreWithin regions → IsTrue (is_within region)
found_within logical regions region e h =
    let at = found_at (has_address logical) regions region e in all_at is_within regions at.1.0 region h at.1.1

-- ---- descriptions

pub sound_regions_within : (desc : Desc) → IsSound desc → AreWithin desc.regions
sound_regions_within desc h = (regions_parts desc.regions (sound_regions desc h)).within
