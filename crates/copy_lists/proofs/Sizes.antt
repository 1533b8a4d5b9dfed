-- Memory whose extents have known sizes, and partitions that share no private extent.
use Rattle.std.proofs.Common.{◌≡◌, ℕ, ◌<◌, Bool, true, false, ◌&&◌, ◌||◌, ◌==◌, not, List, [], ◌∷◌, length, replicate, get_or, refl, sym, ap, subst, ◌∙◌, arith}
use Rattle.std.specs.List.{list_all}
use Rattle.std.proofs.lemmas.Bool.{false≢true, and_parts, eqb-true}
use Rattle.std.proofs.lemmas.List.{length-map, length-replicate}
use Rattle.machine_desc.specs.declared.desc.Region.{Region}
use Rattle.ground.specs.Extents.{extent_at, after_write, zero_extents}
use Rattle.fresh_load.specs.Placed.{is_private_extent, sizes_of}
use Rattle.fresh_load.proofs.Places.{size_at, sizes_kept}
use Rattle.copy_lists.specs.Moving.{AreApart}
use Rattle.copy_lists.proofs.Putting.{length-written}

pub zero_sizes : (sizes : List ℕ) → sizes_of (zero_extents sizes) ≡ sizes
zero_sizes [] = refl
zero_sizes (size ∷ sizes) =
    let head : length (replicate {A = ℕ} size 0) ≡ size = length-replicate size 0 in
    let tail : sizes_of (zero_extents sizes) ≡ sizes = zero_sizes sizes in
    cc

pub count_by_sizes : (memory : List (List ℕ)) (sizes : List ℕ) → sizes_of memory ≡ sizes → length memory ≡ length sizes
count_by_sizes memory sizes e = sym (length-map memory length) ∙ ap length e

pub size_by_sizes : (memory : List (List ℕ)) (sizes : List ℕ) (extent : ℕ) → sizes_of memory ≡ sizes → length (extent_at memory extent) ≡ get_or sizes extent 0
size_by_sizes memory sizes extent e = sym (size_at memory extent) ∙ ap (λ (all : List ℕ). get_or all extent 0) e

-- a byte that is written changes no size
pub byte_sizes : (memory : List (List ℕ)) (sizes : List ℕ) (extent at byte : ℕ) → sizes_of memory ≡ sizes → at < get_or sizes extent 0 → sizes_of (after_write memory extent at (byte ∷ [])) ≡ sizes
byte_sizes memory sizes extent at byte e below =
    let size : length (extent_at memory extent) ≡ get_or sizes extent 0 = size_by_sizes memory sizes extent e in
    sizes_kept memory extent _ (length-written at (byte ∷ []) (extent_at memory extent) (omega arith)) ∙ e

pub ruleset sizes = (zero_sizes, count_by_sizes, size_by_sizes, byte_sizes)

-- a region that shares no private extent
abbrev pub is_apart : List Region → Region → Bool
is_apart to region = not (region.private && is_private_extent to region.extent)

-- an extent of a region that is apart
its_extent : (to : List Region) (region : Region) (extent : ℕ) → is_apart to region ≡ true → (region.private && region.extent == extent) ≡ true → is_private_extent to extent ≡ false
its_extent to region extent h e =
    let parts = and_parts region.private (region.extent == extent) e in
    let same : region.extent ≡ extent = eqb-true region.extent extent parts.1 in
    let none : not (true && is_private_extent to region.extent) ≡ true = subst (λ (b : Bool). not (b && is_private_extent to region.extent) ≡ true) parts.0 h in
    subst (λ (n : ℕ). is_private_extent to n ≡ false) same (negated (is_private_extent to region.extent) none)
  where
    negated : (b : Bool) → not b ≡ true → b ≡ false
    negated true h = absurd (false≢true h)
    negated false h = refl

pub all_apart : (from to : List Region) → list_all (is_apart to) from ≡ true → AreApart from to
all_apart [] to h extent e = absurd cc
all_apart (region ∷ from) to h extent e =
    let parts = and_parts (is_apart to region) (list_all (is_apart to) from) h in
    elim (region.private && region.extent == extent) as (λ b. (region.private && region.extent == extent) ≡ b → is_private_extent to extent ≡ false) [
      | true ↦ λ t. its_extent to region extent parts.0 t
      | false ↦ λ t. all_apart from to parts.1 extent (subst (λ (b : Bool). (b || is_private_extent from extent) ≡ true) t e)
    ] refl
