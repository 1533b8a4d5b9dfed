-- Extents of known sizes with zeros.
use Rattle.std.proofs.Common.{◌≡◌, ℕ, ◌<◌, true, false, List, [], ◌∷◌, length, replicate, slice_index_or, Option, Some, None, refl, sym, ap, ◌∙◌, arith}
use Rattle.std.specs.List.{slice_get}
use Rattle.std.specs.Option.{option_map_or}
use Rattle.std.proofs.lemmas.Bool.{and_parts, and_from, eqb-true, eq-eqb, lt-ltb}
use Rattle.std.proofs.lemmas.List.{length-map, length-replicate, get_or-map}
use Rattle.std.proofs.lemmas.Option.{slice_get_within, get_or_from_slice_get, slice_get-get_or}
use Rattle.machine_desc.specs.declared.desc.Region.{Region}
use Rattle.machine_desc.specs.Joined.{has_at, same_number}
use Rattle.memory_areas.proofs.Found.{all_at}
use Rattle.ground.specs.Extents.{extent_at, zero_extents}
use Rattle.fresh_load.specs.Placed.{ArePlaced, AreSharedZero, is_placed}
use Rattle.partition.specs.Loading.{have_extents}

record IsZero (sizes : List ℕ) (region : Region) : Type 0 where
  exists : region.extent < length (zero_extents sizes)
  bytes : extent_at (zero_extents sizes) region.extent ≡ replicate region.size 0

sized : (sizes : List ℕ) (region : Region) (found : Option ℕ) → slice_get sizes region.extent ≡ found → option_map_or (same_number region.size) found false ≡ true → IsZero sizes region
sized sizes region None e h = absurd cc
sized sizes region (Some n) e h =
    let within : region.extent < length sizes = slice_get_within sizes region.extent n e in
    let is : slice_index_or sizes region.extent 0 ≡ n = get_or_from_slice_get sizes region.extent n 0 e in
    let same : region.size ≡ n = eqb-true region.size n h in
    record {
      exists = omega (arith, within, length-map sizes (λ (size : ℕ). replicate {A = ℕ} size 0));
      bytes = get_or-map (λ (size : ℕ). replicate {A = ℕ} size 0) sizes region.extent 0 [] within ∙ ap (λ (size : ℕ). replicate {A = ℕ} size 0) (is ∙ sym same);
    }

placed : (sizes : List ℕ) (region : Region) → IsZero sizes region → is_placed (zero_extents sizes) region ≡ true
placed sizes region zero = and_from _ _ (lt-ltb region.extent (length (zero_extents sizes)) zero.exists) (eq-eqb (length (extent_at (zero_extents sizes) region.extent)) region.size (ap length zero.bytes ∙ length-replicate region.size 0))

pub zeros_placed : (sizes : List ℕ) (regions : List Region) → have_extents sizes regions ≡ true → ArePlaced (zero_extents sizes) regions
zeros_placed sizes [] h = refl
zeros_placed sizes (region ∷ regions) h =
    let parts = and_parts _ _ h in
    and_from _ _ (placed sizes region (sized sizes region (slice_get sizes region.extent) refl parts.0)) (zeros_placed sizes regions parts.1)

pub zeros_shared : (sizes : List ℕ) (regions : List Region) → have_extents sizes regions ≡ true → AreSharedZero (zero_extents sizes) regions
zeros_shared sizes regions h k d below shared =
    let region : Region = slice_index_or regions k d in
    let has : has_at sizes region.extent region.size ≡ true = all_at (λ (region : Region). has_at sizes region.extent region.size) regions k region h (slice_get-get_or regions k d below) in
    (sized sizes region (slice_get sizes region.extent) refl has).bytes
