-- Memory whose extents have known sizes.
use Rattle.std.proofs.Common.{◌≡◌, ℕ, ◌+◌, ◌≤◌, List, [], ◌∷◌, length, replicate, get_or, refl, sym, ap, ◌∙◌, arith}
use Rattle.std.proofs.lemmas.List.{length-map, length-replicate}
use Rattle.ground.specs.Extents.{extent_at, after_write, zero_extents}
use Rattle.fresh_load.specs.Placed.{sizes_of}
use Rattle.fresh_load.proofs.Bytes.{length-written}
use Rattle.fresh_load.proofs.Places.{size_at, sizes_kept}

pub zero_sizes : (sizes : List ℕ) → sizes_of (zero_extents sizes) ≡ sizes
zero_sizes [] = refl
zero_sizes (size ∷ sizes) =
    let head : length (replicate {A = ℕ} size 0) ≡ size = length-replicate size 0 in
    let tail : sizes_of (zero_extents sizes) ≡ sizes = zero_sizes sizes in
    cc

pub count_by_sizes : (memory : List (List ℕ)) (sizes : List ℕ) → sizes_of memory ≡ sizes → length memory ≡ length sizes
count_by_sizes memory sizes e = sym (length-map memory length) ∙ ap length e

pub size_by_sizes : (memory : List (List ℕ)) (sizes : List ℕ) (extent : ℕ) → sizes_of memory ≡ sizes → length (extent_at memory extent) ≡ get_or sizes extent 0
size_by_sizes memory sizes extent e = sym (size_at memory extent) ∙ ap (λ (all : List ℕ). get_or all extent 0) e

-- a write within an extent changes no size
write_sizes : (memory : List (List ℕ)) (extent at : ℕ) (bytes : List ℕ) → at + length bytes ≤ length (extent_at memory extent)
    → sizes_of (after_write memory extent at bytes) ≡ sizes_of memory
write_sizes memory extent at bytes fits = sizes_kept memory extent _ (length-written at bytes (extent_at memory extent) fits)

-- nor does filling an extent from its start
pub fill_sizes : (memory : List (List ℕ)) (sizes : List ℕ) (extent byte : ℕ) → sizes_of memory ≡ sizes
    → sizes_of (after_write memory extent 0 (replicate (get_or sizes extent 0) byte)) ≡ sizes
fill_sizes memory sizes extent byte e =
    let size : length (extent_at memory extent) ≡ get_or sizes extent 0 = size_by_sizes memory sizes extent e in
    let bytes : List ℕ = replicate (get_or sizes extent 0) byte in
    let count : length bytes ≡ get_or sizes extent 0 = length-replicate (get_or sizes extent 0) byte in
    write_sizes memory extent 0 bytes (omega arith) ∙ e

pub ruleset sizes = (zero_sizes, count_by_sizes, size_by_sizes)
