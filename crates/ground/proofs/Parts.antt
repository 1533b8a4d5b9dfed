-- A list that was cut in two, after one element of a part was set.
use Rattle.std.proofs.Common.{arith, refl, ap, sym, ◌∙◌, ◌≡◌, ℕ, zero, suc, ◌+◌, ◌<◌, List, [], ◌∷◌, ◌++◌, length, take, drop, slice_set, slice_index_or}
use Rattle.std.proofs.lemmas.List.{take-append-drop, length-set, take_at, get_or-take, get_or-drop, get_or_default}
use Rattle.ground.specs.Extents.{extent_at, bytes_at, written, after_write}

-- set in the later part, at its front
pub set_late : {X : Type 0} (xs : List X) (k : ℕ) (y : X) → k < length xs → take k xs ++ slice_set (drop k xs) 0 y ≡ slice_set xs k y
set_late [] k y h = absurd (omega arith)
set_late (x ∷ xs) zero y h = refl
set_late (x ∷ xs) (suc k) y h = ap (λ zs. x ∷ zs) (set_late xs k y (omega arith))

-- set in the earlier part
pub set_early : {X : Type 0} (xs : List X) (k i : ℕ) (y : X) → i < k → slice_set (take k xs) i y ++ drop k xs ≡ slice_set xs i y
set_early [] zero i y h = absurd (omega arith)
set_early [] (suc k) i y h = refl
set_early (x ∷ xs) zero i y h = absurd (omega arith)
set_early (x ∷ xs) (suc k) zero y h = ap (λ zs. y ∷ zs) (take-append-drop k xs)
set_early (x ∷ xs) (suc k) (suc i) y h = ap (λ zs. x ∷ zs) (set_early xs k i y (omega arith))

-- what stands behind the whole list is cut off
pub whole : {X : Type 0} (parts xs zs : List X) (n i : ℕ) (y : X) → n ≡ length xs → parts ≡ slice_set xs i y → take n (parts ++ zs) ≡ slice_set xs i y
whole parts xs zs n i y l e = take_at parts zs n (ap length e ∙ (length-set xs i y ∙ sym l)) ∙ e

-- an extent that lies in the earlier part
pub in_early : (xs low : List (List ℕ)) (k i : ℕ) (d : List ℕ) → low ≡ take k xs → i < k → i < length xs → slice_index_or low i d ≡ extent_at xs i
in_early xs low k i d e h l = ap (λ ys. slice_index_or ys i d) e ∙ (get_or-take k xs i d h ∙ get_or_default xs i d [] l)

-- an extent that is the first of the later part
pub in_late : (xs high : List (List ℕ)) (k : ℕ) (d : List ℕ) → high ≡ drop k xs → k < length xs → slice_index_or high 0 d ≡ extent_at xs k
in_late xs high k d e l =
    let none : k + 0 ≡ k = omega arith in ap (λ ys. slice_index_or ys 0 d) e ∙ (get_or-drop k xs 0 d ∙ (ap (λ j. slice_index_or xs j d) none ∙ get_or_default xs k d [] l))

-- what a write of bytes that were read leaves of an extent
pub put_read : (from_at to_at len : ℕ) (source target read new s t : List ℕ) → read ≡ drop from_at s → new ≡ written to_at (take len read) t → s ≡ source → t ≡ target → new ≡ written to_at (take len (drop from_at source)) target
put_read from_at to_at len source target read new s t r w e f = rw w (rw r (rw e (rw f refl)))

-- the list after a copy into the later part: read and new are what was read and what then stands there
pub copied_late : (xs low high rest : List (List ℕ)) (n from to from_at to_at len : ℕ) (read new d e : List ℕ)
    → low ≡ take to xs → high ≡ drop to xs → n ≡ length xs → from < to → to < length xs
    → read ≡ drop from_at (slice_index_or low from d) → new ≡ written to_at (take len read) (slice_index_or high 0 e)
    → take n ((low ++ slice_set high 0 new) ++ rest) ≡ after_write xs to to_at (bytes_at xs from from_at len)
copied_late xs low high rest n from to from_at to_at len read new d e front back all before exists reads puts =
    let put = put_read from_at to_at len (extent_at xs from) (extent_at xs to) read new _ _ reads puts (in_early xs low to from d front before (omega arith)) (in_late xs high to e back exists) in
    whole (low ++ slice_set high 0 new) xs rest n to (written to_at (bytes_at xs from from_at len) (extent_at xs to)) all
    (rw front (rw back (rw put (set_late xs to _ exists))))

-- the same where the earlier part is written
pub copied_early : (xs low high rest : List (List ℕ)) (n from to from_at to_at len : ℕ) (read new d e : List ℕ)
    → low ≡ take from xs → high ≡ drop from xs → n ≡ length xs → to < from → from < length xs
    → read ≡ drop from_at (slice_index_or high 0 e) → new ≡ written to_at (take len read) (slice_index_or low to d)
    → take n ((slice_set low to new ++ high) ++ rest) ≡ after_write xs to to_at (bytes_at xs from from_at len)
copied_early xs low high rest n from to from_at to_at len read new d e front back all before exists reads puts =
    let put = put_read from_at to_at len (extent_at xs from) (extent_at xs to) read new _ _ reads puts (in_late xs high from e back exists) (in_early xs low from to d front before (omega arith)) in
    whole (slice_set low to new ++ high) xs rest n to (written to_at (bytes_at xs from from_at len) (extent_at xs to)) all
    (rw front (rw back (rw put (set_early xs from to _ before))))
