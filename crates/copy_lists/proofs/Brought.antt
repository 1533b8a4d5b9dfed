-- Bytes that a list brings, put entry after entry.
use Rattle.std.proofs.Common.{◌≡◌, ℕ, ◌+◌, ◌-◌, ◌≤◌, ◌<◌, min, Bool, true, false, ◌||◌, not, cond, ◌==◌, List, ◌∷◌, length, take, drop, Some, refl, sym, ap, subst, ◌∙◌, ⊎_elim, arith}
use Rattle.std.specs.List.{slice_get}
use Rattle.std.proofs.Math.Seq.{take-add}
use Rattle.std.proofs.lemmas.Bool.{cases_lt, eqb-true}
use Rattle.std.proofs.lemmas.List.{at_drop_more, length-take, length-take-le, length-drop, take_all, drop_all}
use Rattle.std.proofs.lemmas.Option.{slice_get_within, get_or_from_slice_get}
use Rattle.machine_desc.specs.declared.desc.Region.{Region}
use Rattle.machine_desc.specs.Private.{region_end, is_private_range}
use Rattle.machine_desc.specs.Sound.{are_regions_sound}
use Rattle.memory_areas.specs.declared.place.Place.{Place}
use Rattle.memory_areas.specs.Place.{place_of, place_in}
use Rattle.memory_areas.proofs.Found.{all_at}
use Rattle.memory_areas.proofs.Places.{has_both}
use Rattle.ground.specs.Extents.{after_write}
use Rattle.fresh_load.specs.Placed.{ArePlaced}
use Rattle.copy_lists.specs.declared.list.SgEntry.{SgEntry}
use Rattle.copy_lists.specs.Moving.{put}
use Rattle.copy_lists.specs.Pieces.{with_bytes, pieces_in, shared_out, all_put, are_targets_private}
use Rattle.copy_lists.proofs.Entries.{none_private}
use Rattle.copy_lists.proofs.Places.{private_part}
use Rattle.copy_lists.proofs.Putting.{put_on, put_none}
use Rattle.copy_lists.proofs.Runs.{IsHeld, its_place, run_put}

-- ---- one run

-- bytes written at the place of an address are put there
pub run_brought : (regions : List Region) (memory : List (List ℕ)) (at : ℕ) (bytes : List ℕ) (place : Place) → are_regions_sound regions ≡ true → ArePlaced memory regions → IsHeld regions at
    → place_in regions at ≡ Some place → length bytes ≤ place.run → after_write memory place.extent place.at bytes ≡ put regions memory at bytes
run_brought regions memory at bytes place sound placed h e fits =
    let same : place ≡ place_of at h.region = its_place regions at place sound h e in
    let run : place.run ≡ region_end h.region - at = ap (λ (p : Place). p.run) same in
    let both = has_both at h.region h.it.has in
    ap (λ (p : Place). after_write memory p.extent p.at bytes) same ∙ run_put regions memory at bytes sound placed h (omega (arith, fits, run, both.1))

-- ---- run after run

pub more_put : (regions : List Region) (memory after : List (List ℕ)) (at done count : ℕ) (bytes : List ℕ) → done ≤ length bytes → after ≡ put regions memory at (take done bytes)
    → put regions after (at + done) (take count (drop done bytes)) ≡ put regions memory at (take (done + count) bytes)
more_put regions memory after at done count bytes within e =
    let first : List ℕ = take done bytes in
    let second : List ℕ = take count (drop done bytes) in
    let long : length first ≡ done = length-take-le done bytes within in
    ap (λ (m : List (List ℕ)). put regions m (at + done) second) e
    ∙ (ap (λ (n : ℕ). put regions (put regions memory at first) (at + n) second) (sym long)
    ∙ (put_on regions memory at first second ∙ ap (put regions memory at) (sym (take-add done count bytes))))

-- the bytes that are left of a slice
pub rest_taken : (done : ℕ) (bytes : List ℕ) → take (length bytes - done) (drop done bytes) ≡ drop done bytes
rest_taken done bytes = take_all (length bytes - done) (drop done bytes) (omega (arith, length-drop done bytes))

-- a slice of a private range's bytes is for a private range
pub rest_private : (regions : List Region) (at done : ℕ) (bytes : List ℕ) → is_private_range regions at (length bytes) ≡ true → done ≤ length bytes
    → is_private_range regions (at + done) (length (take (length bytes - done) (drop done bytes))) ≡ true
rest_private regions at done bytes h within =
    let long : length (take (length bytes - done) (drop done bytes)) ≡ length bytes - done = ap length (rest_taken done bytes) ∙ length-drop done bytes in
    private_part regions at (length bytes) done (length (take (length bytes - done) (drop done bytes))) h (omega (arith, long, within))

pub first_private : (regions : List Region) (at size count : ℕ) (bytes : List ℕ) → is_private_range regions at size ≡ true → count ≤ size
    → is_private_range regions at (length (take count bytes)) ≡ true
first_private regions at size count bytes h within =
    let long : length (take count bytes) ≡ min count (length bytes) = length-take count bytes in
    let same : at + 0 ≡ at = omega arith in
    subst (λ (n : ℕ). is_private_range regions n (length (take count bytes)) ≡ true) same (private_part regions at size 0 (length (take count bytes)) h (omega (arith, long, within)))

-- ---- an entry

-- so many, or all that there are
pub taken_least : (size : ℕ) (bytes : List ℕ) → take (min size (length bytes)) bytes ≡ take size bytes
taken_least size bytes =
    ⊎_elim (λ (l : size < length bytes). let least : min size (length bytes) ≡ size = omega arith in ap (λ (n : ℕ). take n bytes) least)
    (
    λ (l : length bytes ≤ size).
    let least : min size (length bytes) ≡ length bytes = omega arith in
    ap (λ (n : ℕ). take n bytes) least ∙ (take_all (length bytes) bytes (omega arith) ∙ sym (take_all size bytes l))
    )
    (cases_lt size (length bytes))

pub left_least : (size : ℕ) (bytes : List ℕ) → drop (min size (length bytes)) bytes ≡ drop size bytes
left_least size bytes =
    ⊎_elim (λ (l : size < length bytes). let least : min size (length bytes) ≡ size = omega arith in ap (λ (n : ℕ). drop n bytes) least)
    (
    λ (l : length bytes ≤ size).
    let least : min size (length bytes) ≡ length bytes = omega arith in
    ap (λ (n : ℕ). drop n bytes) least ∙ (drop_all (length bytes) bytes (omega arith) ∙ sym (drop_all size bytes l))
    )
    (cases_lt size (length bytes))

-- ---- entry after entry

pub target_private : (regions : List Region) (entries : List SgEntry) (i : ℕ) (entry : SgEntry) → are_targets_private regions entries ≡ true → slice_get entries i ≡ Some entry
    → is_private_range regions entry.target entry.size ≡ true
target_private regions entries i entry h at = by_size (entry.size == 0) refl (all_at (λ (it : SgEntry). it.size == 0 || is_private_range regions it.target it.size) entries i entry h at)
  where
    by_size : (b : Bool) → (entry.size == 0) ≡ b → (b || is_private_range regions entry.target entry.size) ≡ true → is_private_range regions entry.target entry.size ≡ true
    by_size true none h = none_private regions entry.target entry.size (eqb-true entry.size 0 none)
    by_size false some h = h

-- an entry without bytes takes none and puts none
first_brought : (regions : List Region) (entry : SgEntry) (entries : List SgEntry) (bytes : List ℕ) (memory : List (List ℕ))
    → all_put regions (pieces_in (entry ∷ entries) bytes) memory ≡ all_put regions (pieces_in entries (drop entry.size bytes)) (put regions memory entry.target (take entry.size bytes))
first_brought regions entry entries bytes memory = by_size (entry.size == 0) refl
  where
    by_size : (b : Bool) → (entry.size == 0) ≡ b → all_put regions (shared_out (cond (not b) (entry ∷ with_bytes entries) (with_bytes entries)) bytes) memory
        ≡ all_put regions (pieces_in entries (drop entry.size bytes)) (put regions memory entry.target (take entry.size bytes))
    by_size true none =
        let zero : entry.size ≡ 0 = eqb-true entry.size 0 none in
        ap (all_put regions (pieces_in entries bytes)) (sym (put_none regions memory entry.target))
        ∙ ap (λ (n : ℕ). all_put regions (pieces_in entries (drop n bytes)) (put regions memory entry.target (take n bytes))) (sym zero)
    by_size false some = refl

pub next_brought : (regions : List Region) (entries : List SgEntry) (bytes left : List ℕ) (memory after : List (List ℕ)) (i : ℕ) (entry : SgEntry) → slice_get entries i ≡ Some entry
    → after ≡ put regions memory entry.target (take entry.size bytes) → left ≡ drop entry.size bytes
    → all_put regions (pieces_in (drop (i + 1) entries) left) after ≡ all_put regions (pieces_in (drop i entries) bytes) memory
next_brought regions entries bytes left memory after i entry at e f =
    ap (λ (m : List (List ℕ)). all_put regions (pieces_in (drop (i + 1) entries) left) m) e
    ∙ (ap (λ (bs : List ℕ). all_put regions (pieces_in (drop (i + 1) entries) bs) (put regions memory entry.target (take entry.size bytes))) f
    ∙ (sym (first_brought regions entry (drop (i + 1) entries) bytes memory)
    ∙ (ap (λ (it : SgEntry). all_put regions (pieces_in (it ∷ drop (i + 1) entries) bytes) memory) (sym (get_or_from_slice_get entries i entry entry at))
    ∙ sym (at_drop_more (λ (rest : List SgEntry). all_put regions (pieces_in rest bytes) memory) entries i entry (slice_get_within entries i entry at)))))
