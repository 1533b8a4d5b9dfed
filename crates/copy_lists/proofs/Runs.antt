-- Runs of bytes that lie side by side in an extent, read and written by their logical addresses.
use Rattle.std.proofs.Common.{◌≡◌, ℕ, zero, suc, ◌+◌, ◌-◌, ◌<◌, ◌≤◌, Bool, true, false, ◌&&◌, ◌==◌, List, [], ◌∷◌, ◌++◌, length, map, get_or, take, drop, Option, Some, None, refl, sym, ap, subst, ◌∙◌, ⊎_elim, arith}
use Rattle.std.specs.List.{list_any, slice_get, range_with_len}
use Rattle.std.specs.Option.{option_map_or}
use Rattle.std.proofs.lemmas.Bool.{false≢true, cases_lt, cases_eq, and_parts, and_from, or_left, or_right, eq-eqb, eqb-true}
use Rattle.std.proofs.lemmas.Option.{none-some, same_Some}
use Rattle.std.proofs.lemmas.Grind.{same_number_lists}
use Rattle.std.proofs.lemmas.List.{length-take-le, length-drop, get_or-take, get_or-drop, get_or-set_same, get_or-set_other, length-set}
use Rattle.std.proofs.lemmas.List.FromFn.{length-map-range_with_len, get_or-map-range_with_len}
use Rattle.machine_desc.specs.declared.desc.Region.{Region}
use Rattle.machine_desc.specs.Private.{region_end, is_private_range}
use Rattle.machine_desc.specs.Sound.{have_extent, are_regions_sound}
use Rattle.machine_desc.proofs.Apart.{one_place}
use Rattle.machine_desc.proofs.Parts.{regions_parts}
use Rattle.memory_areas.specs.declared.place.Place.{Place}
use Rattle.memory_areas.specs.Laws.{HasIt}
use Rattle.memory_areas.specs.Place.{has_address, place_of, place_in}
use Rattle.memory_areas.proofs.Found.{all_at, found_at, some_found}
use Rattle.memory_areas.proofs.Places.{has_both, has_by, one_region_has_it, its_region_gives_the_place, runs_go_on, private_bytes_are_in_regions}
use Rattle.ground.specs.Extents.{extent_at, bytes_at, written, after_write}
use Rattle.fresh_load.specs.Placed.{is_placed, ArePlaced, is_private_extent, sizes_of}
use Rattle.fresh_load.proofs.Places.{there, all_still_placed}
use Rattle.copy_lists.specs.Moving.{byte_of, byte_in, bytes_in, extent_put, region_over, put, AreApart, AreasFit}
use Rattle.copy_lists.proofs.Places.{run_there}
use Rattle.copy_lists.proofs.Putting.{put_before, put_behind, extent_out, same_memories, length-put, put_extent, put_others, put_on, written_put}

-- ---- private bytes

-- a private region has the address
pub record IsHeld (regions : List Region) (logical : ℕ) : Type 0 where
  pub number : ℕ
  pub region : Region
  pub it : HasIt regions logical number region
  pub private : region.private ≡ true

pub held : (regions : List Region) (at size more : ℕ) → is_private_range regions at size ≡ true → more < size → IsHeld regions (at + more)
held regions at size more h below =
    let its = private_bytes_are_in_regions regions at size more h below in
    record { number = its.0; region = its.1; it = its.2; private = its.3 }

pub held_first : (regions : List Region) (at size : ℕ) → is_private_range regions at size ≡ true → 1 ≤ size → IsHeld regions at
held_first regions at size h some =
    let same : at + 0 ≡ at = omega arith in
    subst (λ (n : ℕ). IsHeld regions n) same (held regions at size 0 h some)

pub held_place : (regions : List Region) (logical : ℕ) → are_regions_sound regions ≡ true → (h : IsHeld regions logical) → place_in regions logical ≡ Some (place_of logical h.region)
held_place regions logical sound h = its_region_gives_the_place regions logical h.number h.region sound h.it

any_at : {X : Type 0} (test : X → Bool) (xs : List X) (i : ℕ) (x : X) → slice_get xs i ≡ Some x → test x ≡ true → list_any test xs ≡ true
any_at test [] i x e h = absurd cc
any_at test (y ∷ xs) zero x e h =
    let same : y ≡ x = cc in
    or_left _ _ (subst (λ z. test z ≡ true) (sym same) h)
any_at test (y ∷ xs) (suc i) x e h = or_right _ _ (any_at test xs i x e h)

-- its extent is one of a private region
pub held_extent : (regions : List Region) (logical : ℕ) → (h : IsHeld regions logical) → is_private_extent regions h.region.extent ≡ true
held_extent regions logical h =
    any_at (λ (region : Region). region.private && region.extent == h.region.extent) regions h.number h.region h.it.there
    (and_from _ _ h.private (eq-eqb h.region.extent h.region.extent refl))

-- ---- reading

byte_of_run : (regions : List Region) (memory : List (List ℕ)) (logical more : ℕ) (place : Place) → are_regions_sound regions ≡ true → place_in regions logical ≡ Some place → more < place.run
    → byte_in regions memory (logical + more) ≡ get_or (extent_at memory place.extent) (place.at + more) 0
unfolding byte_in
byte_of_run regions memory logical more place sound e below = ap (λ (o : Option Place). option_map_or (byte_of memory) o 0) (runs_go_on regions logical more place sound e below)

-- the bytes of a run are those of its extent
pub run_read : (regions : List Region) (memory : List (List ℕ)) (logical count : ℕ) (place : Place) → are_regions_sound regions ≡ true → ArePlaced memory regions
    → place_in regions logical ≡ Some place → count ≤ place.run → bytes_at memory place.extent place.at count ≡ bytes_in regions memory logical count
run_read regions memory logical count place sound placed e fits =
    let extent : List ℕ = extent_at memory place.extent in
    let room = (run_there regions memory logical place placed e).1 in
    let rest : length (drop place.at extent) ≡ length extent - place.at = length-drop place.at extent in
    let size : length (take count (drop place.at extent)) ≡ count = length-take-le count (drop place.at extent) (omega (arith, room, rest, fits)) in
    same_number_lists _ _ (size ∙ sym (length-map-range_with_len (byte_in regions memory) logical count))
    (
    λ k below.
    let small : k < count = omega (arith, below, size) in
    get_or-take count (drop place.at extent) k 0 small
    ∙ (get_or-drop place.at extent k 0
    ∙ (sym (byte_of_run regions memory logical k place sound e (omega (arith, small, fits)))
    ∙ sym (get_or-map-range_with_len (byte_in regions memory) logical count k (logical + k) 0 small refl)))
    )

appended : {X : Type 0} (f : ℕ → X) (at a b : ℕ) → map f (range_with_len at a) ++ map f (range_with_len (at + a) b) ≡ map f (range_with_len at (a + b))
appended f at zero b =
    let none : at + 0 ≡ at = omega arith in
    let all : 0 + b ≡ b = omega arith in
    rw (none, all) refl
appended f at (suc a) b =
    let more : suc a + b ≡ suc (a + b) = omega arith in
    let next : at + suc a ≡ (at + 1) + a = omega arith in
    rw (more, next) (ap (λ (xs : List _). f at ∷ xs) (appended f (at + 1) a b))

-- the bytes of a range, part after part
pub bytes_on : (regions : List Region) (memory : List (List ℕ)) (at a b : ℕ) → bytes_in regions memory at a ++ bytes_in regions memory (at + a) b ≡ bytes_in regions memory at (a + b)
bytes_on regions memory at a b = appended (byte_in regions memory) at a b

-- ---- writing

-- the same place has one region
same_there : (regions : List Region) (i j : ℕ) (region other : Region) → i ≡ j → slice_get regions i ≡ Some region → slice_get regions j ≡ Some other → region ≡ other
same_there regions i j region other e h k =
    let at : Some region ≡ Some other = sym h ∙ ap (slice_get regions) e ∙ k in cc

-- two regions of one extent are one
one_extent : (regions : List Region) (i j : ℕ) (region other : Region) → are_regions_sound regions ≡ true → slice_get regions i ≡ Some region
    → slice_get regions j ≡ Some other → region.extent ≡ other.extent → region ≡ other
one_extent regions i j region other sound h k same =
    let to : have_extent region other ≡ true = eq-eqb region.extent other.extent same in
    let back : have_extent other region ≡ true = eq-eqb other.extent region.extent (sym same) in
    same_there regions i j region other (one_place have_extent regions i j region other (regions_parts regions sound).extents h k to back) h k

-- the private region of an extent is found by it
pub over_it : (regions : List Region) (number : ℕ) (region : Region) → are_regions_sound regions ≡ true → slice_get regions number ≡ Some region → region.private ≡ true
    → region_over regions region.extent ≡ Some region
over_it regions number region sound at private =
    let test : Region → Bool = λ (other : Region). other.private && other.extent == region.extent in
    let some = some_found test regions number region at (and_from _ _ private (eq-eqb region.extent region.extent refl)) in
    let found = found_at test regions some.0 some.1 in
    let extent : some.0.extent ≡ region.extent = eqb-true some.0.extent region.extent (and_parts some.0.private _ found.0).1 in
    some.1 ∙ ap (λ (r : Region). Some r) (one_extent regions found.1.0 number some.0 region sound found.1.1 at extent)

-- no address of another region is among those of a region
apart : (regions : List Region) (i j : ℕ) (region other : Region) (logical : ℕ) → are_regions_sound regions ≡ true → slice_get regions i ≡ Some region → slice_get regions j ≡ Some other
    → has_address logical region ≡ true → has_address logical other ≡ true → region ≡ other
apart regions i j region other logical sound at there h k =
    same_there regions i j region other (one_region_has_it regions logical i j region other sound (record { there = at; has = h }) (record { there = there; has = k })) at there

-- bytes put into a region change no other
others_out : (regions : List Region) (memory : List (List ℕ)) (logical number extent : ℕ) (region : Region) (bytes : List ℕ) (over : Option Region) → are_regions_sound regions ≡ true → ArePlaced memory regions
    → HasIt regions logical number region → logical + length bytes ≤ region_end region → (extent ≡ region.extent → ⊥) → region_over regions extent ≡ over
    → extent_put logical bytes over (extent_at memory extent) ≡ extent_at memory extent
others_out regions memory logical number extent region bytes None sound placed it fits differs e = refl
others_out regions memory logical number extent region bytes (Some other) sound placed it fits differs e =
    let found = found_at (λ (r : Region). r.private && r.extent == extent) regions other e in
    let same : other.extent ≡ extent = eqb-true other.extent extent (and_parts other.private _ found.0).1 in
    let size : length (extent_at memory other.extent) ≡ other.size = (there memory other (all_at (is_placed memory) regions found.1.0 other placed found.1.1)).size in
    let its : length (extent_at memory extent) ≡ other.size = ap (λ (n : ℕ). length (extent_at memory n)) (sym same) ∙ size in
    let both = has_both logical region it.has in
    extent_out logical bytes other (extent_at memory extent)
    (
    λ k below.
    ⊎_elim (λ (l : other.logical + k < logical). put_before logical bytes (other.logical + k) _ l)
    (
    λ (l : logical ≤ other.logical + k).
    ⊎_elim
    (
    λ (m : other.logical + k < logical + length bytes).
    let mine : has_address (other.logical + k) region ≡ true = has_by (other.logical + k) region (omega (arith, both.0, l)) (omega (arith, m, fits)) in
    let theirs : has_address (other.logical + k) other ≡ true = has_by (other.logical + k) other (omega arith) (omega (arith, below, its)) in
    let one : region ≡ other = apart regions number found.1.0 region other (other.logical + k) sound it.there found.1.1 mine theirs in
    absurd (differs (sym same ∙ ap (λ (r : Region). r.extent) (sym one)))
    )
    (λ (m : logical + length bytes ≤ other.logical + k). put_behind logical bytes (other.logical + k) _ m) (cases_lt (other.logical + k) (logical + length bytes))
    )
    (cases_lt (other.logical + k) logical)
    )

-- bytes that are written into a private region's extent are put at their address
pub run_put : (regions : List Region) (memory : List (List ℕ)) (logical : ℕ) (bytes : List ℕ) → are_regions_sound regions ≡ true → ArePlaced memory regions → (h : IsHeld regions logical)
    → logical + length bytes ≤ region_end h.region → after_write memory h.region.extent (logical - h.region.logical) bytes ≡ put regions memory logical bytes
run_put regions memory logical bytes sound placed h fits =
    let region : Region = h.region in
    let is = there memory region (all_at (is_placed memory) regions h.number region placed h.it.there) in
    let both = has_both logical region h.it.has in
    let new : List ℕ = written (logical - region.logical) bytes (extent_at memory region.extent) in
    same_memories _ _ (length-set memory region.extent new ∙ sym (length-put regions memory logical bytes))
    (
    λ extent.
    ⊎_elim
    (
    λ (same : extent ≡ region.extent).
    ap (λ (n : ℕ). extent_at (after_write memory region.extent (logical - region.logical) bytes) n) same
    ∙ (get_or-set_same memory region.extent new [] is.exists
    ∙ (written_put logical bytes region (extent_at memory region.extent) both.0 (omega (arith, fits, is.size))
    ∙ (ap (λ (over : Option Region). extent_put logical bytes over (extent_at memory region.extent)) (sym (over_it regions h.number region sound h.it.there h.private))
    ∙ (sym (put_extent regions memory logical bytes region.extent)
    ∙ ap (λ (n : ℕ). extent_at (put regions memory logical bytes) n) (sym same)))))
    )
    (
    λ (differs : extent ≡ region.extent → ⊥).
    get_or-set_other memory region.extent extent new [] differs
    ∙ (sym (others_out regions memory logical h.number extent region bytes (region_over regions extent) sound placed h.it fits differs refl)
    ∙ sym (put_extent regions memory logical bytes extent))
    )
    (cases_eq extent region.extent)
    )

-- ---- what is read stays

byte_stays : (from to : List Region) (memory : List (List ℕ)) (at : ℕ) (bytes : List ℕ) (logical : ℕ) → are_regions_sound from ≡ true → AreApart from to → IsHeld from logical
    → byte_in from (put to memory at bytes) logical ≡ byte_in from memory logical
unfolding byte_in
byte_stays from to memory at bytes logical sound apart h =
    let place = held_place from logical sound h in
    let stays : extent_at (put to memory at bytes) h.region.extent ≡ extent_at memory h.region.extent = put_others to memory at bytes h.region.extent (apart h.region.extent (held_extent from logical h)) in
    ap (λ (o : Option Place). option_map_or (byte_of (put to memory at bytes)) o 0) place
    ∙ (ap (λ (extent : List ℕ). get_or extent (logical - h.region.logical) 0) stays ∙ ap (λ (o : Option Place). option_map_or (byte_of memory) o 0) (sym place))

pub bytes_stay : (from to : List Region) (memory : List (List ℕ)) (at : ℕ) (bytes : List ℕ) (logical count : ℕ) → are_regions_sound from ≡ true → AreApart from to
    → is_private_range from logical count ≡ true → bytes_in from (put to memory at bytes) logical count ≡ bytes_in from memory logical count
bytes_stay from to memory at bytes logical count sound apart h =
    let size : length (bytes_in from (put to memory at bytes) logical count) ≡ count = length-map-range_with_len (byte_in from (put to memory at bytes)) logical count in
    same_number_lists _ _ (size ∙ sym (length-map-range_with_len (byte_in from memory) logical count))
    (
    λ k below.
    let small : k < count = omega (arith, below, size) in
    get_or-map-range_with_len (byte_in from (put to memory at bytes)) logical count k (logical + k) 0 small refl
    ∙ (byte_stays from to memory at bytes (logical + k) sound apart (held from logical count k h small)
    ∙ sym (get_or-map-range_with_len (byte_in from memory) logical count k (logical + k) 0 small refl))
    )

-- what must hold of both partitions' regions holds wherever sizes stay
pub areas_stay : (from to : List Region) (before after : List (List ℕ)) → sizes_of after ≡ sizes_of before → AreasFit from to before → AreasFit from to after
areas_stay from to before after same fit = record {
  from_sound = fit.from_sound;
  to_sound = fit.to_sound;
  from_placed = all_still_placed before after from same fit.from_placed;
  to_placed = all_still_placed before after to same fit.to_placed;
  apart = fit.apart;
}

-- ---- one run copied

-- where the address of a private byte lies
pub its_place : (regions : List Region) (logical : ℕ) (place : Place) → are_regions_sound regions ≡ true → (h : IsHeld regions logical) → place_in regions logical ≡ Some place → place ≡ place_of logical h.region
its_place regions logical place sound h e = same_Some place (place_of logical h.region) (sym e ∙ held_place regions logical sound h)

pub never_none : (regions : List Region) (logical : ℕ) → are_regions_sound regions ≡ true → IsHeld regions logical → place_in regions logical ≡ None → ⊥
never_none regions logical sound h e = none-some (place_of logical h.region) (sym e ∙ held_place regions logical sound h)

-- private bytes of the one and of the other lie in two extents
pub extents_differ : (from to : List Region) (memory : List (List ℕ)) (source target : ℕ) (read write : Place) → AreasFit from to memory → IsHeld from source → IsHeld to target
    → place_in from source ≡ Some read → place_in to target ≡ Some write → read.extent ≡ write.extent → ⊥
extents_differ from to memory source target read write fit h k e f same =
    let one : read.extent ≡ h.region.extent = ap (λ (p : Place). p.extent) (its_place from source read fit.from_sound h e) in
    let other : write.extent ≡ k.region.extent = ap (λ (p : Place). p.extent) (its_place to target write fit.to_sound k f) in
    let its : h.region.extent ≡ k.region.extent = sym one ∙ (same ∙ other) in
    let none : is_private_extent to k.region.extent ≡ false = subst (λ (n : ℕ). is_private_extent to n ≡ false) its (fit.apart h.region.extent (held_extent from source h)) in
    false≢true (sym none ∙ held_extent to target k)

pub run_copied : (from to : List Region) (memory : List (List ℕ)) (source target count : ℕ) (read write : Place) → AreasFit from to memory → IsHeld to target
    → place_in from source ≡ Some read → place_in to target ≡ Some write → count ≤ read.run → count ≤ write.run
    → after_write memory write.extent write.at (bytes_at memory read.extent read.at count) ≡ put to memory target (bytes_in from memory source count)
run_copied from to memory source target count read write fit h e f one other =
    let bytes : List ℕ = bytes_in from memory source count in
    let size : length bytes ≡ count = length-map-range_with_len (byte_in from memory) source count in
    let same : write ≡ place_of target h.region = its_place to target write fit.to_sound h f in
    let run : write.run ≡ region_end h.region - target = ap (λ (p : Place). p.run) same in
    let both = has_both target h.region h.it.has in
    ap (λ (bs : List ℕ). after_write memory write.extent write.at bs) (run_read from memory source count read fit.from_sound fit.from_placed e one)
    ∙ (ap (λ (p : Place). after_write memory p.extent p.at bytes) same ∙ run_put to memory target bytes fit.to_sound fit.to_placed h (omega (arith, size, other, run, both.1)))

-- ---- an entry, run after run

-- the next run
pub more_copied : (from to : List Region) (memory after : List (List ℕ)) (source target done count : ℕ) → AreasFit from to memory → is_private_range from (source + done) count ≡ true
    → after ≡ put to memory target (bytes_in from memory source done)
    → put to after (target + done) (bytes_in from after (source + done) count) ≡ put to memory target (bytes_in from memory source (done + count))
more_copied from to memory after source target done count fit h e =
    let first : List ℕ = bytes_in from memory source done in
    let second : List ℕ = bytes_in from memory (source + done) count in
    let long : length first ≡ done = length-map-range_with_len (byte_in from memory) source done in
    ap (λ (m : List (List ℕ)). put to m (target + done) (bytes_in from m (source + done) count)) e
    ∙ (ap (put to (put to memory target first) (target + done)) (bytes_stay from to memory target first (source + done) count fit.from_sound fit.apart h)
    ∙ (ap (λ (n : ℕ). put to (put to memory target first) (target + n) second) (sym long)
    ∙ (put_on to memory target first second ∙ ap (put to memory target) (bytes_on from memory source done count))))
