-- What is put into real memory by a partition's regions is put into its machine's memory by the machine's own regions.
use Rattle.std.proofs.Common.{◌≡◌, ℕ, zero, suc, ◌+◌, ◌<◌, Bool, true, false, ◌&&◌, ◌==◌, cond, List, [], ◌∷◌, length, slice_index_or, Option, Some, None, refl, sym, ap, ◌∙◌, arith}
use Rattle.std.specs.List.{slice_get}
use Rattle.std.proofs.lemmas.Bool.{false≢true, and_parts, and_right, eqb-true, eq-eqb, ne_eqb}
use Rattle.std.proofs.lemmas.List.{same_lists, length-map, get_or-map, get_or_default}
use Rattle.std.proofs.lemmas.Option.{slice_get-get_or, same_Some}
use Rattle.machine_desc.specs.declared.desc.Region.{Region}
use Rattle.machine_desc.specs.Sound.{have_extent, are_regions_sound}
use Rattle.machine_desc.proofs.Apart.{one_place}
use Rattle.machine_desc.proofs.Parts.{regions_parts}
use Rattle.memory_areas.proofs.Found.{found_at}
use Rattle.ground.specs.Extents.{extent_at}
use Rattle.ground.specs.Own.{own_of}
use Rattle.fresh_load.specs.Placed.{extents_of}
use Rattle.copy_lists.specs.Moving.{extent_put, region_over, put}
use Rattle.copy_lists.specs.Pieces.{Piece, all_put}
use Rattle.copy_lists.proofs.Putting.{length-put, put_extent}
use Rattle.copy_lists.proofs.Runs.{over_it}
use Rattle.partition.specs.Regions.{areas_of}
use Rattle.partition.specs.Copying.{numbered, own_regions}

-- ---- which region has an extent

-- where a list of regions has none
abbrev no_region : Region
no_region = record { logical = 0; size = 0; extent = 0; real = 0; private = false }

-- a region as its machine knows it, whose bytes have this place in the machine's memory
abbrev own_region : ℕ → Region → Region
own_region place region = record { logical = region.logical; size = region.size; extent = place; real = 0; private = region.private }

-- a region where it is private
abbrev if_private : Region → Option Region
if_private region = cond region.private (Some region) None

-- none of the regions that are numbered from a place on has an extent before it
none_before : (regions : List Region) (place extent : ℕ) → extent < place → region_over (numbered place (areas_of regions)) extent ≡ None
none_before [] place extent below = refl
none_before (region ∷ regions) place extent below =
    ap (λ (b : Bool). cond b (Some (own_region place region)) (region_over (numbered (place + 1) (areas_of regions)) extent)) (and_right region.private (place == extent) (ne_eqb place extent (λ same. omega (arith, below, same))))
    ∙ none_before regions (place + 1) extent (omega arith)

-- of a machine's regions, the one at a place has the extent of that number
own_over : (regions : List Region) (place k extent : ℕ) → place + k ≡ extent → k < length regions
    → region_over (numbered place (areas_of regions)) extent ≡ if_private (own_region extent (slice_index_or regions k no_region))
own_over [] place k extent e below = absurd (omega arith)
own_over (region ∷ regions) place zero extent e below =
    let same : place ≡ extent = omega (arith, e) in
    ap (λ (b : Bool). cond (region.private && b) (Some (own_region place region)) (region_over (numbered (place + 1) (areas_of regions)) extent)) (eq-eqb place extent same)
    ∙ by_private region.private same (none_before regions (place + 1) extent (omega (arith, same)))
  where
    by_private : (b : Bool) → place ≡ extent → region_over (numbered (place + 1) (areas_of regions)) extent ≡ None
        → cond (b && true) (Some (own_region place region)) (region_over (numbered (place + 1) (areas_of regions)) extent) ≡ cond b (Some (own_region extent region)) None
    by_private true same none = ap (λ (n : ℕ). Some (own_region n region)) same
    by_private false same none = none
own_over (region ∷ regions) place (suc k) extent e below =
    ap (λ (b : Bool). cond b (Some (own_region place region)) (region_over (numbered (place + 1) (areas_of regions)) extent)) (and_right region.private (place == extent) (ne_eqb place extent (λ same. omega (arith, e, same))))
    ∙ own_over regions (place + 1) k extent (omega (arith, e)) (omega (arith, below))

-- in real memory none but the region itself has its extent
real_over : (regions : List Region) (k : ℕ) (region : Region) → are_regions_sound regions ≡ true → slice_get regions k ≡ Some region → region_over regions region.extent ≡ if_private region
real_over regions k region sound at = by_private region.private refl
  where
    none_other : (found : Option Region) → region.private ≡ false → region_over regions region.extent ≡ found → found ≡ None
    none_other None shared e = refl
    none_other (Some other) shared e =
        let found = found_at (λ (r : Region). r.private && r.extent == region.extent) regions other e in
        let parts = and_parts other.private (other.extent == region.extent) found.0 in
        let meet : region.extent ≡ other.extent = sym (eqb-true other.extent region.extent parts.1) in
        let place : found.1.0 ≡ k = one_place have_extent regions found.1.0 k other region (regions_parts regions sound).extents found.1.1 at parts.1 (eq-eqb region.extent other.extent meet) in
        let one : other ≡ region = same_Some other region (sym found.1.1 ∙ ap (slice_get regions) place ∙ at) in
        absurd (false≢true (sym shared ∙ (ap (λ (r : Region). r.private) (sym one) ∙ parts.0)))

    by_private : (b : Bool) → region.private ≡ b → region_over regions region.extent ≡ cond b (Some region) None
    by_private true private = over_it regions k region sound at private
    by_private false shared = none_other (region_over regions region.extent) shared refl

-- ---- what is written

-- what a region gets depends on its address, and not on its extent
same_put : (at : ℕ) (bytes old : List ℕ) (place : ℕ) (region : Region) → extent_put at bytes (if_private region) old ≡ extent_put at bytes (if_private (own_region place region)) old
same_put at bytes old place region = by_private region.private
  where
    by_private : (b : Bool) → extent_put at bytes (cond b (Some region) None) old ≡ extent_put at bytes (cond b (Some (own_region place region)) None) old
    by_private true = refl
    by_private false = refl

-- a machine's memory has at a region's place the region's bytes
own_at : (regions : List Region) (memory : List (List ℕ)) (k : ℕ) (default : List ℕ) → k < length regions
    → slice_index_or (own_of (extents_of regions) memory) k default ≡ extent_at memory (slice_index_or regions k no_region).extent
own_at regions memory k default below =
    get_or-map (λ (name : ℕ). extent_at memory name) (extents_of regions) k 0 default (omega (arith, below, length-map regions (λ (region : Region). region.extent)))
    ∙ ap (extent_at memory) (get_or-map (λ (region : Region). region.extent) regions k no_region 0 below)

-- and one extent for each region
own_length : (regions : List Region) (memory : List (List ℕ)) → length (own_of (extents_of regions) memory) ≡ length regions
own_length regions memory = length-map (extents_of regions) (λ (name : ℕ). extent_at memory name) ∙ length-map regions (λ (region : Region). region.extent)

-- one piece
pub one_put_so : (regions : List Region) (memory : List (List ℕ)) (at : ℕ) (bytes : List ℕ) → are_regions_sound regions ≡ true
    → own_of (extents_of regions) (put regions memory at bytes) ≡ put (own_regions (areas_of regions)) (own_of (extents_of regions) memory) at bytes
one_put_so regions memory at bytes sound =
    let own : List (List ℕ) = own_of (extents_of regions) memory in
    let after : List (List ℕ) = put (own_regions (areas_of regions)) own at bytes in
    let long : length after ≡ length regions = length-put (own_regions (areas_of regions)) own at bytes ∙ own_length regions memory in
    same_lists (own_of (extents_of regions) (put regions memory at bytes)) after (own_length regions (put regions memory at bytes) ∙ sym long)
    (
    λ k default below.
    let few : k < length regions = omega (arith, below, own_length regions (put regions memory at bytes)) in
    let region : Region = slice_index_or regions k no_region in
    let old : List ℕ = extent_at memory region.extent in
    own_at regions (put regions memory at bytes) k default few
    ∙ put_extent regions memory at bytes region.extent
    ∙ ap (λ (over : Option Region). extent_put at bytes over old) (real_over regions k region sound (slice_get-get_or regions k no_region few))
    ∙ same_put at bytes old k region
    ∙ ap (λ (over : Option Region). extent_put at bytes over old) (sym (own_over regions 0 k k (omega arith) few))
    ∙ ap (extent_put at bytes (region_over (own_regions (areas_of regions)) k)) (sym (own_at regions memory k [] few))
    ∙ sym (put_extent (own_regions (areas_of regions)) own at bytes k)
    ∙ get_or_default after k [] default (omega (arith, few, long))
    )

-- all pieces
pub put_so : (regions : List Region) (pieces : List Piece) (memory : List (List ℕ)) → are_regions_sound regions ≡ true
    → own_of (extents_of regions) (all_put regions pieces memory) ≡ all_put (own_regions (areas_of regions)) pieces (own_of (extents_of regions) memory)
put_so regions [] memory sound = refl
put_so regions (piece ∷ pieces) memory sound =
    put_so regions pieces (put regions memory piece.at piece.bytes) sound
    ∙ ap (all_put (own_regions (areas_of regions)) pieces) (one_put_so regions memory piece.at piece.bytes sound)
