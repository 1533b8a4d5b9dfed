-- What the definitions mean.
use Rattle.std.proofs.Common.{◌≡◌, ℕ, zero, suc, ◌+◌, ◌-◌, ◌<◌, ◌≤◌, Bool, true, false, cond, ◌&&◌, ◌||◌, ltb, leb, ◌==◌, List, [], ◌∷◌, length, map, filter, get_or, Option, refl, sym, ap, ◌∙◌, arith}
use Rattle.std.specs.List.{list_all, range_with_len}
use Rattle.std.specs.Option.{option_map_or}
use Rattle.std.proofs.lemmas.Bool.{and_parts, eqb-true}
use Rattle.machine_desc.specs.declared.desc.Region.{Region}
use Rattle.machine_desc.specs.declared.desc.Span.{Span}
use Rattle.machine_desc.specs.Joined.{span_of, same_spans, private_spans_of, are_private_spans}
use Rattle.machine_desc.specs.Private.{is_private_address, is_private_range}
use Rattle.machine_desc.specs.Sound.{are_regions_sound}
use Rattle.memory_areas.specs.declared.place.Place.{Place}
use Rattle.memory_areas.proofs.Found.{all_at}
use Rattle.memory_areas.proofs.Places.{has_both}
use Rattle.ground.specs.Extents.{extent_at}
use Rattle.fresh_load.specs.Placed.{is_placed}
use Rattle.fresh_load.proofs.Places.{there}
use Rattle.copy_lists.specs.Spans.{has_address, is_spanned, is_in_spans}
use Rattle.copy_lists.specs.Moving.{byte_of, byte_in, byte_put, extent_put, put}
use Rattle.copy_lists.specs.Laws.{SpansArePrivate, BytesPutAreRead, SourceStays}
use Rattle.copy_lists.proofs.Putting.{put_extent, byte_of_put}
use Rattle.copy_lists.proofs.Runs.{IsHeld, held_first, held_place, over_it, bytes_stay}

-- ---- spans

same_address : (span : Span) (region : Region) (address : ℕ) → span.at ≡ region.logical → span.size ≡ region.size
    → has_address address span ≡ (leb region.logical address && ltb address (region.logical + region.size))
same_address span region address at size = rw (at, size) refl

-- a region's own span, and those behind it
first_address : (all : List Span) (region : Region) (regions : List Region) (others : List Span) (address : ℕ)
    → ((rest : List Span) → same_spans rest others ≡ true → is_spanned rest address ≡ is_private_address regions address) → same_spans all (span_of region ∷ others) ≡ true
    → is_spanned all address ≡ ((leb region.logical address && ltb address (region.logical + region.size)) || is_private_address regions address)
first_address [] region regions others address same h = absurd cc
first_address (span ∷ rest) region regions others address same h =
    let parts = and_parts (span.at == region.logical && span.size == region.size) _ h in
    let its = and_parts (span.at == region.logical) (span.size == region.size) parts.0 in
    let here : has_address address span ≡ (leb region.logical address && ltb address (region.logical + region.size)) = same_address span region address (eqb-true span.at region.logical its.0) (eqb-true span.size region.size its.1) in
    rw (here, same rest parts.1) refl

-- spans of private regions have the addresses that these have
same_addresses : (regions : List Region) (address : ℕ) (spans : List Span) → same_spans spans (map span_of (filter (λ (region : Region). region.private) regions)) ≡ true
    → is_spanned spans address ≡ is_private_address regions address
same_addresses [] address [] h = refl
same_addresses [] address (span ∷ spans) h = absurd cc
same_addresses (region ∷ regions) address spans h =
    elim region.private as (λ b. same_spans spans (map span_of (cond b (region ∷ filter (λ (region : Region). region.private) regions) (filter (λ (region : Region). region.private) regions))) ≡ true
    → is_spanned spans address ≡ ((b && leb region.logical address && ltb address (region.logical + region.size)) || is_private_address regions address)) [
      | true ↦ λ h. first_address spans region regions (map span_of (filter (λ (region : Region). region.private) regions)) address (same_addresses regions address) h
      | false ↦ λ h. same_addresses regions address spans h
    ] h

same_tests : (f g : ℕ → Bool) (at size : ℕ) → ((n : ℕ) → f n ≡ g n) → list_all f (range_with_len at size) ≡ list_all g (range_with_len at size)
same_tests f g at zero same = refl
same_tests f g at (suc size) same = rw (same at, same_tests f g (at + 1) size same) refl

pub spans_are_private : SpansArePrivate
unfolding is_in_spans is_private_range are_private_spans private_spans_of
spans_are_private spans regions at size h = same_tests (is_spanned spans) (is_private_address regions) at size (λ n. same_addresses regions n spans h)

-- ---- bytes that are put

-- by the region that has the address
put_read : (regions : List Region) (memory : List (List ℕ)) (at : ℕ) (bytes : List ℕ) (address : ℕ) → are_regions_sound regions ≡ true → (h : IsHeld regions address)
    → address - h.region.logical < length (extent_at memory h.region.extent) → h.region.logical ≤ address
    → byte_in regions (put regions memory at bytes) address ≡ byte_put at bytes address (byte_in regions memory address)
unfolding byte_in
put_read regions memory at bytes address sound h below low =
    let region : Region = h.region in
    let offset : ℕ = address - region.logical in
    let old : List ℕ = extent_at memory region.extent in
    let place = held_place regions address sound h in
    let back : region.logical + (address - region.logical) ≡ address = omega arith in
    ap (λ (o : Option Place). option_map_or (byte_of (put regions memory at bytes)) o 0) place
    ∙ (ap (λ (extent : List ℕ). get_or extent offset 0) (put_extent regions memory at bytes region.extent)
    ∙ (ap (λ (over : Option Region). get_or (extent_put at bytes over old) offset 0) (over_it regions h.number region sound h.it.there h.private)
    ∙ (byte_of_put at bytes region old offset below
    ∙ (ap (λ (n : ℕ). byte_put at bytes n (get_or old offset 0)) back
    ∙ ap (λ (o : Option Place). byte_put at bytes address (option_map_or (byte_of memory) o 0)) (sym place)))))

pub bytes_put_are_read : BytesPutAreRead
bytes_put_are_read regions memory at bytes address sound placed private =
    let h = held_first regions address 1 private (omega arith) in
    let region : Region = h.region in
    let size : length (extent_at memory region.extent) ≡ region.size = (there memory region (all_at (is_placed memory) regions h.number region placed h.it.there)).size in
    let both = has_both address region h.it.has in
    put_read regions memory at bytes address sound h (omega (arith, size, both.0, both.1)) both.0

pub source_stays : SourceStays
source_stays from to memory at bytes address size fit private = bytes_stay from to memory at bytes address size fit.from_sound fit.apart private
