-- What bytes leave of a memory that are put at logical addresses.
use Rattle.std.proofs.Common.{◌≡◌, ℕ, ◌+◌, ◌-◌, ◌<◌, ◌≤◌, Bool, false, cond, ◌&&◌, ltb, leb, ◌==◌, List, [], ◌∷◌, ◌++◌, length, get_or, take, drop, Option, Some, None, refl, sym, ap, ◌∙◌, ⊎_elim, arith}
use Rattle.std.specs.List.{list_any, find}
use Rattle.std.proofs.lemmas.Bool.{cases_lt, cond-true, cond-false, and_from, and_left, and_right, or_parts, le-leb, lt-ltb, lt-leb, le-ltb}
use Rattle.std.proofs.lemmas.Grind.{same_number_lists}
use Rattle.std.proofs.lemmas.List.{same_lists, length-map, length-take-le, length-drop, length-append, get_or_append_left, get_or-append_right, get_or-take, get_or-drop, get_or_past, get_or_default}
use Rattle.std.proofs.lemmas.List.FromFn.{length-map-range_with_len, get_or-map-range_with_len}
use Rattle.machine_desc.specs.declared.desc.Region.{Region}
use Rattle.ground.specs.Extents.{extent_at, written}
use Rattle.fresh_load.specs.Placed.{sizes_of, is_private_extent}
use Rattle.fresh_load.proofs.Places.{size_at}
use Rattle.copy_lists.specs.Moving.{byte_put, extent_put, region_over, put}

-- ---- one byte

put_within : (at : ℕ) (bytes : List ℕ) (address old : ℕ) → at ≤ address → address < at + length bytes → byte_put at bytes address old ≡ get_or bytes (address - at) 0
put_within at bytes address old low high = cond-true (leb at address && ltb address (at + length bytes)) _ _ (and_from _ _ (le-leb at address low) (lt-ltb address (at + length bytes) high))

pub put_before : (at : ℕ) (bytes : List ℕ) (address old : ℕ) → address < at → byte_put at bytes address old ≡ old
put_before at bytes address old low = cond-false (leb at address && ltb address (at + length bytes)) _ _ (and_left _ _ (lt-leb at address low))

pub put_behind : (at : ℕ) (bytes : List ℕ) (address old : ℕ) → at + length bytes ≤ address → byte_put at bytes address old ≡ old
put_behind at bytes address old high = cond-false (leb at address && ltb address (at + length bytes)) _ _ (and_right _ _ (le-ltb address (at + length bytes) high))

-- bytes put behind bytes
byte_on : (at : ℕ) (a b : List ℕ) (address old : ℕ) → byte_put (at + length a) b address (byte_put at a address old) ≡ byte_put at (a ++ b) address old
byte_on at a b address old =
    let all : length (a ++ b) ≡ length a + length b = length-append a b in
    let end : at + length (a ++ b) ≡ at + length a + length b = omega arith in
    ⊎_elim
    (
    λ (l : address < at).
    put_before (at + length a) b address _ (omega arith) ∙ (put_before at a address old l ∙ sym (put_before at (a ++ b) address old l))
    )
    (
    λ (l : at ≤ address).
    ⊎_elim
    (
    λ (m : address < at + length a).
    put_before (at + length a) b address _ m
    ∙ (put_within at a address old l m
    ∙ (sym (get_or_append_left a b 0 (address - at) (omega arith)) ∙ sym (put_within at (a ++ b) address old l (omega arith))))
    )
    (
    λ (m : at + length a ≤ address).
    ⊎_elim
    (
    λ (n : address < at + length a + length b).
    let place : address - (at + length a) ≡ address - at - length a = omega arith in
    put_within (at + length a) b address _ m n
    ∙ (ap (λ (k : ℕ). get_or b k 0) place
    ∙ (sym (get_or-append_right a b (length a) (address - at) 0 refl (omega arith)) ∙ sym (put_within at (a ++ b) address old l (omega arith))))
    )
    (
    λ (n : at + length a + length b ≤ address).
    put_behind (at + length a) b address _ n ∙ (put_behind at a address old m ∙ sym (put_behind at (a ++ b) address old (omega arith)))
    )
    (cases_lt address (at + length a + length b))
    )
    (cases_lt address (at + length a))
    )
    (cases_lt address at)

-- ---- one extent

pub length-extent_put : (at : ℕ) (bytes : List ℕ) (over : Option Region) (old : List ℕ) → length (extent_put at bytes over old) ≡ length old
length-extent_put at bytes None old = refl
length-extent_put at bytes (Some region) old = length-map-range_with_len (λ n. byte_put at bytes (region.logical + n) (get_or old n 0)) 0 (length old)

pub byte_of_put : (at : ℕ) (bytes : List ℕ) (region : Region) (old : List ℕ) (k : ℕ) → k < length old
    → get_or (extent_put at bytes (Some region) old) k 0 ≡ byte_put at bytes (region.logical + k) (get_or old k 0)
byte_of_put at bytes region old k below =
    let same : 0 + k ≡ k = omega arith in
    get_or-map-range_with_len (λ n. byte_put at bytes (region.logical + n) (get_or old n 0)) 0 (length old) k k 0 below same

extent_of_none : (at : ℕ) (bytes : List ℕ) (over : Option Region) → extent_put at bytes over [] ≡ []
extent_of_none at bytes None = refl
extent_of_none at bytes (Some region) = refl

extent_on : (at : ℕ) (a b : List ℕ) (over : Option Region) (old : List ℕ) → extent_put (at + length a) b over (extent_put at a over old) ≡ extent_put at (a ++ b) over old
extent_on at a b None old = refl
extent_on at a b (Some region) old =
    let first : length (extent_put at a (Some region) old) ≡ length old = length-extent_put at a (Some region) old in
    let second : length (extent_put (at + length a) b (Some region) (extent_put at a (Some region) old)) ≡ length (extent_put at a (Some region) old) = length-extent_put (at + length a) b (Some region) (extent_put at a (Some region) old) in
    same_number_lists _ _ (second ∙ (first ∙ sym (length-extent_put at (a ++ b) (Some region) old)))
    (
    λ k below.
    let small : k < length old = omega arith in
    byte_of_put (at + length a) b region (extent_put at a (Some region) old) k (omega arith)
    ∙ (ap (byte_put (at + length a) b (region.logical + k)) (byte_of_put at a region old k small)
    ∙ (byte_on at a b (region.logical + k) (get_or old k 0) ∙ sym (byte_of_put at (a ++ b) region old k small)))
    )

-- where none of the region's addresses is reached
pub extent_out : (at : ℕ) (bytes : List ℕ) (region : Region) (old : List ℕ) → ((k : ℕ) → k < length old → byte_put at bytes (region.logical + k) (get_or old k 0) ≡ get_or old k 0) → extent_put at bytes (Some region) old ≡ old
extent_out at bytes region old out =
    let all : length (extent_put at bytes (Some region) old) ≡ length old = length-extent_put at bytes (Some region) old in
    same_number_lists _ _ all (λ k below. let small : k < length old = omega arith in byte_of_put at bytes region old k small ∙ out k small)

nothing_put : (at : ℕ) (over : Option Region) (old : List ℕ) → extent_put at [] over old ≡ old
nothing_put at None old = refl
nothing_put at (Some region) old =
    extent_out at [] region old
    (
    λ k below.
    ⊎_elim (λ (l : region.logical + k < at). put_before at [] (region.logical + k) _ l) (λ (l : at ≤ region.logical + k). put_behind at [] (region.logical + k) _ (omega arith))
    (cases_lt (region.logical + k) at)
    )

-- ---- the memory

pub same_memories : (one other : List (List ℕ)) → length one ≡ length other → ((extent : ℕ) → extent_at one extent ≡ extent_at other extent) → one ≡ other
same_memories one other count each =
    same_lists one other count (λ k d below. get_or_default one k d [] below ∙ (each k ∙ sym (get_or_default other k d [] (omega (arith, count, below)))))

pub length-put : (regions : List Region) (memory : List (List ℕ)) (at : ℕ) (bytes : List ℕ) → length (put regions memory at bytes) ≡ length memory
unfolding put
length-put regions memory at bytes = length-map-range_with_len (λ extent. extent_put at bytes (region_over regions extent) (extent_at memory extent)) 0 (length memory)

put_extent_there : (regions : List Region) (memory : List (List ℕ)) (at : ℕ) (bytes : List ℕ) (extent : ℕ) → extent < length memory
    → extent_at (put regions memory at bytes) extent ≡ extent_put at bytes (region_over regions extent) (extent_at memory extent)
unfolding put
put_extent_there regions memory at bytes extent below =
    let same : 0 + extent ≡ extent = omega arith in
    get_or-map-range_with_len (λ extent. extent_put at bytes (region_over regions extent) (extent_at memory extent)) 0 (length memory) extent extent [] below same

pub put_extent : (regions : List Region) (memory : List (List ℕ)) (at : ℕ) (bytes : List ℕ) (extent : ℕ)
    → extent_at (put regions memory at bytes) extent ≡ extent_put at bytes (region_over regions extent) (extent_at memory extent)
put_extent regions memory at bytes extent =
    ⊎_elim (λ (l : extent < length memory). put_extent_there regions memory at bytes extent l)
    (
    λ (l : length memory ≤ extent).
    get_or_past (put regions memory at bytes) extent [] (omega (arith, l, length-put regions memory at bytes))
    ∙ sym (ap (extent_put at bytes (region_over regions extent)) (get_or_past memory extent [] l) ∙ extent_of_none at bytes (region_over regions extent))
    )
    (cases_lt extent (length memory))

-- no size changes
pub put_sizes : (regions : List Region) (memory : List (List ℕ)) (at : ℕ) (bytes : List ℕ) → sizes_of (put regions memory at bytes) ≡ sizes_of memory
put_sizes regions memory at bytes =
    same_number_lists _ _ (length-map (put regions memory at bytes) length ∙ (length-put regions memory at bytes ∙ sym (length-map memory length)))
    (
    λ k below.
    size_at (put regions memory at bytes) k
    ∙ (ap length (put_extent regions memory at bytes k)
    ∙ (length-extent_put at bytes (region_over regions k) (extent_at memory k) ∙ sym (size_at memory k)))
    )

none_found : {X : Type 0} (test : X → Bool) (xs : List X) → list_any test xs ≡ false → find test xs ≡ None
none_found test [] h = refl
none_found test (x ∷ xs) h =
    let parts = or_parts (test x) (list_any test xs) h in
    ap (λ (b : Bool). cond b (Some x) (find test xs)) parts.0 ∙ none_found test xs parts.1

-- extents that are none of a private region stay
pub put_others : (regions : List Region) (memory : List (List ℕ)) (at : ℕ) (bytes : List ℕ) (extent : ℕ) → is_private_extent regions extent ≡ false
    → extent_at (put regions memory at bytes) extent ≡ extent_at memory extent
put_others regions memory at bytes extent h =
    put_extent regions memory at bytes extent
    ∙ ap (λ (over : Option Region). extent_put at bytes over (extent_at memory extent)) (none_found (λ (region : Region). region.private && region.extent == extent) regions h)

-- bytes put behind bytes are all put at once
pub put_on : (regions : List Region) (memory : List (List ℕ)) (at : ℕ) (a b : List ℕ) → put regions (put regions memory at a) (at + length a) b ≡ put regions memory at (a ++ b)
put_on regions memory at a b =
    same_memories _ _ (length-put regions (put regions memory at a) (at + length a) b ∙ (length-put regions memory at a ∙ sym (length-put regions memory at (a ++ b))))
    (
    λ extent.
    put_extent regions (put regions memory at a) (at + length a) b extent
    ∙ (ap (extent_put (at + length a) b (region_over regions extent)) (put_extent regions memory at a extent)
    ∙ (extent_on at a b (region_over regions extent) (extent_at memory extent) ∙ sym (put_extent regions memory at (a ++ b) extent)))
    )

pub put_none : (regions : List Region) (memory : List (List ℕ)) (at : ℕ) → put regions memory at [] ≡ memory
put_none regions memory at =
    same_memories _ _ (length-put regions memory at [])
    (λ extent. put_extent regions memory at [] extent ∙ nothing_put at (region_over regions extent) (extent_at memory extent))

-- ---- one write into a region

pub length-written : (at : ℕ) (bytes old : List ℕ) → at + length bytes ≤ length old → length (written at bytes old) ≡ length old
length-written at bytes old h =
    let front : length (take at old) ≡ at = length-take-le at old (omega arith) in
    let back : length (drop (at + length bytes) old) ≡ length old - (at + length bytes) = length-drop (at + length bytes) old in
    let inner : length (bytes ++ drop (at + length bytes) old) ≡ length bytes + length (drop (at + length bytes) old) = length-append bytes (drop (at + length bytes) old) in
    let all : length (written at bytes old) ≡ length (take at old) + length (bytes ++ drop (at + length bytes) old) = length-append (take at old) _ in
    omega arith

written_before : (at k : ℕ) (bytes old : List ℕ) → at ≤ length old → k < at → get_or (written at bytes old) k 0 ≡ get_or old k 0
written_before at k bytes old h low =
    let front : length (take at old) ≡ at = length-take-le at old h in
    get_or_append_left (take at old) _ 0 k (omega arith) ∙ get_or-take at old k 0 low

written_from : (at k : ℕ) (bytes old : List ℕ) → at ≤ length old → at ≤ k → get_or (written at bytes old) k 0 ≡ get_or (bytes ++ drop (at + length bytes) old) (k - at) 0
written_from at k bytes old h low = get_or-append_right (take at old) _ at k 0 (length-take-le at old h) low

written_within : (at k : ℕ) (bytes old : List ℕ) → at ≤ length old → at ≤ k → k < at + length bytes → get_or (written at bytes old) k 0 ≡ get_or bytes (k - at) 0
written_within at k bytes old h low high = written_from at k bytes old h low ∙ get_or_append_left bytes _ 0 (k - at) (omega arith)

written_behind : (at k : ℕ) (bytes old : List ℕ) → at + length bytes ≤ length old → at + length bytes ≤ k → get_or (written at bytes old) k 0 ≡ get_or old k 0
written_behind at k bytes old h high =
    let same : at + length bytes + (k - at - length bytes) ≡ k = omega arith in
    written_from at k bytes old (omega arith) (omega arith)
    ∙ (get_or-append_right bytes _ (length bytes) (k - at) 0 refl (omega arith)
    ∙ (get_or-drop (at + length bytes) old (k - at - length bytes) 0 ∙ ap (λ (n : ℕ). get_or old n 0) same))

-- bytes written at an offset of a region's extent are put at its address
pub written_put : (logical : ℕ) (bytes : List ℕ) (region : Region) (old : List ℕ) → region.logical ≤ logical → logical + length bytes ≤ region.logical + length old
    → written (logical - region.logical) bytes old ≡ extent_put logical bytes (Some region) old
written_put logical bytes region old low fits =
    let room : (logical - region.logical) + length bytes ≤ length old = omega arith in
    let size : length (written (logical - region.logical) bytes old) ≡ length old = length-written (logical - region.logical) bytes old room in
    same_number_lists _ _ (size ∙ sym (length-extent_put logical bytes (Some region) old))
    (
    λ k below.
    let small : k < length old = omega arith in
    ⊎_elim
    (
    λ (l : k < logical - region.logical).
    written_before (logical - region.logical) k bytes old (omega arith) l ∙ sym (put_before logical bytes (region.logical + k) (get_or old k 0) (omega arith))
    )
    (
    λ (l : logical - region.logical ≤ k).
    ⊎_elim
    (
    λ (m : k < (logical - region.logical) + length bytes).
    let place : k - (logical - region.logical) ≡ (region.logical + k) - logical = omega arith in
    written_within (logical - region.logical) k bytes old (omega arith) l m
    ∙ (ap (λ (n : ℕ). get_or bytes n 0) place ∙ sym (put_within logical bytes (region.logical + k) (get_or old k 0) (omega arith) (omega arith)))
    )
    (
    λ (m : (logical - region.logical) + length bytes ≤ k).
    written_behind (logical - region.logical) k bytes old room m ∙ sym (put_behind logical bytes (region.logical + k) (get_or old k 0) (omega arith))
    )
    (cases_lt k ((logical - region.logical) + length bytes))
    )
    (cases_lt k (logical - region.logical))
    ∙ sym (byte_of_put logical bytes region old k small)
    )
