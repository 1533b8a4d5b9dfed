-- Extents and private ranges, place after place.
use Rattle.std.proofs.Common.{◌≡◌, ℕ, zero, suc, ◌+◌, ◌<◌, ◌≤◌, true, false, cond, ◌&&◌, ◌==◌, Some, None, List, [], ◌∷◌, ◌++◌, length, get_or, take, drop, map, filter, refl, ap, subst, ◌∙◌, add-one, arith}
use Rattle.std.proofs.Math.Seq.{drop-cons}
use Rattle.std.proofs.lemmas.List.{drop_all}
use Rattle.machine_desc.specs.declared.desc.Region.{Region}
use Rattle.machine_desc.specs.declared.desc.Span.{Span}
use Rattle.machine_desc.specs.Joined.{extent_spans, span_of, private_spans_of, are_private_spans, same_spans, has_span, behind_span}

-- ---- extents

abbrev pub span_at : List ℕ → List ℕ → ℕ → Span
span_at reals sizes i = record { at = get_or reals i 0; size = get_or sizes i 0 }

pub rest_of_spans : (reals sizes : List ℕ) (i : ℕ) → i < length reals → i < length sizes
    → extent_spans (drop i reals) (drop i sizes) ≡ span_at reals sizes i ∷ extent_spans (drop (i + 1) reals) (drop (i + 1) sizes)
rest_of_spans reals sizes i h k = rw (add-one, drop-cons reals i 0 h, drop-cons sizes i 0 k) refl

front_of : (reals sizes : List ℕ) (i : ℕ) → i < length reals → i < length sizes
    → extent_spans (take (suc i) reals) (take (suc i) sizes) ≡ extent_spans (take i reals) (take i sizes) ++ span_at reals sizes i ∷ []
front_of [] sizes i h k = absurd (omega arith)
front_of (real ∷ reals) [] i h k = absurd (omega arith)
front_of (real ∷ reals) (size ∷ sizes) zero h k = refl
front_of (real ∷ reals) (size ∷ sizes) (suc i) h k =
    let here : Span = record { at = real; size = size } in
    ap (λ (spans : List Span). here ∷ spans) (front_of reals sizes i (omega arith) (omega arith))

pub front_of_spans : (reals sizes : List ℕ) (i : ℕ) → i < length reals → i < length sizes
    → extent_spans (take (i + 1) reals) (take (i + 1) sizes) ≡ extent_spans (take i reals) (take i sizes) ++ span_at reals sizes i ∷ []
front_of_spans reals sizes i h k = rw (add-one) (front_of reals sizes i h k)

pub ruleset extents = (rest_of_spans, front_of_spans)

-- ---- private ranges

same_at : (spans : List Span) (n : ℕ) (region : Region) (rest : List Span)
    → same_spans (drop n spans) (span_of region ∷ rest) ≡ (has_span spans n region && same_spans (drop (suc n) spans) rest)
same_at [] zero region rest = refl
same_at [] (suc n) region rest = refl
same_at (span ∷ spans) zero region rest = refl
same_at (span ∷ spans) (suc n) region rest = same_at spans n region rest

same_here : (spans : List Span) (n : ℕ) (region : Region) (rest : List Span)
    → same_spans (drop n spans) (span_of region ∷ rest) ≡ (has_span spans n region && same_spans (drop (n + 1) spans) rest)
same_here spans n region rest = rw (add-one) (same_at spans n region rest)

span_within : (spans : List Span) (n : ℕ) (region : Region) → has_span spans n region ≡ true → n < length spans
span_within [] zero region h = absurd cc
span_within [] (suc n) region h = absurd cc
span_within (span ∷ spans) zero region h = omega arith
span_within (span ∷ spans) (suc n) region h = let below = span_within spans n region h in omega arith

none_left : (n : ℕ) → false ≡ (0 == suc n)
none_left n = grind arith

one_less : (m n : ℕ) → (m == n) ≡ (suc m == suc n)
one_less m n = grind arith

same_end : (spans : List Span) (n : ℕ) → n ≤ length spans → same_spans (drop n spans) [] ≡ (n == length spans)
same_end [] zero h = refl
same_end [] (suc n) h = absurd (omega arith)
same_end (span ∷ spans) zero h = none_left (length spans)
same_end (span ∷ spans) (suc n) h = same_end spans n (omega arith) ∙ one_less n (length spans)

pub spans_end : (spans : List Span) (n : ℕ) → n ≤ length spans → are_private_spans (drop n spans) [] ≡ (n == length spans)
unfolding are_private_spans private_spans_of
spans_end spans n h = same_end spans n h

pub spans_along : (spans : List Span) (n behind : ℕ) (region : Region) (regions : List Region) → behind_span spans n region ≡ Some behind
    → are_private_spans (drop n spans) (region ∷ regions) ≡ are_private_spans (drop behind spans) regions
unfolding are_private_spans private_spans_of behind_span
spans_along spans n behind region regions =
    elim region.private as (λ b. cond b (cond (has_span spans n region) (Some (n + 1)) None) (Some n) ≡ Some behind
    → same_spans (drop n spans) (map span_of (cond b (region ∷ filter (λ (region : Region). region.private) regions) (filter (λ (region : Region). region.private) regions)))
    ≡ same_spans (drop behind spans) (map span_of (filter (λ (region : Region). region.private) regions))) [
      | true ↦ λ e. same_here spans n region _ ∙
          elim (has_span spans n region) as (λ b. cond b (Some (n + 1)) None ≡ Some behind
          → (b && same_spans (drop (n + 1) spans) (map span_of (filter (λ (region : Region). region.private) regions)))
          ≡ same_spans (drop behind spans) (map span_of (filter (λ (region : Region). region.private) regions)))
          [ true ↦ λ e. let same : n + 1 ≡ behind = cc in rw same refl | false ↦ λ e. absurd cc ] e
      | false ↦ λ e. let same : n ≡ behind = cc in rw same refl
    ]

pub spans_stop : (spans : List Span) (n : ℕ) (region : Region) (regions : List Region) → behind_span spans n region ≡ None
    → are_private_spans (drop n spans) (region ∷ regions) ≡ false
unfolding are_private_spans private_spans_of behind_span
spans_stop spans n region regions =
    elim region.private as (λ b. cond b (cond (has_span spans n region) (Some (n + 1)) None) (Some n) ≡ None
    → same_spans (drop n spans) (map span_of (cond b (region ∷ filter (λ (region : Region). region.private) regions) (filter (λ (region : Region). region.private) regions))) ≡ false) [
      | true ↦ λ e. same_here spans n region _ ∙
          elim (has_span spans n region) as (λ b. cond b (Some (n + 1)) None ≡ None
          → (b && same_spans (drop (n + 1) spans) (map span_of (filter (λ (region : Region). region.private) regions))) ≡ false)
          [ true ↦ λ e. absurd cc | false ↦ λ e. refl ] e
      | false ↦ λ e. absurd cc
    ]

pub spans_within : (spans : List Span) (n behind : ℕ) (region : Region) → behind_span spans n region ≡ Some behind → n ≤ length spans → behind ≤ length spans
unfolding behind_span
spans_within spans n behind region =
    elim region.private as (λ b. cond b (cond (has_span spans n region) (Some (n + 1)) None) (Some n) ≡ Some behind → n ≤ length spans → behind ≤ length spans) [
      | true ↦ λ e h.
          elim (has_span spans n region) as (λ b. has_span spans n region ≡ b → cond b (Some (n + 1)) None ≡ Some behind → behind ≤ length spans)
          [ true ↦ λ t e. let same : n + 1 ≡ behind = cc in let low = span_within spans n region t in omega arith | false ↦ λ t e. absurd cc ] refl e
      | false ↦ λ e h. let same : n ≡ behind = cc in subst (λ (m : ℕ). m ≤ length spans) same h
    ]

pub places_end : (spans : List Span) (n : ℕ) (regions : List Region) (i : ℕ) → length regions ≤ i → n ≤ length spans
    → are_private_spans (drop n spans) (drop i regions) ≡ (n == length spans)
places_end spans n regions i low h =
    let none : drop i regions ≡ [] = drop_all i regions low in
    rw none (spans_end spans n h)

pub places_along : (spans : List Span) (n behind : ℕ) (regions : List Region) (i : ℕ) (d : Region) → i < length regions
    → behind_span spans n (get_or regions i d) ≡ Some behind
    → are_private_spans (drop n spans) (drop i regions) ≡ are_private_spans (drop behind spans) (drop (i + 1) regions)
places_along spans n behind regions i d h e =
    rw (add-one, drop-cons regions i d h) (spans_along spans n behind (get_or regions i d) (drop (suc i) regions) e)

pub places_stop : (spans : List Span) (n : ℕ) (regions : List Region) (i : ℕ) (d : Region) → i < length regions
    → behind_span spans n (get_or regions i d) ≡ None → are_private_spans (drop n spans) (drop i regions) ≡ false
places_stop spans n regions i d h e = rw (drop-cons regions i d h) (spans_stop spans n (get_or regions i d) (drop (suc i) regions) e)

pub ruleset private = (places_end, places_along, places_stop, spans_within)
