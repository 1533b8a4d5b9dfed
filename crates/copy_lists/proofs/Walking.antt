-- A walk over a range, span after span.
use Rattle.std.proofs.Common.{◌≡◌, ℕ, ◌+◌, ◌-◌, ◌<◌, ◌≤◌, true, false, cond, ◌||◌, List, [], ◌∷◌, Some, None, refl, sym, subst, ◌∙◌, arith}
use Rattle.std.specs.Prelude.{find}
use Rattle.std.specs.List.{list_all, range_with_len}
use Rattle.std.specs.Option.{option_map}
use Rattle.std.proofs.lemmas.Bool.{or_right}
use Rattle.machine_desc.specs.declared.desc.Span.{Span}
use Rattle.machine_desc.proofs.Walking.{empty_behind, one_more, skipped}
use Rattle.copy_lists.specs.Spans.{span_end, has_address, is_spanned, is_in_spans}

has_before : (span : Span) (address : ℕ) → has_address address span ≡ true → address < span_end span
has_before span address h = grind arith

has_along : (span : Span) (address later : ℕ) → has_address address span ≡ true → address ≤ later → later < span_end span → has_address later span ≡ true
has_along span address later h low high = grind arith

-- what the first span that has an address says of those up to its end
found : (spans : List Span) (address behind : ℕ) → option_map span_end (find (has_address address) spans) ≡ Some behind
    → (address < behind) × ((later : ℕ) → address ≤ later → later < behind → is_spanned spans later ≡ true)
found [] address behind e = absurd cc
found (span ∷ spans) address behind e =
    elim (has_address address span) as (λ b. has_address address span ≡ b
    → option_map span_end (cond b (Some span) (find (has_address address) spans)) ≡ Some behind
    → (address < behind) × ((later : ℕ) → address ≤ later → later < behind → (has_address later span || is_spanned spans later) ≡ true)) [
      | true ↦ λ t e. let same : span_end span ≡ behind = cc in (
        subst (λ (m : ℕ). address < m) same (has_before span address t),
        λ later low high. rw (has_along span address later t low (subst (λ (m : ℕ). later < m) (sym same) high)) refl,
      )
      | false ↦ λ t e. let below = found spans address behind e in (below.0, λ later low high. or_right _ _ (below.1 later low high))
    ] refl e

none : (spans : List Span) (address : ℕ) → option_map span_end (find (has_address address) spans) ≡ None → is_spanned spans address ≡ false
none [] address e = refl
none (span ∷ spans) address e =
    elim (has_address address span) as (λ b. option_map span_end (cond b (Some span) (find (has_address address) spans)) ≡ None → (b || is_spanned spans address) ≡ false)
    [ true ↦ λ e. absurd cc | false ↦ λ e. none spans address e ] e

pub in_spans_behind : (spans : List Span) (next end : ℕ) → end ≤ next → is_in_spans spans next (end - next) ≡ true
unfolding is_in_spans
in_spans_behind spans next end h = empty_behind (is_spanned spans) next end h

pub in_spans_along : (spans : List Span) (next end behind : ℕ) → option_map span_end (find (has_address next) spans) ≡ Some behind
    → is_in_spans spans next (end - next) ≡ is_in_spans spans behind (end - behind)
unfolding is_in_spans
in_spans_along spans next end behind e =
    let found = found spans next behind e in
    let same : next + (behind - next) ≡ behind = let h : next < behind = found.0 in omega arith in
    subst (λ (m : ℕ). list_all (is_spanned spans) (range_with_len next (end - next)) ≡ list_all (is_spanned spans) (range_with_len m (end - m))) same
    (skipped (is_spanned spans) (behind - next) next end (λ k low high. found.1 k low (subst (λ (m : ℕ). k < m) same high)))

pub in_spans_no_more : (spans : List Span) (next end : ℕ) → next < end → option_map span_end (find (has_address next) spans) ≡ None → is_in_spans spans next (end - next) ≡ false
unfolding is_in_spans
in_spans_no_more spans next end h e = one_more (is_spanned spans) next end h ∙ rw (none spans next e) refl

pub in_spans_whole : (spans : List Span) (at size : ℕ) → is_in_spans spans at ((at + size) - at) ≡ is_in_spans spans at size
in_spans_whole spans at size =
    let same : (at + size) - at ≡ size = omega arith in
    rw same refl

pub in_spans_forward : (spans : List Span) (next behind : ℕ) → option_map span_end (find (has_address next) spans) ≡ Some behind → next < behind
in_spans_forward spans next behind e = (found spans next behind e).0

-- what a walk over a range asks for
pub ruleset walking = (in_spans_behind, in_spans_along, in_spans_no_more, in_spans_whole, in_spans_forward)
