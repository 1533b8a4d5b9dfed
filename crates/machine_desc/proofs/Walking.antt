-- A test of all addresses of a range, part after part.
use Rattle.std.proofs.Common.{◌≡◌, ℕ, zero, suc, ◌+◌, ◌-◌, ◌<◌, ◌≤◌, Bool, true, false, cond, ltb, ◌&&◌, ◌||◌, List, [], ◌∷◌, Some, None, refl, sym, subst, ◌∙◌, add-zero, arith}
use Rattle.std.specs.Prelude.{find}
use Rattle.std.specs.List.{list_all, range_with_len}
use Rattle.std.specs.Option.{option_map}
use Rattle.machine_desc.specs.declared.desc.Region.{Region}
use Rattle.machine_desc.specs.Private.{region_end, holds_privately, is_private_address, is_private_range}

-- ---- any test

pub empty_behind : (test : ℕ → Bool) (next end : ℕ) → end ≤ next → list_all test (range_with_len next (end - next)) ≡ true
empty_behind test next end h =
    let none : end - next ≡ 0 = omega arith in
    rw none refl

pub one_more : (test : ℕ → Bool) (next end : ℕ) → next < end
    → list_all test (range_with_len next (end - next)) ≡ (test next && list_all test (range_with_len (next + 1) (end - (next + 1))))
one_more test next end h =
    let more : end - next ≡ suc (end - (next + 1)) = omega arith in
    rw more refl

-- addresses that pass may be left out
pub skipped : (test : ℕ → Bool) (n next end : ℕ) → ((k : ℕ) → next ≤ k → k < next + n → test k ≡ true)
    → list_all test (range_with_len next (end - next)) ≡ list_all test (range_with_len (next + n) (end - (next + n)))
skipped test zero next end all = rw add-zero refl
skipped test (suc n) next end all =
    let here : test next ≡ true = all next (omega arith) (omega arith) in
    let rest : list_all test (range_with_len (next + 1) (end - (next + 1))) ≡ list_all test (range_with_len ((next + 1) + n) (end - ((next + 1) + n))) =
    skipped test n (next + 1) end (λ k low high. all k (omega arith) (omega arith)) in
    let same : (next + 1) + n ≡ next + suc n = omega arith in
    let there : list_all test (range_with_len (next + 1) (end - (next + 1))) ≡ list_all test (range_with_len (next + suc n) (end - (next + suc n))) =
    subst (λ (m : ℕ). list_all test (range_with_len (next + 1) (end - (next + 1))) ≡ list_all test (range_with_len m (end - m))) same rest in
    elim (ltb next end) as (λ b. ltb next end ≡ b → list_all test (range_with_len next (end - next)) ≡ list_all test (range_with_len (next + suc n) (end - (next + suc n)))) [
      | true ↦ λ t. let h : next < end = grind arith in one_more test next end h ∙ rw here there
      | false ↦ λ t. let h : end ≤ next = grind arith in empty_behind test next end h ∙ sym (empty_behind test (next + suc n) end (omega arith))
    ] refl

-- ---- private addresses

holds_before : (region : Region) (address : ℕ) → holds_privately address region ≡ true → address < region_end region
holds_before region address h = grind arith

holds_along : (region : Region) (address later : ℕ) → holds_privately address region ≡ true → address ≤ later → later < region_end region
    → holds_privately later region ≡ true
holds_along region address later h low high = grind arith

or_true : (b : Bool) → (b || true) ≡ true
or_true true = refl
or_true false = refl

pub found_private : (regions : List Region) (address behind : ℕ) → option_map region_end (find (holds_privately address) regions) ≡ Some behind
    → (address < behind) × ((later : ℕ) → address ≤ later → later < behind → is_private_address regions later ≡ true)
found_private [] address behind e = absurd cc
found_private (region ∷ regions) address behind e =
    elim (holds_privately address region) as (λ b. holds_privately address region ≡ b
    → option_map region_end (cond b (Some region) (find (holds_privately address) regions)) ≡ Some behind
    → (address < behind) × ((later : ℕ) → address ≤ later → later < behind → (holds_privately later region || is_private_address regions later) ≡ true)) [
      | true ↦ λ t e. let same : region_end region ≡ behind = cc in (
        subst (λ (m : ℕ). address < m) same (holds_before region address t),
        λ later low high. rw (holds_along region address later t low (subst (λ (m : ℕ). later < m) (sym same) high)) refl,
      )
      | false ↦ λ t e. let below = found_private regions address behind e in
          (below.0, λ later low high. rw (below.1 later low high) (or_true _))
    ] refl e

pub none_private : (regions : List Region) (address : ℕ) → option_map region_end (find (holds_privately address) regions) ≡ None
    → is_private_address regions address ≡ false
none_private [] address e = refl
none_private (region ∷ regions) address e =
    elim (holds_privately address region) as (λ b. option_map region_end (cond b (Some region) (find (holds_privately address) regions)) ≡ None
    → (b || is_private_address regions address) ≡ false)
    [ true ↦ λ e. absurd cc | false ↦ λ e. none_private regions address e ] e

-- ---- private ranges

pub private_behind : (regions : List Region) (next end : ℕ) → end ≤ next → is_private_range regions next (end - next) ≡ true
unfolding is_private_range
private_behind regions next end h = empty_behind (is_private_address regions) next end h

pub private_along : (regions : List Region) (next end behind : ℕ) → option_map region_end (find (holds_privately next) regions) ≡ Some behind
    → is_private_range regions next (end - next) ≡ is_private_range regions behind (end - behind)
unfolding is_private_range
private_along regions next end behind e =
    let found = found_private regions next behind e in
    let same : next + (behind - next) ≡ behind = let h : next < behind = found.0 in omega arith in
    subst (λ (m : ℕ). list_all (is_private_address regions) (range_with_len next (end - next)) ≡ list_all (is_private_address regions) (range_with_len m (end - m))) same
    (skipped (is_private_address regions) (behind - next) next end (λ k low high. found.1 k low (subst (λ (m : ℕ). k < m) same high)))

pub private_no_more : (regions : List Region) (next end : ℕ) → next < end → option_map region_end (find (holds_privately next) regions) ≡ None
    → is_private_range regions next (end - next) ≡ false
unfolding is_private_range
private_no_more regions next end h e = one_more (is_private_address regions) next end h ∙ rw (none_private regions next e) refl

pub private_whole : (regions : List Region) (at size : ℕ) → is_private_range regions at ((at + size) - at) ≡ is_private_range regions at size
private_whole regions at size =
    let same : (at + size) - at ≡ size = omega arith in
    rw same refl

pub private_forward : (regions : List Region) (next behind : ℕ) → option_map region_end (find (holds_privately next) regions) ≡ Some behind → next < behind
private_forward regions next behind e = (found_private regions next behind e).0

-- what a walk over a range asks for
pub ruleset walking = (private_behind, private_along, private_no_more, private_whole, private_forward)

-- what a walk over numbers asks for
pub ruleset stepping = (one_more, empty_behind)
