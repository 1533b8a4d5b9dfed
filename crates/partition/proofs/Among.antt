-- The levels of some numbers alone: handles that have none of them are passed over.
use Rattle.std.proofs.Common.{◌≡◌, ◌≢◌, ℕ, zero, suc, ◌+◌, ◌-◌, ◌*◌, ◌^◌, ◌<◌, ◌≤◌, ◌==◌, max, min, Bool, true, false, ◌&&◌, bit_and, bit_or, List, [], ◌∷◌, length, drop, slice_index_or, refl, sym, ap, subst, ◌∙◌, ◌⊎◌, inl, inr, arith}
use Rattle.std.specs.Int.{w128, bit_at, bit_not, trailing_zeros}
use Rattle.std.specs.Int.Bits.{and_zero_l}
use Rattle.std.specs.List.{flat_map}
use Rattle.std.proofs.lemmas.Bool.{and_parts, eqb-true}
use Rattle.std.proofs.lemmas.Nat.{and_comm, and_le_l}
use Rattle.std.proofs.lemmas.List.{drop_all}
use Rattle.std.proofs.lemmas.Nat.Bits.{bit_at_and, bit_at_or, bit_at-zero, bit_at-lt, bit_at-pow_other, bit_at_above, and_pow, same_from_bits}
use Rattle.machine_desc.specs.declared.desc.Desc.{Desc}
use Rattle.machine_desc.specs.declared.desc.Port.{Port}
use Rattle.machine_desc.specs.declared.desc.Port.TheVariants as described
use Rattle.machine_desc.specs.Sound.{interrupts_of, counts_up, IsSound}
use Rattle.vpic.specs.Numbers.{has, without_number}
use Rattle.vpic.proofs.Bits.{taken_other, low_free}
use Rattle.partition.specs.Port.{End, end_at}
use Rattle.partition.specs.Interrupts.{only_if, level_of, levels_from, without_those_of, lowest_place, HasNumbersBelow}
use Rattle.partition.proofs.Levels.{union_along, none_union, union_none, from_drop, counts_on, here, counted}

-- ---- sets cut by a set

pub cut_union : (a b s : ℕ) → bit_and (bit_or a b) s ≡ bit_or (bit_and a s) (bit_and b s)
cut_union a b s = same_from_bits _ _ (λ i.
    bit_at_and (bit_or a b) s i ∙ ap (λ x. min x (bit_at s i)) (bit_at_or a b i) ∙ spread (bit_at a i) (bit_at b i) (bit_at s i)
    ∙ sym (bit_at_or (bit_and a s) (bit_and b s) i ∙ ap (λ x. max x (bit_at (bit_and b s) i)) (bit_at_and a s i) ∙ ap (max (min (bit_at a i) (bit_at s i))) (bit_at_and b s i)))
  where
    spread : (x y z : ℕ) → min (max x y) z ≡ max (min x z) (min y z)
    spread x y z = omega arith

-- two sets with no common number
apart : (a s : ℕ) → ((i : ℕ) → (bit_at a i ≡ 0) ⊎ (bit_at s i ≡ 0)) → bit_and a s ≡ 0
apart a s each = same_from_bits _ _ (λ i. bit_at_and a s i ∙ elim (each i) [ inl none ↦ omega (arith, none) | inr none ↦ omega (arith, none) ] ∙ sym (bit_at-zero i))

cut_only : (up : Bool) (n s : ℕ) → bit_and (only_if up n) s ≡ only_if (has s n && up) n
cut_only false n s = and_zero_l s ∙ by (has s n)
  where
    by : (b : Bool) → 0 ≡ only_if (b && false) n
    by true = refl
    by false = refl
cut_only true n s = and_comm (2 ^ n) s ∙ and_pow s n ∙ by (bit_at s n) (bit_at-lt s n)
  where
    by : (b : ℕ) → b < 2 → b * 2 ^ n ≡ only_if ((b == 1) && true) n
    by zero e = omega arith
    by (suc zero) e = omega arith
    by (suc (suc b)) e = absurd (omega (arith, e))

pub channel_among : (s rx tx : ℕ) (come room : Bool)
    → bit_and (bit_or (only_if come rx) (only_if room tx)) s ≡ bit_or (only_if (has s rx && come) rx) (only_if (has s tx && room) tx)
channel_among s rx tx come room =
    cut_union (only_if come rx) (only_if room tx) s ∙ ap (λ x. bit_or x (bit_and (only_if room tx) s)) (cut_only come rx s) ∙ ap (bit_or (only_if (has s rx && come) rx)) (cut_only room tx s)

-- ---- which numbers the levels of a handle have

only_other : (up : Bool) (n i : ℕ) → i ≢ n → bit_at (only_if up n) i ≡ 0
only_other true n i other = bit_at-pow_other n i other
only_other false n i other = bit_at-zero i

two_others : (come room : Bool) (rx tx i : ℕ) → i ≢ rx → i ≢ tx → bit_at (bit_or (only_if come rx) (only_if room tx)) i ≡ 0
two_others come room rx tx i e f = bit_at_or (only_if come rx) (only_if room tx) i ∙ omega (arith, only_other come rx i e, only_other room tx i f)

level_above : (most i : ℕ) (port : Port) (it : End) → HasNumbersBelow most port → most ≤ i → bit_at (level_of port it) i ≡ 0
level_above most i (described.Channel rx tx) it below past = two_others _ _ rx tx i (λ e. omega (arith, e, below.0, past)) (λ e. omega (arith, e, below.1, past))
level_above most i described.Send it below past = bit_at-zero i
level_above most i (described.Receive irq) it below past = bit_at-zero i
level_above most i (described.Manage part held private) it below past = bit_at-zero i

level_below : (next i : ℕ) (port : Port) (it : End) → counts_up next (interrupts_of port) ≡ true → i < next → bit_at (level_of port it) i ≡ 0
level_below next i (described.Channel rx tx) it h small =
    let parts = and_parts (rx == next) (tx == next + 1 && true) h in
    let later = and_parts (tx == next + 1) true parts.1 in
    let rx_is : rx ≡ next = eqb-true rx next parts.0 in
    let tx_is : tx ≡ next + 1 = eqb-true tx (next + 1) later.0 in
    two_others _ _ rx tx i (λ e. omega (arith, e, small, rx_is)) (λ e. omega (arith, e, small, tx_is))
level_below next i described.Send it h small = bit_at-zero i
level_below next i (described.Receive irq) it h small = bit_at-zero i
level_below next i (described.Manage part held private) it h small = bit_at-zero i

-- ---- the numbers of later handles

low_clear : (next handle : ℕ) (ports : List Port) (ends : List End) → counts_up next (flat_map interrupts_of ports) ≡ true → (i : ℕ) → i < next
    → bit_at (levels_from handle ports ends) i ≡ 0
low_clear next handle [] ends h i small = bit_at-zero i
low_clear next handle (port ∷ ports) ends h i small =
    let counts = counts_on next port ports h in
    bit_at_or (level_of port (end_at ends handle)) (levels_from (handle + 1) ports ends) i
    ∙ omega (arith, level_below next i port (end_at ends handle) counts.first small, low_clear (next + length (interrupts_of port)) (handle + 1) ports ends counts.rest i (omega (arith, small)))

-- a bound of the numbers of a handle that the levels of the handles behind it don't reach down to
pub record Parted (port : Port) (rest : ℕ) : Type 0 where
  pub bound : ℕ
  pub below : HasNumbersBelow bound port
  pub above : (i : ℕ) → i < bound → bit_at rest i ≡ 0

parted : (next k handle : ℕ) (ports : List Port) (ends : List End) (d : Port) → counts_up next (flat_map interrupts_of ports) ≡ true → k < length ports
    → Parted (slice_index_or ports k d) (levels_from handle (drop (suc k) ports) ends)
parted next k handle [] ends d h within = absurd (let f : ⊥ = omega (arith, within) in f)
parted next zero handle (port ∷ ports) ends d h within =
    let counts = counts_on next port ports h in
    record {
      bound = next + length (interrupts_of port);
      below = here next (next + length (interrupts_of port)) port counts.first (omega arith);
      above = low_clear (next + length (interrupts_of port)) handle ports ends counts.rest;
    }
parted next (suc k) handle (port ∷ ports) ends d h within =
    parted (next + length (interrupts_of port)) k handle ports ends d (counts_on next port ports h).rest (omega (arith, within))

-- ---- a handle is done

fits_without : (s n k : ℕ) → s < 2 ^ k → without_number s n < 2 ^ k
fits_without s n k fits = omega (arith, fits, and_le_l s (bit_not w128 (2 ^ n)))

clear_by : (rest s n i : ℕ) → n < 128 → s < 2 ^ 128 → bit_at rest n ≡ 0 → (i ≡ n) ⊎ (i ≢ n) → (i < 128) ⊎ (128 ≤ i)
    → min (bit_at rest i) (bit_at (without_number s n) i) ≡ min (bit_at rest i) (bit_at s i)
clear_by rest s n i small fits none (inl same) place =
    let e : bit_at rest i ≡ 0 = ap (bit_at rest) same ∙ none in
    omega (arith, e)
clear_by rest s n i small fits none (inr other) (inl low) = ap (min (bit_at rest i)) (taken_other s n i small low other)
clear_by rest s n i small fits none (inr other) (inr high) =
    ap (min (bit_at rest i)) (bit_at_above (without_number s n) 128 i (fits_without s n 128 fits) high ∙ sym (bit_at_above s 128 i fits high))

clear_one : (rest s n : ℕ) → n < 128 → s < 2 ^ 128 → bit_at rest n ≡ 0 → bit_and rest (without_number s n) ≡ bit_and rest s
clear_one rest s n small fits none = same_from_bits _ _ (λ i.
    bit_at_and rest (without_number s n) i ∙ clear_by rest s n i small fits none (same_or i n) (low_or i) ∙ sym (bit_at_and rest s i))
  where
    same_or : (i n : ℕ) → (i ≡ n) ⊎ (i ≢ n)
    same_or i n = grind arith

    low_or : (i : ℕ) → (i < 128) ⊎ (128 ≤ i)
    low_or i = grind arith

clear_port : (port : Port) (rest s : ℕ) → HasNumbersBelow 128 port → s < 2 ^ 128 → Parted port rest → bit_and rest (without_those_of port s) ≡ bit_and rest s
clear_port (described.Channel rx tx) rest s small fits it =
    clear_one rest (without_number s rx) tx small.1 (fits_without s rx 128 fits) (it.above tx it.below.1) ∙ clear_one rest s rx small.0 fits (it.above rx it.below.0)
clear_port described.Send rest s small fits it = refl
clear_port (described.Receive irq) rest s small fits it = clear_one rest s irq small fits (it.above irq it.below)
clear_port (described.Manage part held private) rest s small fits it = refl

among_next : (up level i s new all : ℕ) (desc : Desc) (ends : List End) (d : Port) → IsSound desc → i < length desc.ports → s < 2 ^ 128
    → HasNumbersBelow 128 (slice_index_or desc.ports i d)
    → level ≡ bit_and (level_of (slice_index_or desc.ports i d) (end_at ends (i + 1))) s
    → new ≡ without_those_of (slice_index_or desc.ports i d) s
    → bit_or up (bit_and (levels_from (i + 1) (drop i desc.ports) ends) s) ≡ all
    → bit_or (bit_or up level) (bit_and (levels_from (i + 1 + 1) (drop (i + 1) desc.ports) ends) new) ≡ all
among_next up level i s new all desc ends d sound within fits small is is_new h =
    let ports = desc.ports in
    let port = slice_index_or ports i d in
    let rest = levels_from (i + 1 + 1) (drop (i + 1) ports) ends in
    let e : suc i ≡ i + 1 = omega arith in
    let behind : Parted port rest = subst (λ k. Parted port (levels_from (i + 1 + 1) (drop k ports) ends)) e (parted 0 i (i + 1 + 1) ports ends d (counted desc sound) within) in
    union_along up level (bit_and rest new)
    ∙ ap (bit_or up) (ap (λ l. bit_or l (bit_and rest new)) is ∙ ap (bit_or (bit_and (level_of port (end_at ends (i + 1))) s)) (ap (bit_and rest) is_new ∙ clear_port port rest s small fits behind)
    ∙ sym (cut_union (level_of port (end_at ends (i + 1))) rest s) ∙ ap (λ l. bit_and l s) (sym (from_drop (i + 1) i ports ends d within)))
    ∙ h

pub among_end : (up i s : ℕ) (ports : List Port) (ends : List End) → length ports ≤ i → bit_or up (bit_and (levels_from (i + 1) (drop i ports) ends) s) ≡ up
among_end up i s ports ends past =
    ap (λ ps. bit_or up (bit_and (levels_from (i + 1) ps ends) s)) (drop_all i ports past) ∙ ap (bit_or up) (and_zero_l s) ∙ union_none up

-- ---- handles are passed over

two_most : (port : Port) → length (interrupts_of port) ≤ 2
two_most (described.Channel rx tx) = omega arith
two_most described.Send = omega arith
two_most (described.Receive irq) = omega arith
two_most (described.Manage part held private) = omega arith

nearly : (next k most : ℕ) (ports : List Port) (d : Port) → counts_up next (flat_map interrupts_of ports) ≡ true → k < length ports → next + 2 * (k + 1) ≤ most
    → HasNumbersBelow most (slice_index_or ports k d)
nearly next k most [] d h within fits = absurd (let f : ⊥ = omega (arith, within) in f)
nearly next zero most (port ∷ ports) d h within fits = here next most port (counts_on next port ports h).first (omega (arith, fits, two_most port))
nearly next (suc k) most (port ∷ ports) d h within fits =
    nearly (next + length (interrupts_of port)) k most ports d (counts_on next port ports h).rest (omega (arith, within)) (omega (arith, fits, two_most port))

-- the levels of the handles from this place on, cut by a set
from_place : ℕ → List Port → List End → ℕ → ℕ
from_place i ports ends s = bit_and (levels_from (i + 1) (drop i ports) ends) s

pass_one : (desc : Desc) (ends : List End) (s n k : ℕ) (d : Port) → IsSound desc → ((i : ℕ) → i < n → bit_at s i ≡ 0) → 2 * (k + 1) ≤ n → (k < length desc.ports) ⊎ (length desc.ports ≤ k)
    → from_place (k + 1) desc.ports ends s ≡ from_place k desc.ports ends s
unfolding from_place
pass_one desc ends s n k d sound low fits (inl within) =
    let ports = desc.ports in
    let level = level_of (slice_index_or ports k d) (end_at ends (k + 1)) in
    let rest = levels_from (k + 1 + 1) (drop (k + 1) ports) ends in
    let below = nearly 0 k n ports d (counted desc sound) within (omega (arith, fits)) in
    let none : bit_and level s ≡ 0 = apart level s (λ i. by i below (low_or i n)) in
    sym (ap (λ l. bit_and l s) (from_drop (k + 1) k ports ends d within) ∙ cut_union level rest s ∙ ap (λ l. bit_or l (bit_and rest s)) none ∙ none_union (bit_and rest s))
  where
    low_or : (i n : ℕ) → (i < n) ⊎ (n ≤ i)
    low_or i n = grind arith

    by : (i : ℕ) → HasNumbersBelow n (slice_index_or desc.ports k d) → (i < n) ⊎ (n ≤ i)
        → (bit_at (level_of (slice_index_or desc.ports k d) (end_at ends (k + 1))) i ≡ 0) ⊎ (bit_at s i ≡ 0)
    by i below (inl small) = inr (low i small)
    by i below (inr past) = inl (level_above n i (slice_index_or desc.ports k d) (end_at ends (k + 1)) below past)
pass_one desc ends s n k d sound low fits (inr past) =
    let ports = desc.ports in
    ap (λ ps. bit_and (levels_from (k + 1 + 1) ps ends) s) (drop_all (k + 1) ports (omega (arith, past)))
    ∙ sym (ap (λ ps. bit_and (levels_from (k + 1) ps ends) s) (drop_all k ports past))

pass : (desc : Desc) (ends : List End) (s n k count : ℕ) (d : Port) → IsSound desc → ((i : ℕ) → i < n → bit_at s i ≡ 0) → 2 * (count + k) ≤ n
    → from_place (count + k) desc.ports ends s ≡ from_place k desc.ports ends s
unfolding from_place
pass desc ends s n k zero d sound low fits = let e : 0 + k ≡ k = omega arith in ap (λ i. from_place i desc.ports ends s) e
pass desc ends s n k (suc count) d sound low fits =
    let e : suc count + k ≡ count + k + 1 = omega arith in
    ap (λ i. from_place i desc.ports ends s) e
    ∙ pass_one desc ends s n (count + k) d sound low (omega (arith, fits)) (in_or (count + k) (length desc.ports))
    ∙ pass desc ends s n k count d sound low (omega (arith, fits))
  where
    in_or : (i n : ℕ) → (i < n) ⊎ (n ≤ i)
    in_or i n = grind arith

pub passed : (desc : Desc) (ends : List End) (s k place : ℕ) (d : Port) → IsSound desc → s < 2 ^ 128 → place ≡ max k (lowest_place s)
    → bit_and (levels_from (place + 1) (drop place desc.ports) ends) s ≡ bit_and (levels_from (k + 1) (drop k desc.ports) ends) s
unfolding from_place
passed desc ends s k place d sound fits e = by (k_or k (lowest_place s))
  where
    k_or : (i n : ℕ) → (n ≤ i) ⊎ (i < n)
    k_or i n = grind arith

    by : (lowest_place s ≤ k) ⊎ (k < lowest_place s) → from_place place desc.ports ends s ≡ from_place k desc.ports ends s
    by (inl behind) = let same : place ≡ k = omega (arith, e, behind) in ap (λ i. from_place i desc.ports ends s) same
    by (inr before) =
        let same : place ≡ lowest_place s - k + k = omega (arith, e, before) in
        ap (λ i. from_place i desc.ports ends s) same ∙ pass desc ends s (trailing_zeros w128 s) k (lowest_place s - k) d sound (low_free s fits) (omega (arith, before))

-- a handle is done, and those behind it that have none of the numbers are passed over
pub among_on : (up level i s new next all : ℕ) (desc : Desc) (ends : List End) (port : Port) → IsSound desc → i < length desc.ports → s < 2 ^ 128 → new < 2 ^ 128
    → port ≡ slice_index_or desc.ports i port
    → HasNumbersBelow 128 port
    → level ≡ bit_and (level_of port (end_at ends (i + 1))) s
    → new ≡ without_those_of port s
    → next ≡ max (i + 1) (lowest_place new)
    → bit_or up (bit_and (levels_from (i + 1) (drop i desc.ports) ends) s) ≡ all
    → bit_or (bit_or up level) (bit_and (levels_from (next + 1) (drop next desc.ports) ends) new) ≡ all
among_on up level i s new next all desc ends port sound within fits left here_is small is is_new at h =
    ap (bit_or (bit_or up level)) (passed desc ends new (i + 1) next port sound left at)
    ∙ among_next up level i s new all desc ends port sound within fits (subst (HasNumbersBelow 128) here_is small)
    (is ∙ ap (λ (it : Port). bit_and (level_of it (end_at ends (i + 1))) s) here_is)
    (is_new ∙ ap (λ (it : Port). without_those_of it s) here_is)
    h
