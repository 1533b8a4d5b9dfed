-- The numbers of sources, and the sets of those that are up.
use Rattle.std.proofs.Common.{◌≡◌, ℕ, zero, suc, ◌+◌, ◌-◌, ◌*◌, ◌<◌, ◌≤◌, ◌==◌, max, Bool, true, false, cond, ◌&&◌, bit_or, List, [], ◌∷◌, length, drop, drop-cons, option_map, slice_index_or, Option, Some, None, slice_get, refl, sym, ap, subst, ◌∙◌, arith}
use Rattle.std.specs.Int.{bit_at}
use Rattle.std.specs.List.{flat_map}
use Rattle.std.proofs.lemmas.Bool.{and_parts, eqb-true, leb-true}
use Rattle.std.proofs.lemmas.Option.{slice_get-map, slice_get_within, slice_get-get_or, get_or_from_slice_get}
use Rattle.std.proofs.lemmas.Bool.Decides.{nat_tests}
use Rattle.std.proofs.lemmas.List.{length-append}
use Rattle.std.proofs.lemmas.Nat.Bits.{bit_at-zero, bit_at_or, same_from_bits}
use Rattle.machine_desc.specs.declared.desc.Desc.{Desc}
use Rattle.machine_desc.specs.declared.desc.Port.{Port}
use Rattle.machine_desc.specs.declared.desc.Port.TheVariants as described
use Rattle.machine_desc.specs.Sound.{are_counts_kept, interrupts_of, counts_up, are_numbered, IsSound}
use Rattle.machine_desc.proofs.Counting.{counts_up_along}
use Rattle.fresh_load.proofs.Starting.{sound_parts}
use Rattle.partition.specs.declared.kind.Kind.{Kind}
use Rattle.partition.specs.Port.{kind_of, kinds_of, kind_at, End, end_at}
use Rattle.partition.specs.Interrupts.{interrupt_count, level_of, levels_from, bell_of, bell_among, bell_at, HasNumbersBelow}

-- ---- sets are unions in any order

max_along : (x y z : ℕ) → max (max x y) z ≡ max x (max y z)
max_along x y z = omega arith

pub union_along : (a b c : ℕ) → bit_or (bit_or a b) c ≡ bit_or a (bit_or b c)
union_along a b c = same_from_bits (bit_or (bit_or a b) c) (bit_or a (bit_or b c)) (λ i.
    bit_at_or (bit_or a b) c i ∙ ap (λ x. max x (bit_at c i)) (bit_at_or a b i) ∙ max_along (bit_at a i) (bit_at b i) (bit_at c i)
    ∙ sym (ap (λ x. max (bit_at a i) x) (bit_at_or b c i)) ∙ sym (bit_at_or a (bit_or b c) i))

pub union_none : (a : ℕ) → bit_or a 0 ≡ a
union_none a = same_from_bits (bit_or a 0) a (λ i. bit_at_or a 0 i ∙ ap (λ x. max (bit_at a i) x) (bit_at-zero i) ∙ omega arith)

pub none_union : (a : ℕ) → bit_or 0 a ≡ a
none_union a = same_from_bits (bit_or 0 a) a (λ i. bit_at_or 0 a i ∙ ap (λ x. max x (bit_at a i)) (bit_at-zero i) ∙ omega arith)

-- ---- the levels of one handle more

pub from_drop : (handle i : ℕ) (ports : List Port) (ends : List End) (d : Port) → i < length ports
    → levels_from handle (drop i ports) ends ≡ bit_or (level_of (slice_index_or ports i d) (end_at ends handle)) (levels_from (handle + 1) (drop (i + 1) ports) ends)
from_drop handle i ports ends d within =
    let e : suc i ≡ i + 1 = omega arith in
    ap (λ ps. levels_from handle ps ends) (drop-cons ports i d within)
    ∙ ap (λ k. bit_or (level_of (slice_index_or ports i d) (end_at ends handle)) (levels_from (handle + 1) (drop k ports) ends)) e

-- the kind of a handle
pub kind_here : (ports : List Port) (i : ℕ) (d : Port) → i < length ports → kind_at (kinds_of ports) (i + 1) ≡ Some (kind_of (slice_index_or ports i d))
kind_here ports i d within =
    let e : i + 1 - 1 ≡ i = omega arith in
    not_zero (i + 1) (omega arith) (kinds_of ports) ∙ ap (slice_get (kinds_of ports)) e ∙ slice_get-map kind_of ports i ∙ ap (option_map kind_of) (slice_get-get_or ports i d within)
  where
    not_zero : (n : ℕ) → 0 < n → (kinds : List Kind) → kind_at kinds n ≡ slice_get kinds (n - 1)
    not_zero n some kinds = let z : (n == 0) ≡ false = grind (arith, nat_tests) in ap (λ b. cond b None (slice_get kinds (n - 1))) z

-- ---- the numbers of a sound description

most_numbers : (ports : List Port) → length (flat_map interrupts_of ports) ≤ 2 * length ports
most_numbers [] = omega arith
most_numbers (described.Channel rx tx ∷ ports) = omega (arith, most_numbers ports)
most_numbers (described.Send ∷ ports) = omega (arith, most_numbers ports)
most_numbers (described.Receive irq ∷ ports) = omega (arith, most_numbers ports)
most_numbers (described.Manage part held private ∷ ports) = omega (arith, most_numbers ports)

pub record CountsOn (next : ℕ) (port : Port) (ports : List Port) : Type 0 where
  pub first : counts_up next (interrupts_of port) ≡ true
  pub rest : counts_up (next + length (interrupts_of port)) (flat_map interrupts_of ports) ≡ true

pub counts_on : (next : ℕ) (port : Port) (ports : List Port) → counts_up next (flat_map interrupts_of (port ∷ ports)) ≡ true → CountsOn next port ports
counts_on next port ports h =
    let parts = and_parts (counts_up next (interrupts_of port)) (counts_up (next + length (interrupts_of port)) (flat_map interrupts_of ports))
    (sym (counts_up_along next (interrupts_of port) (flat_map interrupts_of ports)) ∙ h) in
    record { first = parts.0; rest = parts.1 }

pub here : (next most : ℕ) (port : Port) → counts_up next (interrupts_of port) ≡ true → next + length (interrupts_of port) ≤ most → HasNumbersBelow most port
here next most (described.Channel rx tx) h fits =
    let parts = and_parts (rx == next) (tx == next + 1 && true) h in
    let later = and_parts (tx == next + 1) true parts.1 in
    (omega (arith, fits, eqb-true rx next parts.0), omega (arith, fits, eqb-true tx (next + 1) later.0))
here next most described.Send h fits = tt
here next most (described.Receive irq) h fits = let parts = and_parts (irq == next) true h in omega (arith, fits, eqb-true irq next parts.0)
here next most (described.Manage part held private) h fits = tt

-- numbers that count up from here are below the end of the count
below_end : (next most : ℕ) (ports : List Port) (k : ℕ) (d : Port) → counts_up next (flat_map interrupts_of ports) ≡ true → next + length (flat_map interrupts_of ports) ≤ most → k < length ports → HasNumbersBelow most (slice_index_or ports k d)
below_end next most [] k d h fits within = absurd (let f : ⊥ = omega (arith, within) in f)
below_end next most (port ∷ ports) zero d h fits within =
    let all = length-append (interrupts_of port) (flat_map interrupts_of ports) in
    here next most port (counts_on next port ports h).first (omega (arith, fits, all))
below_end next most (port ∷ ports) (suc k) d h fits within =
    let all = length-append (interrupts_of port) (flat_map interrupts_of ports) in
    below_end (next + length (interrupts_of port)) most ports k d (counts_on next port ports h).rest (omega (arith, fits, all)) (omega (arith, within))

pub few_ports : (desc : Desc) → IsSound desc → length desc.ports ≤ 64
unfolding are_counts_kept
few_ports desc sound = leb-true (length desc.ports) 64 (and_parts _ _ (and_parts _ _ (and_parts _ _ (sound_parts desc sound).counts).0).0).1

pub few_interrupts : (desc : Desc) → IsSound desc → interrupt_count desc.ports ≤ 128
few_interrupts desc sound = omega (arith, most_numbers desc.ports, few_ports desc sound)

pub counted : (desc : Desc) → IsSound desc → counts_up 0 (flat_map interrupts_of desc.ports) ≡ true
unfolding are_numbered
counted desc sound = (sound_parts desc sound).numbered

pub numbers_counted : (desc : Desc) (k : ℕ) (d : Port) → IsSound desc → k < length desc.ports → HasNumbersBelow (interrupt_count desc.ports) (slice_index_or desc.ports k d)
numbers_counted desc k d sound within = below_end 0 (interrupt_count desc.ports) desc.ports k d (counted desc sound) (omega arith) within

pub numbers_small : (desc : Desc) (k : ℕ) (d : Port) → IsSound desc → k < length desc.ports → HasNumbersBelow 128 (slice_index_or desc.ports k d)
numbers_small desc k d sound within = below_end 0 128 desc.ports k d (counted desc sound) (omega (arith, few_interrupts desc sound)) within

-- ---- the interrupt of a receive handle

bell_here : (most n : ℕ) (port : Port) → bell_of port ≡ Some n → HasNumbersBelow most port → n < most
bell_here most n (described.Receive irq) e below = let same : irq ≡ n = cc in omega (arith, same, below)
bell_here most n (described.Channel rx tx) e below = absurd (cc)
bell_here most n described.Send e below = absurd (cc)
bell_here most n (described.Manage part held private) e below = absurd (cc)

bell_found : (desc : Desc) (k n : ℕ) (found : Option Port) → IsSound desc → slice_get desc.ports k ≡ found → bell_among found ≡ Some n → n < interrupt_count desc.ports
bell_found desc k n None sound e h = absurd (cc)
bell_found desc k n (Some port) sound e h =
    let below = numbers_counted desc k port sound (slice_get_within desc.ports k port e) in
    bell_here (interrupt_count desc.ports) n port h (subst (HasNumbersBelow (interrupt_count desc.ports)) (get_or_from_slice_get desc.ports k port port e) below)

pub bell_below : (desc : Desc) (handle n : ℕ) → IsSound desc → bell_at desc.ports handle ≡ Some n → n < interrupt_count desc.ports
bell_below desc handle n sound h = by_zero (handle == 0) refl
  where
    by_zero : (b : Bool) → (handle == 0) ≡ b → n < interrupt_count desc.ports
    by_zero true z = absurd (let f : None ≡ Some n = sym (ap (λ (b : Bool). cond b None (bell_among (slice_get desc.ports (handle - 1)))) z) ∙ h in cc)
    by_zero false z =
        bell_found desc (handle - 1) n (slice_get desc.ports (handle - 1)) sound refl (sym (ap (λ (b : Bool). cond b None (bell_among (slice_get desc.ports (handle - 1)))) z) ∙ h)
