-- What the slots have after a reset.
use Rattle.std.proofs.Common.{arith, refl, ap, sym, ◌∙◌, ◌≡◌, ℕ, ◌<◌, ◌≤◌, ◌==◌, Bool, true, false, cond, nat_lt, List, length, get_or, ⊎_elim}
use Rattle.std.proofs.lemmas.Bool.{cases_lt, false≢true, eqb-true}
use Rattle.std.proofs.lemmas.List.{get_or_past}
use Rattle.std.proofs.lemmas.List.FromFn.{length-map-range_with_len, get_or-map-range_with_len, fill_by_all}
use Rattle.mas.specs.declared.entry.Entry.{Entry}
use Rattle.guest_tlb.specs.Slots.{blank, tlb0_blank, entry_at, slot_count, initial_area, initial_entry, initial_slots}
use Rattle.guest_tlb.specs.Laws.{ResetIsApart}

count_is : slot_count ≡ 576
unfolding slot_count
count_is = refl

pub length-initial_slots : length initial_slots ≡ 576
unfolding initial_slots
length-initial_slots = length-map-range_with_len initial_entry 0 slot_count ∙ count_is

pub reset_at : (k : ℕ) → k < 576 → entry_at initial_slots k ≡ initial_entry k
unfolding initial_slots
reset_at k h = get_or-map-range_with_len initial_entry 0 slot_count k k blank (omega (arith, h, count_is)) (omega arith)

pub reset_past : (k : ℕ) → 576 ≤ k → entry_at initial_slots k ≡ blank
reset_past k h = get_or_past initial_slots k blank (omega (arith, h, length-initial_slots))

-- slots that each have it are these
pub filled : (slots : List Entry) → length slots ≡ 576 → ((k : ℕ) → k < 576 → get_or slots k blank ≡ initial_entry k) → slots ≡ initial_slots
unfolding initial_slots
filled slots count each = fill_by_all initial_entry slots slot_count blank (count ∙ sym count_is) (λ k h. each k (omega (arith, h, count_is)))

-- the initial area alone is live
live_choice : (k : ℕ) (low first : Bool) → (k == 512) ≡ first → (cond low tlb0_blank (cond first initial_area blank)).valid ≡ true → k ≡ 512
live_choice k true first e v = absurd (false≢true v)
live_choice k false true e v = eqb-true k 512 e
live_choice k false false e v = absurd (false≢true v)

live_reset : (k : ℕ) → (entry_at initial_slots k).valid ≡ true → k ≡ 512
live_reset k v =
    ⊎_elim (λ (h : k < 576). live_choice k (nat_lt k 512) (k == 512) refl (sym (ap (λ (e : Entry). e.valid) (reset_at k h)) ∙ v))
    (λ (h : 576 ≤ k). absurd (false≢true (sym (ap (λ (e : Entry). e.valid) (reset_past k h)) ∙ v))) (cases_lt k 576)

pub reset_is_apart : ResetIsApart
reset_is_apart = record { none_meet = λ i j ne vi vj. absurd (ne (live_reset i vi ∙ sym (live_reset j vj))) }
