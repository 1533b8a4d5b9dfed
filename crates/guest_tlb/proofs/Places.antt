-- A slot's place in MAS0 names the slot.
use Rattle.std.proofs.Common.{arith, refl, ap, ◌∙◌, ◌≡◌, ℕ, ◌+◌, ◌-◌, ◌*◌, ◌/◌, ◌%◌, ◌^◌, ◌<◌, ◌≤◌, Bool, true, false, cond, ltb, eqb, Option, Some, None}
use Rattle.std.proofs.lemmas.Bool.{ltb-true, ltb-false}
use Rattle.std.proofs.lemmas.Option.{none-some, same_Some}
use Rattle.mas.specs.declared.registers.Mas.{Mas}
use Rattle.mas.specs.Fields.{tlbsel_field, esel_field, with_tlbsel_esel}
use Rattle.guest_tlb.specs.Slots.{named_slot, naming}
use Rattle.guest_tlb.specs.Laws.{PlacesNameSlots}

-- MAS0 has each field where it is read
tlbsel_read : (t e m0 : ℕ) → t < 4 → tlbsel_field (with_tlbsel_esel t e m0) ≡ t
tlbsel_read t e m0 ht = omega (arith, ht)

esel_read : (t e m0 : ℕ) → e < 2 ^ 12 → esel_field (with_tlbsel_esel t e m0) ≡ e
esel_read t e m0 he = omega (arith, he)

-- the slot of TLBSEL, ESEL and a page
abbrev named_of : ℕ → ℕ → ℕ → Option ℕ
named_of t e m2 = cond (eqb t 0) (Some (m2 / 2 ^ 12 % 128 * 4 + e % 4)) (cond (eqb t 1) (Some (512 + e % 64)) None)

named_by : (mas : Mas) (t e m0 : ℕ) → m0 ≡ with_tlbsel_esel t e mas.m0 → t < 4 → e < 2 ^ 12 → named_slot (record mas { m0 = m0 }) ≡ named_of t e mas.m2
unfolding named_slot
named_by mas t e m0 h ht he =
    ap (λ x. named_slot (record mas { m0 = x })) h
    ∙ ap (λ x. named_of x (esel_field (with_tlbsel_esel t e mas.m0)) mas.m2) (tlbsel_read t e mas.m0 ht)
    ∙ ap (λ x. named_of t x mas.m2) (esel_read t e mas.m0 he)

by_choice : (mas : Mas) (slot : ℕ) (b : Bool) → ltb slot 512 ≡ b → slot < 576 → (slot < 512 → mas.m2 / 2 ^ 12 % 128 ≡ slot / 4) → named_slot (naming slot mas) ≡ Some slot
by_choice mas slot true h small set =
    let low : slot < 512 = ltb-true slot 512 h in
    named_by mas 0 (slot % 4) _ (ap (λ b. cond b (with_tlbsel_esel 0 (slot % 4) mas.m0) (with_tlbsel_esel 1 (slot - 512) mas.m0)) h) (omega arith) (omega arith)
    ∙ ap Some (omega (arith, set low))
by_choice mas slot false h small set =
    let high : 512 ≤ slot = ltb-false slot 512 h in
    named_by mas 1 (slot - 512) _ (ap (λ b. cond b (with_tlbsel_esel 0 (slot % 4) mas.m0) (with_tlbsel_esel 1 (slot - 512) mas.m0)) h) (omega arith) (omega (arith, small))
    ∙ ap Some (omega (arith, small, high))

pub places_name_slots : PlacesNameSlots
places_name_slots mas slot small set = by_choice mas slot (ltb slot 512) refl small set

-- a named slot of TLB0 is in the set of the page in MAS2
set_by : (m2 e at : ℕ) (first second : Bool) → cond first (Some (m2 / 2 ^ 12 % 128 * 4 + e % 4)) (cond second (Some (512 + e % 64)) None) ≡ Some at → at < 512 → m2 / 2 ^ 12 % 128 ≡ at / 4
set_by m2 e at true second h low = let same = same_Some _ _ h in omega (arith, same)
set_by m2 e at false true h low = let same = same_Some _ _ h in absurd (omega (arith, same, low))
set_by m2 e at false false h low = absurd (none-some at h)

pub named_set : (mas : Mas) (at : ℕ) → named_slot mas ≡ Some at → at < 512 → mas.m2 / 2 ^ 12 % 128 ≡ at / 4
unfolding named_slot
named_set mas at h low = set_by mas.m2 (esel_field mas.m0) at (eqb (tlbsel_field mas.m0) 0) (eqb (tlbsel_field mas.m0) 1) h low
