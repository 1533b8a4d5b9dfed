-- The slots that a change doesn't answer have what they had.
use Rattle.std.proofs.Common.{arith, refl, sym, ap, subst, ◌∙◌, ◌≡◌, ℕ, ◌<◌, ◌≤◌, Bool, true, false, cond, List, length, get_or-set_other, length-set, ⊎_elim, Option, Some, None}
use Rattle.std.specs.List.{Contains}
use Rattle.std.proofs.lemmas.Bool.{cases_lt, cases_eq}
use Rattle.std.proofs.lemmas.List.{get_or_past}
use Rattle.mas.specs.declared.registers.Mas.{Mas}
use Rattle.mas.specs.declared.entry.Entry.{Entry}
use Rattle.guest_tlb.specs.Slots.{blank, entry_at, named_slot, written_entry}
use Rattle.guest_tlb.specs.Invalidation.{dead, after, invalidated, ended_slots, ends_write, with_entry, written_at, ended_at, after_write, ended_by_write}
use Rattle.guest_tlb.specs.Laws.{OthersStay, InvalidationsLeaveOthers, WritesLeaveOthers}
use Rattle.guest_tlb.proofs.Passes.{length-invalidated, invalidated_at}
use Rattle.guest_tlb.proofs.Answered.{answers_are_ended, own}

spared_by : (b : Bool) (ends : ℕ → Entry → Bool) (slots : List Entry) (slot : ℕ) → ¬ (Contains (ended_slots ends slots) slot) → slot < length slots → ends slot (entry_at slots slot) ≡ b → after ends slot (entry_at slots slot) ≡ entry_at slots slot
spared_by true ends slots slot none inside e = absurd (none ((answers_are_ended ends slots slot).1 (inside, e)))
spared_by false ends slots slot none inside e = ap (λ b. cond b (dead (entry_at slots slot)) (entry_at slots slot)) e

pub invalidations_leave_others : InvalidationsLeaveOthers
invalidations_leave_others ends slots = record {
  stay = λ slot none.
      ⊎_elim
      (λ (inside : slot < length slots). invalidated_at ends slots slot blank inside ∙ spared_by (ends slot (entry_at slots slot)) ends slots slot none inside refl)
      (λ (past : length slots ≤ slot). get_or_past (invalidated ends slots) slot blank (omega (arith, length-invalidated ends slots)) ∙ sym (get_or_past slots slot blank past))
      (cases_lt slot (length slots));
}

-- a write answers its own slot
own_answered : (at slot : ℕ) (new : Entry) (slots : List Entry) → slot ≡ at → slot < length slots → Contains (ended_slots (ends_write at new) slots) slot
own_answered at slot new slots same inside =
    let Ends : ℕ → Type 0 = λ k. ends_write at new k (entry_at slots k) ≡ true in
    (answers_are_ended (ends_write at new) slots slot).1 (inside, subst Ends (sym same) (own at new (entry_at slots at)))

with_entry_leaves : (at : ℕ) (new : Entry) (slots : List Entry) → OthersStay slots (with_entry at new slots) (ended_slots (ends_write at new) slots)
with_entry_leaves at new slots = record {
  stay = λ slot none.
      let left : List Entry = invalidated (ends_write at new) slots in
      ⊎_elim
      (λ (same : slot ≡ at).
      ⊎_elim (λ (inside : slot < length slots). absurd (none (own_answered at slot new slots same inside)))
      (λ (past : length slots ≤ slot).
      get_or_past (with_entry at new slots) slot blank (omega (arith, past, length-invalidated (ends_write at new) slots, length-set left at new)) ∙ sym (get_or_past slots slot blank past))
      (cases_lt slot (length slots)))
      (λ (other : slot ≡ at → ⊥). get_or-set_other left at slot new blank other ∙ (invalidations_leave_others (ends_write at new) slots).stay slot none)
      (cases_eq slot at);
}

by_name : (place : Option ℕ) (mas : Mas) (slots : List Entry) → OthersStay slots (written_at place mas slots) (ended_at place mas slots)
by_name None mas slots = record { stay = λ slot none. refl }
by_name (Some at) mas slots = with_entry_leaves at (written_entry at mas) slots

pub writes_leave_others : WritesLeaveOthers
unfolding after_write ended_by_write
writes_leave_others mas slots = by_name (named_slot mas) mas slots
