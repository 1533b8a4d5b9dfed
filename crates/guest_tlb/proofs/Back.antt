-- A live translation that is written back where it was changes nothing.
use Rattle.std.proofs.Common.{arith, refl, ap, sym, ◌∙◌, ◌≡◌, ◌≢◌, ℕ, ◌%◌, ◌<◌, Bool, true, false, cond, ltb, leb, eqb, ◌&&◌, ◌||◌, List, length, set, length-set, get_or, ⊎_elim}
use Rattle.std.proofs.lemmas.Bool.{cases_eq, true≢false, ne_eqb, le-leb, ltb-true}
use Rattle.std.proofs.lemmas.List.{ext_get_or, get_or-set_same, get_or-set_other}
use Rattle.mas.specs.declared.registers.Mas.{Mas}
use Rattle.mas.specs.declared.entry.Entry.{Entry}
use Rattle.mas.specs.Page.{page_size}
use Rattle.mas.specs.Translation.{reporting}
use Rattle.mas.proofs.Held.{reported_is_held, same_entry}
use Rattle.guest_tlb.specs.Translation.{meets, IsSound}
use Rattle.guest_tlb.specs.Slots.{blank, entry_at, naming, written_entry, tlb0_form, has_size, aligned, tlb1_form}
use Rattle.guest_tlb.specs.Invalidation.{dead, invalidated, ends_write, with_entry}
use Rattle.guest_tlb.specs.Kept.{IsKept, AreApart}
use Rattle.guest_tlb.specs.Laws.{WritesBackKeep}
use Rattle.guest_tlb.proofs.Passes.{length-invalidated, invalidated_at}
use Rattle.guest_tlb.proofs.Found.{reported_is_named}
use Rattle.guest_tlb.proofs.Upkeep.{placed, after_write_there}

-- what TLB0 has it takes as it is
small_same : (entry : Entry) → entry.iprot ≡ false → entry.tsize ≡ 1 → tlb0_form entry ≡ entry
small_same entry h k = same_entry (tlb0_form entry) entry refl (sym h) refl refl (sym k) refl refl refl refl

-- and so does TLB1
aligned_same : (size address : ℕ) → address % size ≡ 0 → aligned size address ≡ address
aligned_same size address h = omega (arith, h)

placed_same : (entry : Entry) → IsSound entry → placed entry ≡ entry
unfolding placed
placed_same entry h = same_entry (placed entry) entry refl refl refl refl refl (aligned_same (page_size entry.tsize) entry.epn h.page_whole) refl (aligned_same (page_size entry.tsize) entry.rpn h.frame_whole) refl

large_same : (entry : Entry) → IsSound entry → tlb1_form entry ≡ entry
unfolding placed
large_same entry h =
    let sized : has_size entry ≡ true = ap (λ b. b && leb entry.tsize 11) (le-leb 1 entry.tsize h.least) ∙ le-leb entry.tsize 11 h.most in
    ap (λ b. cond b (placed entry) (dead entry)) sized ∙ placed_same entry h

written_same : (slot : ℕ) (entry : Entry) (mas : Mas) → IsKept slot entry → entry.valid ≡ true → written_entry slot (reporting entry mas) ≡ entry
unfolding written_entry
written_same slot entry mas h live =
    ap (λ (e : Entry). cond (ltb slot 512) (tlb0_form e) (tlb1_form e)) (reported_is_held entry mas h.fits) ∙ by_place (ltb slot 512) refl
  where
    by_place : (b : Bool) → ltb slot 512 ≡ b → cond b (tlb0_form entry) (tlb1_form entry) ≡ entry
    by_place true e = let low = ltb-true slot 512 e in small_same entry (h.tlb0_open low) (h.tlb0_size low)
    by_place false e = large_same entry (h.sound live)

-- no other translation gives way
no_way : (here new old meet : Bool) → here ≡ false → (new ≡ true → old ≡ true → meet ≡ false) → (here || (new && (old && meet))) ≡ false
no_way true new old meet h k = absurd (true≢false h)
no_way false false old meet h k = refl
no_way false true false meet h k = refl
no_way false true true meet h k = k refl refl

others_stay : (slots : List Entry) (slot i : ℕ) → AreApart slots → i ≢ slot → ends_write slot (entry_at slots slot) i (entry_at slots i) ≡ false
unfolding ends_write
others_stay slots slot i apart ne =
    no_way (eqb i slot) (entry_at slots slot).valid (entry_at slots i).valid (meets (entry_at slots slot) (entry_at slots i)) (ne_eqb i slot ne) (λ v w. apart.none_meet slot i (λ e. ne (sym e)) v w)

not_invalidated : (slots : List Entry) (slot i : ℕ) → AreApart slots → i ≢ slot → i < length slots → get_or (invalidated (ends_write slot (entry_at slots slot)) slots) i blank ≡ get_or slots i blank
not_invalidated slots slot i apart ne h =
    invalidated_at (ends_write slot (entry_at slots slot)) slots i blank h
    ∙ ap (λ b. cond b (dead (entry_at slots i)) (entry_at slots i)) (others_stay slots slot i apart ne)

put_back : (slots : List Entry) (slot : ℕ) → AreApart slots → slot < length slots → with_entry slot (entry_at slots slot) slots ≡ slots
put_back slots slot apart h =
    let old : List Entry = invalidated (ends_write slot (entry_at slots slot)) slots in
    let size : length old ≡ length slots = length-invalidated (ends_write slot (entry_at slots slot)) slots in
    ext_get_or blank (set old slot (entry_at slots slot)) slots (length-set old slot (entry_at slots slot) ∙ size)
    (λ i inside.
    ⊎_elim
    (λ (e : i ≡ slot). ap (λ j. get_or (set old slot (entry_at slots slot)) j blank) e ∙ (get_or-set_same old slot (entry_at slots slot) blank (omega (arith, h, size)) ∙ ap (λ j. get_or slots j blank) (sym e)))
    (λ (ne : i ≡ slot → ⊥). get_or-set_other old slot i (entry_at slots slot) blank ne ∙ not_invalidated slots slot i apart ne (omega (arith, inside, size, length-set old slot (entry_at slots slot))))
    (cases_eq i slot))

pub writes_back_keep : WritesBackKeep
writes_back_keep slots mas slot kept small live =
    let mine : Mas = reporting (entry_at slots slot) (naming slot mas) in
    after_write_there mine slots slot (reported_is_named slots mas slot kept small live)
    ∙ (ap (λ (e : Entry). with_entry slot e slots) (written_same slot (entry_at slots slot) (naming slot mas) (kept.each slot) live)
    ∙ put_back slots slot kept.apart (omega (arith, small, kept.count)))
