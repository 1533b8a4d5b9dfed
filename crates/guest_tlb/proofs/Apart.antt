-- No two live translations meet, after each change.
use Rattle.std.proofs.Common.{arith, ap, sym, ◌∙◌, ◌≡◌, ◌≢◌, ℕ, ◌<◌, ◌≤◌, ◌==◌, Bool, true, false, cond, ◌&&◌, ◌||◌, List, length, set, inl, inr, ⊎_elim, Option, Some, None, ◌⊎◌}
use Rattle.std.proofs.lemmas.Bool.{cases_lt, cases_eq, cases_Bool, false≢true, true≢false}
use Rattle.std.proofs.lemmas.List.{get_or_past, get_or-set_same, get_or-set_other, set_past}
use Rattle.mas.specs.declared.registers.Mas.{Mas}
use Rattle.mas.specs.declared.entry.Entry.{Entry}
use Rattle.guest_tlb.specs.Translation.{meets}
use Rattle.guest_tlb.specs.Slots.{blank, entry_at, named_slot, written_entry}
use Rattle.guest_tlb.specs.Invalidation.{dead, after, invalidated, ends_write, with_entry, written_at, after_write}
use Rattle.guest_tlb.specs.Kept.{AreApart}
use Rattle.guest_tlb.specs.Laws.{WritesKeepApart, InvalidationsKeepApart, OneMatches}
use Rattle.guest_tlb.proofs.Passes.{length-invalidated, invalidated_at}
use Rattle.guest_tlb.proofs.Meeting.{meets_swap, matches_meet, match_parts}

-- what a slot has after an invalidation, in the list or past it
pub invalidated_entry : (ends : ℕ → Entry → Bool) (old : List Entry) (k : ℕ) → (entry_at (invalidated ends old) k ≡ after ends k (entry_at old k)) ⊎ (entry_at (invalidated ends old) k ≡ blank)
invalidated_entry ends old k =
    ⊎_elim (λ (h : k < length old). inl (invalidated_at ends old k blank h)) (λ (h : length old ≤ k). inr (get_or_past (invalidated ends old) k blank (omega (arith, length-invalidated ends old)))) (cases_lt k (length old))

-- what is live after an invalidation was so before, and the test spared it
live_after : (ends : ℕ → Entry → Bool) (k : ℕ) (entry : Entry) → (after ends k entry).valid ≡ true → (after ends k entry ≡ entry) × (ends k entry ≡ false)
live_after ends k entry h =
    let chosen : Bool → Entry = λ b. cond b (dead entry) entry in
    ⊎_elim (λ (t : ends k entry ≡ true). absurd (false≢true (sym (ap (λ b. (chosen b).valid) t) ∙ h))) (λ (f : ends k entry ≡ false). (ap chosen f, f)) (cases_Bool (ends k entry))

pub live_invalidated : (ends : ℕ → Entry → Bool) (old : List Entry) (k : ℕ) → (entry_at (invalidated ends old) k).valid ≡ true → (entry_at (invalidated ends old) k ≡ entry_at old k) × (ends k (entry_at old k) ≡ false)
live_invalidated ends old k h =
    ⊎_elim (λ (e : entry_at (invalidated ends old) k ≡ after ends k (entry_at old k)). let same = live_after ends k (entry_at old k) (sym (ap (λ (x : Entry). x.valid) e) ∙ h) in (e ∙ same.0, same.1))
    (λ (e : entry_at (invalidated ends old) k ≡ blank). absurd (false≢true (sym (ap (λ (x : Entry). x.valid) e) ∙ h))) (invalidated_entry ends old k)

-- entries that are known to be others
meets_of : (a b x y : Entry) → a ≡ x → b ≡ y → meets x y ≡ false → meets a b ≡ false
meets_of a b x y e f h = ap (λ (z : Entry). meets z b) e ∙ (ap (λ (z : Entry). meets x z) f ∙ h)

valid_of : (a x : Entry) → a ≡ x → a.valid ≡ true → x.valid ≡ true
valid_of a x e h = sym (ap (λ (z : Entry). z.valid) e) ∙ h

pub invalidations_keep_apart : InvalidationsKeepApart
invalidations_keep_apart ends old apart = record {
  none_meet = λ i j ne vi vj.
      let here = live_invalidated ends old i vi in
      let there = live_invalidated ends old j vj in
      meets_of _ _ _ _ here.0 there.0 (apart.none_meet i j ne (valid_of _ _ here.0 vi) (valid_of _ _ there.0 vj));
}

-- what a write leaves in its slot and in another
spared : (at j : ℕ) (new entry : Entry) → ends_write at new j entry ≡ false → new.valid ≡ true → entry.valid ≡ true → meets new entry ≡ false
unfolding ends_write
spared at j new entry h v w = spared_by (j == at) new.valid entry.valid (meets new entry) h v w
  where
    spared_by : (a b c m : Bool) → (a || (b && (c && m))) ≡ false → b ≡ true → c ≡ true → m ≡ false
    spared_by false true true m h v w = h
    spared_by true b c m h v w = absurd (true≢false h)
    spared_by false false c m h v w = absurd (false≢true v)
    spared_by false true false m h v w = absurd (false≢true w)

-- a slot that is there takes what is written, and another stays as the invalidation left it
pub written_here : (at : ℕ) (new : Entry) (slots : List Entry) → (entry_at (set slots at new) at ≡ new) ⊎ (entry_at (set slots at new) at ≡ blank)
written_here at new slots =
    ⊎_elim (λ (h : at < length slots). inl (get_or-set_same slots at new blank h))
    (λ (h : length slots ≤ at). inr (ap (λ (xs : List Entry). entry_at xs at) (set_past slots at new h) ∙ get_or_past slots at blank h)) (cases_lt at (length slots))

live_here : (at : ℕ) (new : Entry) (slots : List Entry) → (entry_at (set slots at new) at).valid ≡ true → entry_at (set slots at new) at ≡ new
live_here at new slots v =
    ⊎_elim (λ (e : entry_at (set slots at new) at ≡ new). e) (λ (e : entry_at (set slots at new) at ≡ blank). absurd (false≢true (sym (ap (λ (x : Entry). x.valid) e) ∙ v))) (written_here at new slots)

live_there : (at : ℕ) (new : Entry) (old : List Entry) (j : ℕ) → j ≢ at → (entry_at (with_entry at new old) j).valid ≡ true
    → (entry_at (with_entry at new old) j ≡ entry_at old j) × (ends_write at new j (entry_at old j) ≡ false)
live_there at new old j ne v =
    let stays : entry_at (with_entry at new old) j ≡ entry_at (invalidated (ends_write at new) old) j = get_or-set_other (invalidated (ends_write at new) old) at j new blank ne in
    let was = live_invalidated (ends_write at new) old j (valid_of _ _ stays v) in
    (stays ∙ was.0, was.1)

one_new : (at : ℕ) (new : Entry) (old : List Entry) (i j : ℕ) → i ≡ at → j ≢ at → (entry_at (with_entry at new old) i).valid ≡ true → (entry_at (with_entry at new old) j).valid ≡ true
    → meets (entry_at (with_entry at new old) i) (entry_at (with_entry at new old) j) ≡ false
one_new at new old i j e ne vi vj =
    let place : entry_at (with_entry at new old) i ≡ entry_at (with_entry at new old) at = ap (entry_at (with_entry at new old)) e in
    let here : entry_at (with_entry at new old) i ≡ new = place ∙ live_here at new (invalidated (ends_write at new) old) (valid_of _ _ place vi) in
    let there = live_there at new old j ne vj in
    meets_of _ _ _ _ here there.0 (spared at j new (entry_at old j) there.1 (valid_of _ _ here vi) (valid_of _ _ there.0 vj))

pub with_entry_apart : (at : ℕ) (new : Entry) (old : List Entry) → AreApart old → AreApart (with_entry at new old)
with_entry_apart at new old apart = record {
  none_meet = λ i j ne vi vj.
      ⊎_elim
      (λ (e : i ≡ at). one_new at new old i j e (λ f. ne (e ∙ sym f)) vi vj)
      (λ (other : i ≡ at → ⊥).
      ⊎_elim
      (λ (f : j ≡ at). meets_swap (entry_at (with_entry at new old) i) (entry_at (with_entry at new old) j) ∙ one_new at new old j i f other vj vi)
      (λ (apart_too : j ≡ at → ⊥).
      let here = live_there at new old i other vi in
      let there = live_there at new old j apart_too vj in
      meets_of _ _ _ _ here.0 there.0 (apart.none_meet i j ne (valid_of _ _ here.0 vi) (valid_of _ _ there.0 vj)))
      (cases_eq j at))
      (cases_eq i at);
}

written_apart : (place : Option ℕ) (mas : Mas) (old : List Entry) → AreApart old → AreApart (written_at place mas old)
written_apart None mas old apart = apart
written_apart (Some at) mas old apart = with_entry_apart at (written_entry at mas) old apart

pub writes_keep_apart : WritesKeepApart
unfolding after_write
writes_keep_apart mas old apart = written_apart (named_slot mas) mas old apart

pub one_matches : OneMatches
one_matches slots space pid ea i j apart h k =
    ⊎_elim (λ (e : i ≡ j). e)
    (λ (ne : i ≡ j → ⊥).
    let none = apart.none_meet i j ne (match_parts space pid ea (entry_at slots i) h).0 (match_parts space pid ea (entry_at slots j) k).0 in
    absurd (false≢true (sym none ∙ matches_meet space pid ea (entry_at slots i) (entry_at slots j) h k)))
    (cases_eq i j)
