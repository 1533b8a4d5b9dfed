-- What the slots keep, after each change.
use Rattle.std.proofs.Common.{arith, refl, ap, sym, ◌∙◌, subst, ◌≡◌, ℕ, ◌+◌, ◌-◌, ◌*◌, ◌/◌, ◌%◌, ◌^◌, ◌<◌, ◌≤◌, ◌==◌, Bool, true, false, cond, nat_lt, nat_le, List, [], length, set, length-set, ⊎_elim, inl, inr, Option, Some, None}
use Rattle.std.proofs.lemmas.Bool.{cases_eq, cases_lt, false≢true, and_parts, leb-true, ltb-false}
use Rattle.std.proofs.lemmas.List.{get_or_past, get_or-set_same, get_or-set_other, set_past}
use Rattle.std.proofs.Math.Nat.{mul_assoc}
use Rattle.mas.specs.declared.registers.Mas.{Mas}
use Rattle.mas.specs.declared.entry.Entry.{Entry}
use Rattle.mas.specs.Page.{page_size}
use Rattle.mas.specs.Translation.{Fits, entry_of}
use Rattle.mas.proofs.Held.{held_fits}
use Rattle.mas.proofs.Sizes.{size_of_pages, sizes_in_space, size_is_positive, aligned_whole, aligned_page, aligned_ends}
use Rattle.guest_tlb.specs.Translation.{IsSound}
use Rattle.guest_tlb.specs.Slots.{blank, tlb0_blank, entry_at, named_slot, written_entry, tlb0_form, has_size, aligned, tlb1_form, initial_slots, initial_area, initial_entry}
use Rattle.guest_tlb.specs.Invalidation.{dead, after, invalidated, ends_write, ended_slots, with_entry, written_at, after_write, ended_at, ended_by_write}
use Rattle.guest_tlb.specs.Kept.{IsKept, AreKept}
use Rattle.guest_tlb.specs.Laws.{WritesKeepAll, InvalidationsKeepAll, ResetIsKept}
use Rattle.guest_tlb.proofs.Passes.{length-invalidated, invalidated_at}
use Rattle.guest_tlb.proofs.Places.{named_set}
use Rattle.guest_tlb.proofs.Apart.{invalidations_keep_apart, with_entry_apart}
use Rattle.guest_tlb.proofs.Reset.{length-initial_slots, reset_at, reset_past, reset_is_apart}

-- entries that are known to be others
kept_of : (k : ℕ) (a x : Entry) → a ≡ x → IsKept k x → IsKept k a
kept_of k a x e h = let P : Entry → Type 0 = IsKept k in subst P (sym e) h

-- what still fits when fields of it change
fits_with : (entry : Entry) (valid iprot : Bool) (tsize epn rpn : ℕ) → tsize < 2 ^ 4 → epn < 2 ^ 32 → epn % 2 ^ 12 ≡ 0 → rpn < 2 ^ 36 → rpn % 2 ^ 12 ≡ 0 → Fits entry →
    Fits (record entry { valid = valid; iprot = iprot; tsize = tsize; epn = epn; rpn = rpn })
fits_with entry valid iprot tsize epn rpn size page page_whole frame frame_whole h = record {
  tid_small = h.tid_small;
  tsize_small = size;
  epn_small = page;
  epn_whole = page_whole;
  wimge_small = h.wimge_small;
  rpn_small = frame;
  rpn_whole = frame_whole;
  perms_small = h.perms_small;
}

-- an invalidated translation keeps what its fields keep
dead_fits : (entry : Entry) → Fits entry → Fits (dead entry)
dead_fits entry h = fits_with entry false entry.iprot entry.tsize entry.epn entry.rpn h.tsize_small h.epn_small h.epn_whole h.rpn_small h.rpn_whole h

dead_kept : (k : ℕ) (entry : Entry) → IsKept k entry → IsKept k (dead entry)
dead_kept k entry h = record {
  fits = dead_fits entry h.fits;
  sound = λ v. absurd (false≢true v);
  tlb0_size = h.tlb0_size;
  tlb0_open = h.tlb0_open;
  tlb0_set = λ low. ⊎_elim (λ (e : entry ≡ tlb0_blank). inl (ap dead e)) (λ (e : entry.epn / 2 ^ 12 % 128 ≡ k / 4). inr e) (h.tlb0_set low);
}

-- of TLB1 no more is kept
tlb1_kept : (k : ℕ) (entry : Entry) → 512 ≤ k → Fits entry → (entry.valid ≡ true → IsSound entry) → IsKept k entry
tlb1_kept k entry high fits sound = record {
  fits = fits;
  sound = sound;
  tlb0_size = λ low. absurd (omega arith);
  tlb0_open = λ low. absurd (omega arith);
  tlb0_set = λ low. absurd (omega arith);
}

-- a slot that was never written
blank_fits : Fits blank
unfolding entry_of
blank_fits = held_fits (record { m0 = 0; m1 = 0; m2 = 0; m3 = 0; m4 = 0; m6 = 0; m7 = 0 })

blank_kept : (k : ℕ) → 512 ≤ k → IsKept k blank
blank_kept k high = tlb1_kept k blank high blank_fits (λ v. absurd (false≢true v))

tlb0_blank_kept : (k : ℕ) → IsKept k tlb0_blank
tlb0_blank_kept k = record {
  fits = fits_with blank false false 1 0 0 (omega arith) (omega arith) refl (omega arith) refl blank_fits;
  sound = λ v. absurd (false≢true v);
  tlb0_size = λ _. refl;
  tlb0_open = λ _. refl;
  tlb0_set = λ _. inl refl;
}

after_kept : (ends : ℕ → Entry → Bool) (k : ℕ) (entry : Entry) → IsKept k entry → IsKept k (after ends k entry)
after_kept ends k entry h = by_test (ends k entry)
  where
    by_test : (b : Bool) → IsKept k (cond b (dead entry) entry)
    by_test true = dead_kept k entry h
    by_test false = h

invalidated_kept : (ends : ℕ → Entry → Bool) (old : List Entry) (k : ℕ) → IsKept k (entry_at old k) → IsKept k (entry_at (invalidated ends old) k)
invalidated_kept ends old k h =
    ⊎_elim (λ (inside : k < length old). kept_of k _ _ (invalidated_at ends old k blank inside) (after_kept ends k (entry_at old k) h))
    (λ (past : length old ≤ k). kept_of k _ _ (get_or_past (invalidated ends old) k blank (omega (arith, length-invalidated ends old)) ∙ sym (get_or_past old k blank past)) h)
    (cases_lt k (length old))

pub invalidations_keep_all : InvalidationsKeepAll
invalidations_keep_all ends old h = record {
  count = length-invalidated ends old ∙ h.count;
  each = λ k. invalidated_kept ends old k (h.each k);
  apart = invalidations_keep_apart ends old h.apart;
}

-- a translation as TLB0 takes it
small_sound : (entry : Entry) → Fits entry → IsSound (tlb0_form entry)
small_sound entry h = record {
  fits = fits_with entry entry.valid false 1 entry.epn entry.rpn (omega arith) h.epn_small h.epn_whole h.rpn_small h.rpn_whole h;
  least = omega arith;
  most = omega arith;
  page_whole = h.epn_whole;
  page_ends = omega (arith, h.epn_small, h.epn_whole);
  frame_whole = h.rpn_whole;
  frame_ends = omega (arith, h.rpn_small, h.rpn_whole);
}

-- a translation of TLB1, of a size that it has
unfoldable pub placed : Entry → Entry
placed entry = record entry { epn = aligned (page_size entry.tsize) entry.epn; rpn = aligned (page_size entry.tsize) entry.rpn }

size_positive : (t : ℕ) → 0 < 4 ^ t * 2 ^ 10
size_positive t = omega (arith, size_is_positive t)

sized_sound : (entry : Entry) → Fits entry → 1 ≤ entry.tsize → entry.tsize ≤ 11 → IsSound (placed entry)
unfolding placed
sized_sound entry h low high =
    let s : ℕ = 4 ^ entry.tsize * 2 ^ 10 in
    let k : ℕ = 4 ^ (11 - entry.tsize) in
    let space : k * s ≡ 2 ^ 32 = sizes_in_space entry.tsize high in
    let long : 16 * k * s ≡ 2 ^ 36 = mul_assoc 16 k s ∙ ap (λ n. 16 * n) space in
    let pages : s ≡ 4 ^ (entry.tsize - 1) * 2 ^ 12 = size_of_pages entry.tsize low in
    let page : entry.epn - entry.epn % s + s ≤ k * s = aligned_ends s k entry.epn (size_positive entry.tsize) (omega (arith, h.epn_small, space)) in
    let frame : entry.rpn - entry.rpn % s + s ≤ 16 * k * s = aligned_ends s (16 * k) entry.rpn (size_positive entry.tsize) (omega (arith, h.rpn_small, long)) in
    record {
      fits =
          fits_with entry entry.valid entry.iprot entry.tsize (aligned s entry.epn) (aligned s entry.rpn) h.tsize_small (omega (arith, h.epn_small)) (aligned_page s (4 ^ (entry.tsize - 1)) entry.epn pages)
          (omega (arith, h.rpn_small)) (aligned_page s (4 ^ (entry.tsize - 1)) entry.rpn pages) h;
      least = low;
      most = high;
      page_whole = aligned_whole s entry.epn;
      page_ends = omega (arith, page, space);
      frame_whole = aligned_whole s entry.rpn;
      frame_ends = omega (arith, frame, long);
    }

sized_kept : (k : ℕ) (entry : Entry) → 512 ≤ k → Fits entry → IsKept k (tlb1_form entry)
unfolding placed
sized_kept k entry high h = by_size (has_size entry) refl
  where
    by_size : (b : Bool) → has_size entry ≡ b → IsKept k (cond b (placed entry) (dead entry))
    by_size true e =
        let range = and_parts (nat_le 1 entry.tsize) (nat_le entry.tsize 11) e in
        let sound : IsSound (placed entry) = sized_sound entry h (leb-true 1 entry.tsize range.0) (leb-true entry.tsize 11 range.1) in
        tlb1_kept k (placed entry) high sound.fits (λ _. sound)
    by_size false e = tlb1_kept k (dead entry) high (dead_fits entry h) (λ v. absurd (false≢true v))

-- the set of a page in MAS2 is that of the translation that the registers hold
held_set : (mas : Mas) (at : ℕ) → named_slot mas ≡ Some at → at < 512 → (entry_of mas).epn / 2 ^ 12 % 128 ≡ at / 4
unfolding entry_of
held_set mas at h low = omega (arith, named_set mas at h low)

-- what a write leaves in its slot
pub written_kept : (at : ℕ) (mas : Mas) → named_slot mas ≡ Some at → IsKept at (written_entry at mas)
unfolding written_entry
written_kept at mas h = by_place (nat_lt at 512) refl
  where
    by_place : (b : Bool) → nat_lt at 512 ≡ b → IsKept at (cond b (tlb0_form (entry_of mas)) (tlb1_form (entry_of mas)))
    by_place true e =
        let sound : IsSound (tlb0_form (entry_of mas)) = small_sound (entry_of mas) (held_fits mas) in
        record { fits = sound.fits; sound = λ _. sound; tlb0_size = λ _. refl; tlb0_open = λ _. refl; tlb0_set = λ low. inr (held_set mas at h low) }
    by_place false e = sized_kept at (entry_of mas) (ltb-false at 512 e) (held_fits mas)

with_entry_kept : (at k : ℕ) (new : Entry) (old : List Entry) → IsKept at new → IsKept k (entry_at old k) → IsKept k (entry_at (with_entry at new old) k)
with_entry_kept at k new old fresh h =
    let left : List Entry = invalidated (ends_write at new) old in
    let spared : IsKept k (entry_at left k) = invalidated_kept (ends_write at new) old k h in
    ⊎_elim
    (λ (e : k ≡ at).
    ⊎_elim (λ (inside : at < length left). let P : ℕ → Type 0 = λ j. IsKept j (entry_at (set left at new) j) in subst P (sym e) (kept_of at _ _ (get_or-set_same left at new blank inside) fresh))
    (λ (past : length left ≤ at). kept_of k _ _ (ap (λ (xs : List Entry). entry_at xs k) (set_past left at new past)) spared)
    (cases_lt at (length left)))
    (λ (ne : k ≡ at → ⊥). kept_of k _ _ (get_or-set_other left at k new blank ne) spared)
    (cases_eq k at)

put_keeps : (at : ℕ) (new : Entry) (old : List Entry) → IsKept at new → AreKept old → AreKept (with_entry at new old)
put_keeps at new old fresh h = record {
  count = length-set (invalidated (ends_write at new) old) at new ∙ (length-invalidated (ends_write at new) old ∙ h.count);
  each = λ k. with_entry_kept at k new old fresh (h.each k);
  apart = with_entry_apart at new old h.apart;
}

written_keeps : (place : Option ℕ) (mas : Mas) (old : List Entry) → named_slot mas ≡ place → AreKept old → AreKept (written_at place mas old)
written_keeps None mas old e h = h
written_keeps (Some at) mas old e h = put_keeps at (written_entry at mas) old (written_kept at mas e) h

pub writes_keep_all : WritesKeepAll
unfolding after_write
writes_keep_all mas old h = written_keeps (named_slot mas) mas old refl h

-- the initial area
area_sound : IsSound initial_area
unfolding initial_area entry_of
area_sound = record {
  fits = held_fits (record { m0 = 0; m1 = 0xC0000800; m2 = 4; m3 = 0x15; m4 = 0; m6 = 0; m7 = 0 });
  least = omega arith;
  most = omega arith;
  page_whole = refl;
  page_ends = omega arith;
  frame_whole = refl;
  frame_ends = omega arith;
}

initial_kept : (k : ℕ) → IsKept k (initial_entry k)
initial_kept k = by_place (nat_lt k 512) (k == 512) refl
  where
    by_place : (low first : Bool) → nat_lt k 512 ≡ low → IsKept k (cond low tlb0_blank (cond first initial_area blank))
    by_place true first e = tlb0_blank_kept k
    by_place false true e = tlb1_kept k initial_area (ltb-false k 512 e) area_sound.fits (λ _. area_sound)
    by_place false false e = blank_kept k (ltb-false k 512 e)

pub reset_is_kept : ResetIsKept
reset_is_kept = record {
  count = length-initial_slots;
  each = λ k.
      ⊎_elim (λ (h : k < 576). kept_of k _ _ (reset_at k h) (initial_kept k)) (λ (h : 576 ≤ k). kept_of k _ _ (reset_past k h) (blank_kept k (omega (arith, h)))) (cases_lt k 576);
  apart = reset_is_apart;
}

-- the same of entries and lists that are known to be these
pub written_kept_as : (at : ℕ) (mas : Mas) (entry : Entry) → named_slot mas ≡ Some at → entry ≡ written_entry at mas → IsKept at entry
written_kept_as at mas entry h e = kept_of at entry (written_entry at mas) e (written_kept at mas h)

pub all_kept_of : (xs ys : List Entry) → xs ≡ ys → AreKept ys → AreKept xs
all_kept_of xs ys e h = let P : List Entry → Type 0 = AreKept in subst P (sym e) h

pub invalidated_all_kept : (ends : ℕ → Entry → Bool) (old new : List Entry) → new ≡ invalidated ends old → AreKept old → AreKept new
invalidated_all_kept ends old new e h = all_kept_of new (invalidated ends old) e (invalidations_keep_all ends old h)

pub reset_all_kept : (new : List Entry) → new ≡ initial_slots → AreKept new
reset_all_kept new e = all_kept_of new initial_slots e reset_is_kept

pub put_all_kept : (at : ℕ) (new : Entry) (old slots : List Entry) → IsKept at new → slots ≡ with_entry at new old → AreKept old → AreKept slots
put_all_kept at new old slots fresh e h = all_kept_of slots (with_entry at new old) e (put_keeps at new old fresh h)

-- a write by the slot that its registers name
pub after_write_nowhere : (mas : Mas) (slots : List Entry) → named_slot mas ≡ None → after_write mas slots ≡ slots
unfolding after_write
after_write_nowhere mas slots e = ap (λ (place : Option ℕ). written_at place mas slots) e

pub after_write_there : (mas : Mas) (slots : List Entry) (at : ℕ) → named_slot mas ≡ Some at → after_write mas slots ≡ with_entry at (written_entry at mas) slots
unfolding after_write
after_write_there mas slots at e = ap (λ (place : Option ℕ). written_at place mas slots) e

pub ended_nowhere : (mas : Mas) (slots : List Entry) → named_slot mas ≡ None → ended_by_write mas slots ≡ []
unfolding ended_by_write
ended_nowhere mas slots e = ap (λ (place : Option ℕ). ended_at place mas slots) e

pub ended_there : (mas : Mas) (slots : List Entry) (at : ℕ) → named_slot mas ≡ Some at → ended_by_write mas slots ≡ ended_slots (ends_write at (written_entry at mas)) slots
unfolding ended_by_write
ended_there mas slots at e = ap (λ (place : Option ℕ). ended_at place mas slots) e
