-- What a search and a lookup find is one translation.
use Rattle.std.proofs.Common.{arith, refl, ap, sym, ◌∙◌, ◌≡◌, ℕ, zero, suc, ◌+◌, ◌/◌, ◌%◌, ◌^◌, ◌<◌, ◌≤◌, Bool, true, false, not, cond, ltb, List, [], ◌∷◌, length, get_or, Option, Some, None, IfSome, MatchOption, subst, ⊎_elim}
use Rattle.std.proofs.lemmas.Bool.{cases_lt, lt-ltb, false≢true}
use Rattle.std.proofs.lemmas.Option.{none-some}
use Rattle.std.proofs.lemmas.List.Quantifiers.{position-Some}
use Rattle.std.specs.List.{position_or_len, find, position}
use Rattle.mas.specs.declared.registers.Mas.{Mas}
use Rattle.mas.specs.declared.entry.Entry.{Entry}
use Rattle.mas.specs.Translation.{reporting}
use Rattle.guest_tlb.specs.Translation.{matches, IsMatch}
use Rattle.guest_tlb.specs.Slots.{blank, tlb0_blank, entry_at, named_slot, naming, search_of, lookup_of}
use Rattle.guest_tlb.specs.Kept.{IsKept, AreKept}
use Rattle.guest_tlb.specs.Laws.{FoundIsNamed}
use Rattle.guest_tlb.proofs.Meeting.{match_is, match_parts}
use Rattle.guest_tlb.proofs.Places.{places_name_slots}

-- the element at the first place that passes
find_at : {X : Type 0} (p : X → Bool) (xs : List X) (k : ℕ) (d : X) → k < length xs → p (get_or xs k d) ≡ true → ((j : ℕ) → j < k → p (get_or xs j d) ≡ false) → find p xs ≡ Some (get_or xs k d)
find_at p [] k d h at below = absurd (omega arith)
find_at p (x ∷ xs) zero d h at below = ap (λ b. cond b (Some x) (find p xs)) at
find_at p (x ∷ xs) (suc k) d h at below =
    ap (λ b. cond b (Some x) (find p xs)) (below 0 (omega arith)) ∙ find_at p xs k d (omega arith) at (λ j l. below (suc j) (omega arith))

-- none, where no place passes
no_more : {X : Type 0} (b : Bool) (x : X) (rest : Option X) (n len : ℕ) → (len ≤ n → rest ≡ None) → suc len ≤ cond (not b) (1 + n) 0 → cond b (Some x) rest ≡ None
no_more true x rest n len h le = absurd (omega (arith, le))
no_more false x rest n len h le = h (omega (arith, le))

find_none : {X : Type 0} (p : X → Bool) (xs : List X) → length xs ≤ position_or_len p xs → find p xs ≡ None
find_none p [] h = refl
find_none p (x ∷ xs) h = no_more (p x) x (find p xs) (position_or_len p xs) (length xs) (find_none p xs) h

pub find_is_found : {X : Type 0} (p : X → Bool) (xs : List X) (k : ℕ) (d : X) → position p xs ≡ Some k → find p xs ≡ Some (get_or xs k d)
find_is_found p xs k d h = let at = position-Some p xs k d h in find_at p xs k d at.0 at.1 at.2

pub some_below : (n len : ℕ) → cond (ltb n len) (Some n) None ≡ None → len ≤ n
some_below n len h =
    ⊎_elim (λ (l : n < len). absurd (none-some n (sym h ∙ ap (λ b. cond b (Some n) None) (lt-ltb n len l)))) (λ (l : len ≤ n). l) (cases_lt n len)

pub find_is_none : {X : Type 0} (p : X → Bool) (xs : List X) → position p xs ≡ None → find p xs ≡ None
find_is_none p xs h = find_none p xs (some_below (position_or_len p xs) (length xs) h)

-- both, by what the search answers
pub find_follows : {X : Type 0} (p : X → Bool) (xs : List X) (d : X) (r : Option ℕ) → position p xs ≡ r → MatchOption r (find p xs ≡ None) (λ k. find p xs ≡ Some (get_or xs k d))
find_follows p xs d None h = find_is_none p xs h
find_follows p xs d (Some k) h = find_is_found p xs k d h

-- of the slots
pub lookup_found : (space : Bool) (pid ea : ℕ) (slots : List Entry) (k : ℕ) → Some k ≡ search_of space pid ea slots → lookup_of space pid ea slots ≡ Some (entry_at slots k)
lookup_found space pid ea slots k h = find_is_found (matches space pid ea) slots k blank (sym h)

pub lookup_none : (space : Bool) (pid ea : ℕ) (slots : List Entry) → None ≡ search_of space pid ea slots → lookup_of space pid ea slots ≡ None
lookup_none space pid ea slots h = find_is_none (matches space pid ea) slots (sym h)

pub match_found : (space : Bool) (pid ea : ℕ) (slots : List Entry) (k : ℕ) → AreKept slots → Some k ≡ search_of space pid ea slots → IsMatch space pid ea (entry_at slots k)
match_found space pid ea slots k kept h =
    let at = position-Some (matches space pid ea) slots k blank (sym h) in
    match_is space pid ea (entry_at slots k) at.1 ((kept.each k).sound (match_parts space pid ea (entry_at slots k) at.1).0)

-- what a lookup finds matches
matches_by : (space : Bool) (pid ea : ℕ) (slots : List Entry) (r : Option ℕ) → AreKept slots → search_of space pid ea slots ≡ r → IfSome (lookup_of space pid ea slots) (IsMatch space pid ea)
matches_by space pid ea slots None kept h = subst (λ o. IfSome o (IsMatch space pid ea)) (sym (lookup_none space pid ea slots (sym h))) tt
matches_by space pid ea slots (Some k) kept h =
    subst (λ o. IfSome o (IsMatch space pid ea)) (sym (lookup_found space pid ea slots k (sym h))) (match_found space pid ea slots k kept (sym h))

pub lookup_matches : (space : Bool) (pid ea : ℕ) (slots : List Entry) → AreKept slots → IfSome (lookup_of space pid ea slots) (IsMatch space pid ea)
lookup_matches space pid ea slots kept = matches_by space pid ea slots (search_of space pid ea slots) kept refl

-- what a search found is named by the registers that report it
reported_set : (entry : Entry) (set : ℕ) → entry.epn % 2 ^ 12 ≡ 0 → entry.wimge < 2 ^ 5 → entry.epn / 2 ^ 12 % 128 ≡ set → (entry.epn + entry.wimge) / 2 ^ 12 % 128 ≡ set
reported_set entry set whole small h = omega (arith, whole, small, h)

-- a live translation of TLB0 is in the set of its page
pub live_set : (slot : ℕ) (entry : Entry) → IsKept slot entry → slot < 512 → entry.valid ≡ true → entry.epn / 2 ^ 12 % 128 ≡ slot / 4
live_set slot entry h low live =
    ⊎_elim (λ (e : entry ≡ tlb0_blank). absurd (false≢true (sym (ap (λ (x : Entry). x.valid) e) ∙ live))) (λ (e : entry.epn / 2 ^ 12 % 128 ≡ slot / 4). e) (h.tlb0_set low)

pub reported_is_named : (slots : List Entry) (mas : Mas) (slot : ℕ) → AreKept slots → slot < 576 → (entry_at slots slot).valid ≡ true → named_slot (reporting (entry_at slots slot) (naming slot mas)) ≡ Some slot
unfolding reporting
reported_is_named slots mas slot kept small live =
    let entry : Entry = entry_at slots slot in
    let holds = kept.each slot in
    places_name_slots (reporting entry mas) slot small (λ low. reported_set entry (slot / 4) holds.fits.epn_whole holds.fits.wimge_small (live_set slot entry holds low live))

pub found_is_named : FoundIsNamed
found_is_named slots mas space pid ea slot kept h =
    let at = position-Some (matches space pid ea) slots slot blank h in
    reported_is_named slots mas slot kept (omega (arith, at.0, kept.count)) (match_parts space pid ea (entry_at slots slot) at.1).0
