-- A search of the set of a page and of TLB1 is a search of all slots.
use Rattle.std.proofs.Common.{arith, refl, ap, sym, ◌∙◌, ◌≡◌, ℕ, ◌+◌, ◌-◌, ◌*◌, ◌/◌, ◌%◌, ◌^◌, ◌<◌, ◌≤◌, Bool, true, false, List, length, take, drop, get_or, ⊎_elim, Option, Some, None}
use Rattle.std.proofs.lemmas.Bool.{cases_lt, true≢false}
use Rattle.std.proofs.lemmas.List.{length-take-le, length-drop, get_or-take, get_or-drop, get_or_past}
use Rattle.std.proofs.lemmas.List.Quantifiers.{position-Some}
use Rattle.std.proofs.lemmas.List.Sums.{fails_before_first}
use Rattle.std.specs.List.{position, position_or_len}
use Rattle.mas.specs.declared.entry.Entry.{Entry}
use Rattle.mas.specs.Page.{page_size}
use Rattle.guest_tlb.specs.Translation.{matches, IsMatch}
use Rattle.guest_tlb.specs.Slots.{blank, entry_at, search_of}
use Rattle.guest_tlb.specs.Kept.{AreApart, AreKept}
use Rattle.guest_tlb.specs.Laws.{MatchesAreFound}
use Rattle.guest_tlb.proofs.Meeting.{match_parts, match_is}
use Rattle.guest_tlb.proofs.Apart.{one_matches}
use Rattle.guest_tlb.proofs.Found.{some_below, live_set}

-- where a search finds nothing, nothing passes
nothing_passes : {X : Type 0} (p : X → Bool) (xs : List X) (k : ℕ) (d : X) → position p xs ≡ None → k < length xs → p (get_or xs k d) ≡ false
nothing_passes p xs k d h inside = let all = some_below (position_or_len p xs) (length xs) h in fails_before_first p xs k d (omega (arith, all, inside))

-- so many slots from one on
window : ℕ → ℕ → List Entry → List Entry
window from count slots = take count (drop from slots)

window_size : (from count : ℕ) (slots : List Entry) → from + count ≤ length slots → length (window from count slots) ≡ count
unfolding window
window_size from count slots fits = length-take-le count (drop from slots) (omega (arith, fits, length-drop from slots))

window_at : (from count k : ℕ) (slots : List Entry) → k < count → entry_at (window from count slots) k ≡ entry_at slots (from + k)
unfolding window
window_at from count k slots h = get_or-take count (drop from slots) k blank h ∙ get_or-drop from slots k blank

-- the one that passes is the one that is found
blank_fails : (space : Bool) (pid ea : ℕ) → matches space pid ea blank ≡ false
unfolding matches
blank_fails space pid ea = refl

inside_of_match : (slots : List Entry) (space : Bool) (pid ea k : ℕ) → matches space pid ea (entry_at slots k) ≡ true → k < length slots
inside_of_match slots space pid ea k passes =
    ⊎_elim (λ (h : k < length slots). h)
    (λ (past : length slots ≤ k). absurd (true≢false (sym passes ∙ (ap (matches space pid ea) (get_or_past slots k blank past) ∙ blank_fails space pid ea)))) (cases_lt k (length slots))

found_by : (slots : List Entry) (space : Bool) (pid ea k : ℕ) (r : Option ℕ) → AreApart slots → matches space pid ea (entry_at slots k) ≡ true → search_of space pid ea slots ≡ r → r ≡ Some k
found_by slots space pid ea k None apart passes h =
    absurd (true≢false (sym passes ∙ nothing_passes (matches space pid ea) slots k blank h (inside_of_match slots space pid ea k passes)))
found_by slots space pid ea k (Some j) apart passes h =
    let at = position-Some (matches space pid ea) slots j blank h in
    ap Some (one_matches slots space pid ea j k apart at.1 passes)

pub matches_are_found : MatchesAreFound
matches_are_found slots space pid ea slot apart passes = found_by slots space pid ea slot (search_of space pid ea slots) apart passes refl

pub found_within : (space : Bool) (pid ea from count k : ℕ) (slots : List Entry) → AreKept slots → from + count ≤ 576 → search_of space pid ea (take count (drop from slots)) ≡ Some k → search_of space pid ea slots ≡ Some (from + k)
unfolding window
found_within space pid ea from count k slots kept fits h =
    let at = position-Some (matches space pid ea) (window from count slots) k blank h in
    let size = window_size from count slots (omega (arith, fits, kept.count)) in
    let inside : k < count = omega (arith, at.0, size) in
    let passes : matches space pid ea (entry_at slots (from + k)) ≡ true = sym (ap (matches space pid ea) (window_at from count k slots inside)) ∙ at.1 in
    matches_are_found slots space pid ea (from + k) kept.apart passes

none_within : (space : Bool) (pid ea from count j : ℕ) (slots : List Entry) → AreKept slots → from + count ≤ 576 → search_of space pid ea (take count (drop from slots)) ≡ None → from ≤ j → j < from + count → matches space pid ea (entry_at slots j) ≡ false
unfolding window
none_within space pid ea from count j slots kept fits h low high =
    let size = window_size from count slots (omega (arith, fits, kept.count)) in
    let inside : j - from < count = omega (arith, low, high) in
    let place : from + (j - from) ≡ j = omega (arith, low) in
    ap (λ i. matches space pid ea (entry_at slots i)) (sym place)
    ∙ (ap (matches space pid ea) (sym (window_at from count (j - from) slots inside))
    ∙ nothing_passes (matches space pid ea) (window from count slots) (j - from) blank h (omega (arith, inside, size)))

-- a match in TLB0 is in the set of its page
same_set : (epn ea size j set : ℕ) → epn % 2 ^ 12 ≡ 0 → epn ≤ ea → ea < epn + size → size ≡ 4096 → epn / 2 ^ 12 % 128 ≡ j / 4 → set ≡ ea / 2 ^ 12 % 128 * 4 → (set ≤ j) × (j < set + 4)
same_set epn ea size j set whole begins ends four is from =
    let page : ea / 2 ^ 12 ≡ epn / 2 ^ 12 = omega (arith, whole, begins, ends, four) in (omega (arith, page, is, from), omega (arith, page, is, from))

in_its_set : (space : Bool) (pid ea j set : ℕ) (slots : List Entry) → AreKept slots → j < 512 → matches space pid ea (entry_at slots j) ≡ true → set ≡ ea / 2 ^ 12 % 128 * 4 → (set ≤ j) × (j < set + 4)
in_its_set space pid ea j set slots kept low passes from =
    let entry : Entry = entry_at slots j in
    let holds = kept.each j in
    let live = (match_parts space pid ea entry passes).0 in
    let match : IsMatch space pid ea entry = match_is space pid ea entry passes (holds.sound live) in
    same_set entry.epn ea (page_size entry.tsize) j set holds.fits.epn_whole match.begins match.ends (ap page_size (holds.tlb0_size low)) (live_set j entry holds low live) from

nowhere : (space : Bool) (pid ea set : ℕ) (slots : List Entry) (r : Option ℕ) → AreKept slots → set ≤ 508 → set ≡ ea / 2 ^ 12 % 128 * 4 → search_of space pid ea (take 4 (drop set slots)) ≡ None → search_of space pid ea (take 64 (drop 512 slots)) ≡ None → search_of space pid ea slots ≡ r → r ≡ None
nowhere space pid ea set slots None kept bound from small large h = refl
nowhere space pid ea set slots (Some j) kept bound from small large h =
    let at = position-Some (matches space pid ea) slots j blank h in
    ⊎_elim
    (λ (low : j < 512).
    let range = in_its_set space pid ea j set slots kept low at.1 from in
    absurd (true≢false (sym at.1 ∙ none_within space pid ea set 4 j slots kept (omega arith) small range.0 range.1)))
    (λ (high : 512 ≤ j).
    absurd (true≢false (sym at.1 ∙ none_within space pid ea 512 64 j slots kept (omega arith) large high (omega (arith, at.0, kept.count)))))
    (cases_lt j 512)

pub not_within : (space : Bool) (pid ea set : ℕ) (slots : List Entry) → AreKept slots → set ≤ 508 → set ≡ ea / 2 ^ 12 % 128 * 4 → search_of space pid ea (take 4 (drop set slots)) ≡ None → search_of space pid ea (take 64 (drop 512 slots)) ≡ None → search_of space pid ea slots ≡ None
not_within space pid ea set slots kept bound from small large = nowhere space pid ea set slots (search_of space pid ea slots) kept bound from small large refl
