-- A pass over the slots, step by step: what is invalidated, and what it answers.
use Rattle.std.proofs.Common.{arith, refl, ap, sym, ◌∙◌, ◌≡◌, ℕ, ◌+◌, ◌<◌, ◌≤◌, Bool, true, false, cond, List, [], ◌∷◌, ◌++◌, length, take, drop, set, get_or, append_assoc}
use Rattle.std.proofs.lemmas.List.{take_more, drop_more, take_all, take_at, drop_all, append-nil, length-take-le, set_at, get_or_at, length-map, get_or-map, map-id}
use Rattle.std.proofs.lemmas.List.FromFn.{length-enumerate_from, get_or-enumerate_from, filter_of_map_range_with_len_more}
use Rattle.std.specs.List.{range_with_len, enumerate_from, filter}
use Rattle.mas.specs.declared.entry.Entry.{Entry}
use Rattle.guest_tlb.specs.Slots.{blank, entry_at}
use Rattle.guest_tlb.specs.Invalidation.{dead, after, invalidated, ended_slots}

pub length-invalidated : (ends : ℕ → Entry → Bool) (old : List Entry) → length (invalidated ends old) ≡ length old
unfolding invalidated
length-invalidated ends old = length-map (enumerate_from 0 old) (λ p. after ends p.0 p.1) ∙ length-enumerate_from 0 old

pub invalidated_at : (ends : ℕ → Entry → Bool) (old : List Entry) (k : ℕ) (d : Entry) → k < length old → get_or (invalidated ends old) k d ≡ after ends k (entry_at old k)
unfolding invalidated
invalidated_at ends old k d h =
    let inside : k < length (enumerate_from 0 old) = omega (arith, length-enumerate_from 0 old) in
    let pair = get_or-enumerate_from 0 old k (0, blank) h in
    let from_start : 0 + k ≡ k = omega arith in
    get_or-map (λ p. after ends p.0 p.1) (enumerate_from 0 old) k (0, blank) d inside
    ∙ (ap (λ (p : ℕ × Entry). after ends p.0 p.1) pair ∙ ap (λ j. after ends j (entry_at old k)) from_start)

-- the slots when the first k were passed
pub partly : (ℕ → Entry → Bool) → ℕ → List Entry → List Entry
partly ends k old = take k (invalidated ends old) ++ drop k old

pub partly_none : (ends : ℕ → Entry → Bool) (old : List Entry) → old ≡ partly ends 0 old
unfolding partly
partly_none ends old = refl

pub partly_all : (ends : ℕ → Entry → Bool) (old : List Entry) (k : ℕ) → length old ≤ k → partly ends k old ≡ invalidated ends old
unfolding partly
partly_all ends old k h =
    let over : length (invalidated ends old) ≤ k = omega (arith, length-invalidated ends old) in
    rw (take_all k (invalidated ends old) over) (rw (drop_all k old h) (append-nil (invalidated ends old)))

-- the slot that comes next is as it was
pub partly_next : (ends : ℕ → Entry → Bool) (old : List Entry) (k : ℕ) → k < length old → entry_at (partly ends k old) k ≡ entry_at old k
unfolding partly
partly_next ends old k h =
    let front : length (take k (invalidated ends old)) ≡ k = length-take-le k (invalidated ends old) (omega (arith, length-invalidated ends old)) in
    rw (drop_more old k blank h) (get_or_at (take k (invalidated ends old)) (entry_at old k) (drop (k + 1) old) blank k front)

one_more : (ends : ℕ → Entry → Bool) (old : List Entry) (k : ℕ) → k < length old → take k (invalidated ends old) ++ (after ends k (entry_at old k) ∷ drop (k + 1) old) ≡ take (k + 1) (invalidated ends old) ++ drop (k + 1) old
one_more ends old k h =
    let inside : k < length (invalidated ends old) = omega (arith, length-invalidated ends old) in
    rw (take_more (invalidated ends old) k blank inside) (rw (invalidated_at ends old k blank h) (sym (append_assoc (take k (invalidated ends old)) (after ends k (entry_at old k) ∷ []) (drop (k + 1) old))))

pub partly_kept : (ends : ℕ → Entry → Bool) (old : List Entry) (k : ℕ) → k < length old → ends k (entry_at old k) ≡ false → partly ends k old ≡ partly ends (k + 1) old
unfolding partly
partly_kept ends old k h stays =
    let same : after ends k (entry_at old k) ≡ entry_at old k = ap (λ b. cond b (dead (entry_at old k)) (entry_at old k)) stays in
    ap (λ zs. take k (invalidated ends old) ++ zs) (drop_more old k blank h)
    ∙ (ap (λ y. take k (invalidated ends old) ++ (y ∷ drop (k + 1) old)) (sym same) ∙ one_more ends old k h)

pub partly_ended : (ends : ℕ → Entry → Bool) (old : List Entry) (k : ℕ) → k < length old → ends k (entry_at old k) ≡ true → set (partly ends k old) k (dead (entry_at old k)) ≡ partly ends (k + 1) old
unfolding partly
partly_ended ends old k h goes =
    let front : length (take k (invalidated ends old)) ≡ k = length-take-le k (invalidated ends old) (omega (arith, length-invalidated ends old)) in
    let new : after ends k (entry_at old k) ≡ dead (entry_at old k) = ap (λ b. cond b (dead (entry_at old k)) (entry_at old k)) goes in
    ap (λ zs. set (take k (invalidated ends old) ++ zs) k (dead (entry_at old k))) (drop_more old k blank h)
    ∙ (set_at (take k (invalidated ends old)) (entry_at old k) (drop (k + 1) old) (dead (entry_at old k)) k front
    ∙ (ap (λ y. take k (invalidated ends old) ++ (y ∷ drop (k + 1) old)) (sym new) ∙ one_more ends old k h))

-- the ended slots among the first k
pub ended_below : (ℕ → Entry → Bool) → ℕ → List Entry → List ℕ
ended_below ends k old = filter (λ slot. ends slot (entry_at old slot)) (range_with_len 0 k)

pub ended_below_none : (ends : ℕ → Entry → Bool) (old : List Entry) → [] ≡ ended_below ends 0 old
unfolding ended_below
ended_below_none ends old = refl

pub ended_below_all : (ends : ℕ → Entry → Bool) (old : List Entry) (k : ℕ) → k ≡ length old → ended_below ends k old ≡ ended_slots ends old
unfolding ended_below ended_slots
ended_below_all ends old k h = ap (λ n. filter (λ slot. ends slot (entry_at old slot)) (range_with_len 0 n)) h

ended_more : (ends : ℕ → Entry → Bool) (old : List Entry) (k : ℕ) → ended_below ends (k + 1) old ≡ ended_below ends k old ++ cond (ends k (entry_at old k)) (k ∷ []) []
unfolding ended_below
ended_more ends old k =
    let step = filter_of_map_range_with_len_more (λ slot. ends slot (entry_at old slot)) (λ n. n) 0 k k (omega arith) in
    rw map-id at rw map-id at step

pub ended_more_kept : (ends : ℕ → Entry → Bool) (old : List Entry) (k : ℕ) → ends k (entry_at old k) ≡ false → ended_below ends k old ≡ ended_below ends (k + 1) old
ended_more_kept ends old k stays =
    sym (ended_more ends old k ∙ (ap (λ b. ended_below ends k old ++ cond b (k ∷ []) []) stays ∙ append-nil (ended_below ends k old)))

pub ended_more_ended : (ends : ℕ → Entry → Bool) (old : List Entry) (k : ℕ) → ends k (entry_at old k) ≡ true → ended_below ends k old ++ k ∷ [] ≡ ended_below ends (k + 1) old
ended_more_ended ends old k goes =
    sym (ended_more ends old k ∙ ap (λ b. ended_below ends k old ++ cond b (k ∷ []) []) goes)

-- one step of the pass, with the slots as they stand
test_before : (ends : ℕ → Entry → Bool) (old now : List Entry) (k : ℕ) (b c : Bool) → now ≡ partly ends k old → k < length old → b ≡ ends k (entry_at now k) → b ≡ c → ends k (entry_at old k) ≡ c
test_before ends old now k b c is h tests was =
    let same : entry_at now k ≡ entry_at old k = ap (λ (xs : List Entry). entry_at xs k) is ∙ partly_next ends old k h in
    sym (ap (ends k) same) ∙ (sym tests ∙ was)

pub step_ended : (ends : ℕ → Entry → Bool) (old now next : List Entry) (k : ℕ) (b : Bool) → now ≡ partly ends k old → k < length old → b ≡ ends k (entry_at now k) → b ≡ true → next ≡ set now k (dead (entry_at now k)) → next ≡ partly ends (k + 1) old
step_ended ends old now next k b is h tests was write =
    let same : entry_at now k ≡ entry_at old k = ap (λ (xs : List Entry). entry_at xs k) is ∙ partly_next ends old k h in
    write ∙ (ap (λ (e : Entry). set now k (dead e)) same ∙ (ap (λ (xs : List Entry). set xs k (dead (entry_at old k))) is
    ∙ partly_ended ends old k h (test_before ends old now k b true is h tests was)))

pub step_kept : (ends : ℕ → Entry → Bool) (old now next : List Entry) (k : ℕ) (b : Bool) → now ≡ partly ends k old → k < length old → b ≡ ends k (entry_at now k) → b ≡ false → next ≡ now → next ≡ partly ends (k + 1) old
step_kept ends old now next k b is h tests was stays =
    stays ∙ (is ∙ partly_kept ends old k h (test_before ends old now k b false is h tests was))

pub answer_ended : (ends : ℕ → Entry → Bool) (old now : List Entry) (dead next : List ℕ) (k : ℕ) (b : Bool) → now ≡ partly ends k old → k < length old → b ≡ ends k (entry_at now k) → b ≡ true → dead ≡ ended_below ends k old → next ≡ dead ++ k ∷ [] → next ≡ ended_below ends (k + 1) old
answer_ended ends old now dead next k b is h tests was so_far push =
    push ∙ (ap (λ (xs : List ℕ). xs ++ k ∷ []) so_far ∙ ended_more_ended ends old k (test_before ends old now k b true is h tests was))

pub answer_kept : (ends : ℕ → Entry → Bool) (old now : List Entry) (dead next : List ℕ) (k : ℕ) (b : Bool) → now ≡ partly ends k old → k < length old → b ≡ ends k (entry_at now k) → b ≡ false → dead ≡ ended_below ends k old → next ≡ dead → next ≡ ended_below ends (k + 1) old
answer_kept ends old now dead next k b is h tests was so_far stays =
    stays ∙ (so_far ∙ ended_more_kept ends old k (test_before ends old now k b false is h tests was))

-- a list that was lent whole and came back
pub lent_back : (n : ℕ) (old now rest new : List Entry) → n ≡ length old → length now ≡ length old → now ≡ new → take n (now ++ rest) ≡ new
lent_back n old now rest new count same is = take_at now rest n (same ∙ sym count) ∙ is
