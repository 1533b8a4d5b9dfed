-- Draws.
use Rattle.std.proofs.Common.{◌≡◌, ℕ, zero, suc, ◌+◌, ◌*◌, ◌%◌, ◌^◌, ◌<◌, ◌≤◌, true, ◌&&◌, List, [], ◌∷◌, ◌++◌, map, length, refl, sym, ap, ◌∙◌, arith}
use Rattle.std.specs.List.{list_all, range_with_len}
use Rattle.std.proofs.Math.Nat.{mod-add-mod}
use Rattle.std.proofs.lemmas.Bool.{lt-ltb}
use Rattle.std.proofs.lemmas.List.FromFn.{length-map-range_with_len, map-range_with_len_more}
use Rattle.gen_load.specs.Draws.{next, given, state_after, drawn, count_of, starts_of, order_of}
use Rattle.gen_load.specs.Laws.{are_below}

pub next_is : (state : ℕ) → ((state * 6364136223846793005) % 2 ^ 64 + 1442695040888963407) % 2 ^ 64 ≡ next state
unfolding next
next_is state = mod-add-mod (state * 6364136223846793005) (2 ^ 64) 1442695040888963407

pub state-one : (state : ℕ) → state_after 1 state ≡ next state
unfolding state_after
state-one state = refl

pub state-more : (draws state : ℕ) → state_after (draws + 1) state ≡ next (state_after draws state)
unfolding state_after
state-more draws state = ap (λ n. state_after n state) (let e : draws + 1 ≡ suc draws = omega arith in e)

pub state-behind : (draws state : ℕ) → state_after draws (state_after 1 state) ≡ state_after (1 + draws) state
unfolding state_after
state-behind zero state = refl
state-behind (suc draws) state = ap next (state-behind draws state) ∙ ap (λ n. state_after n state) (let e : suc (1 + draws) ≡ 1 + suc draws = omega arith in e)

pub drawn-none : (state modulus : ℕ) → drawn state 0 modulus ≡ []
unfolding drawn
drawn-none state modulus = refl

pub drawn-more : (state many modulus : ℕ) → drawn state (many + 1) modulus ≡ drawn state many modulus ++ given (state_after (many + 1) state) % modulus ∷ []
unfolding drawn
drawn-more state many modulus = map-range_with_len_more (λ place. given (state_after (place + 1) state) % modulus) 0 many many (omega arith)

pub length-drawn : (state many modulus : ℕ) → length (drawn state many modulus) ≡ many
unfolding drawn
length-drawn state many modulus = length-map-range_with_len _ 0 many

rests-below : (f : ℕ → ℕ) (modulus limit : ℕ) → 0 < modulus → modulus ≤ limit → (places : List ℕ) → list_all (are_below limit) (map (λ place. f place % modulus) places) ≡ true
rests-below f modulus limit some up [] = refl
rests-below f modulus limit some up (place ∷ places) =
    let low : f place % modulus < limit = omega arith in
    (λ i. lt-ltb (f place % modulus) limit low i && rests-below f modulus limit some up places i)

pub drawn-below : (state many modulus limit : ℕ) → 0 < modulus → modulus ≤ limit → list_all (are_below limit) (drawn state many modulus) ≡ true
unfolding drawn
drawn-below state many modulus limit some up = rests-below (λ place. given (state_after (place + 1) state)) modulus limit some up (range_with_len 0 many)

-- ---- what a number decides

pub count-few : (number : ℕ) → (2 ≤ count_of number) × (count_of number ≤ 8)
unfolding count_of
count-few number = (omega arith, omega arith)

pub starts-small : (number : ℕ) → (length (starts_of number) ≡ count_of number) × (list_all (are_below 32768) (starts_of number) ≡ true)
unfolding starts_of
starts-small number = (length-drawn _ _ _, drawn-below _ _ 32768 32768 (omega arith) (omega arith))

pub order-named : (number : ℕ) → (length (order_of number) ≡ 64) × (list_all (are_below (count_of number)) (order_of number) ≡ true)
unfolding order_of
order-named number = let few = count-few number in let low : 0 < count_of number = omega arith in (length-drawn _ _ _, drawn-below _ _ (count_of number) (count_of number) low (omega arith))

pub starts-are : (number : ℕ) → starts_of number ≡ drawn (next number) (count_of number) 32768
unfolding starts_of
starts-are number = ap (λ state. drawn state (count_of number) 32768) (state-one number)

pub order-is : (number : ℕ) → order_of number ≡ drawn (state_after (count_of number) (next number)) 64 (count_of number)
unfolding order_of
order-is number =
    ap (λ state. drawn state 64 (count_of number)) (sym (state-behind (count_of number) number) ∙ ap (state_after (count_of number)) (state-one number))

pub order-below : (number limit : ℕ) → 8 ≤ limit → list_all (are_below limit) (order_of number) ≡ true
unfolding order_of
order-below number limit up = let few = count-few number in let low : 0 < count_of number = omega arith in drawn-below _ _ (count_of number) limit low (omega arith)

-- ---- what is drawn in turn

pub drawn-push : (state many modulus current value : ℕ) (before after : List ℕ) → before ≡ drawn state many modulus → current ≡ state_after (many + 1) state → value ≡ given current % modulus
    → after ≡ before ++ value ∷ [] → after ≡ drawn state (many + 1) modulus
drawn-push state many modulus current value before after list now is pushed =
    pushed ∙ (λ i. list i ++ (is ∙ ap (λ s. given s % modulus) now) i ∷ []) ∙ sym (drawn-more state many modulus)

pub starts-known : (number count state : ℕ) (starts : List ℕ) → count ≡ count_of number → state ≡ next number → starts ≡ drawn state count 32768 → starts ≡ starts_of number
starts-known number count state starts same first list = list ∙ (λ i. drawn (first i) (same i) 32768) ∙ sym (starts-are number)

pub order-known : (number count state after : ℕ) (order : List ℕ) → count ≡ count_of number → state ≡ next number → after ≡ state_after count state → order ≡ drawn after 64 count → order ≡ order_of number
order-known number count state after order same first behind list =
    list ∙ (λ i. drawn ((behind ∙ (λ j. state_after (same j) (first j))) i) 64 (same i)) ∙ sym (order-is number)
