-- One core after another, where others stored.
use Rattle.std.proofs.Common.{◌≡◌, ℕ, zero, suc, ◌+◌, ◌<◌, List, [], ◌∷◌, ◌++◌, drop, length, map, take, slice_index_or, slice_set, refl, sym, ap, ◌∙◌, arith, add-one}

one_next : {X : Type 0} (f : X → X) (xs : List X) (k : ℕ) (d : X) → k < length xs
    → slice_set (map f (take k xs) ++ drop k xs) k (f (slice_index_or (map f (take k xs) ++ drop k xs) k d)) ≡ map f (take (suc k) xs) ++ drop (suc k) xs
one_next f [] k d there = absurd (omega arith)
one_next f (x ∷ xs) zero d there = refl
one_next f (x ∷ xs) (suc k) d there = ap (λ (l : List _). f x ∷ l) (one_next f xs k d (omega arith))

pub one_more : {X : Type 0} (f : X → X) (xs now : List X) (k : ℕ) (x d : X) → k < length xs → now ≡ map f (take k xs) ++ drop k xs → x ≡ f (slice_index_or now k d)
    → slice_set now k x ≡ map f (take (k + 1) xs) ++ drop (k + 1) xs
one_more f xs now k x d there e is =
    ap (slice_set now k) is
    ∙ (ap (λ (l : List _). slice_set l k (f (slice_index_or l k d))) e ∙ (one_next f xs k d there ∙ ap (λ (n : ℕ). map f (take n xs) ++ drop n xs) (sym (add-one k))))

pub all_kept : {X : Type 0} (f : X → X) (xs : List X) (k : ℕ) → k ≡ length xs → map f (take k xs) ++ drop k xs ≡ map f xs
all_kept f [] zero last = refl
all_kept f [] (suc k) last = refl
all_kept f (x ∷ xs) zero last = absurd (omega (arith, last))
all_kept f (x ∷ xs) (suc k) last = ap (λ (l : List _). f x ∷ l) (all_kept f xs k (omega (arith, last)))
