-- Four words spell sixteen bytes.
use Rattle.std.proofs.Common.{◌≡◌, ℕ, zero, suc, ◌+◌, ◌-◌, ◌<◌, ◌≤◌, List, [], ◌∷◌, ◌++◌, length, All, slice_index, replicate, flat_map, refl, ap, sym, ◌∙◌, arith}
use Rattle.std.specs.Int.{w32, to_be_bytes, from_be_bytes}
use Rattle.std.proofs.lemmas.Nat.{be_bytes_4}
use Rattle.std.proofs.lemmas.List.Elements.{All-nil, All-cons, All-head, All-tail}
use Rattle.hcall_abi.specs.Payload.{word_at, words_of}

-- the first n values of a function
abbrev first : ℕ → (ℕ → ℕ) → List ℕ
first zero f = []
first (suc n) f = f 0 ∷ first n (λ k. f (suc k))

zeros : (n : ℕ) → first n (λ k. 0) ≡ replicate n 0
zeros zero = refl
zeros (suc n) = ap (λ xs. 0 ∷ xs) (zeros n)

-- the first bytes of a list, and zeros where it has no more
pub padded : (n : ℕ) (bytes : List ℕ) → length bytes ≤ n → first n (slice_index bytes) ≡ bytes ++ replicate (n - length bytes) 0
padded n [] fits =
    let all : n - 0 ≡ n = omega arith in
    zeros n ∙ ap (λ m. replicate m 0) (sym all)
padded zero (byte ∷ bytes) fits = absurd (omega (arith, fits))
padded (suc n) (byte ∷ bytes) fits =
    let fewer : suc n - suc (length bytes) ≡ n - length bytes = omega arith in
    ap (λ xs. byte ∷ xs) (padded n bytes (omega (arith, fits)) ∙ ap (λ m. bytes ++ replicate m 0) (sym fewer))

-- each byte is one, also behind the last
small : (bytes : List ℕ) → All (λ byte. byte < 256) bytes → (k : ℕ) → slice_index bytes k < 256
small [] each k = omega arith
small (byte ∷ bytes) each zero = All-head (λ b. b < 256) byte bytes each
small (byte ∷ bytes) each (suc k) = small bytes (All-tail (λ b. b < 256) byte bytes each) k

-- the four bytes that a word is made of are those that it spells
spelled : (a b c d : ℕ) → a < 256 → b < 256 → c < 256 → d < 256 → to_be_bytes w32 (from_be_bytes w32 (a ∷ b ∷ c ∷ d ∷ [])) ≡ a ∷ b ∷ c ∷ d ∷ []
spelled a b c d e f g h =
    let P : ℕ → Type 0 = λ n. n < 256 in
    let all : All P (a ∷ b ∷ c ∷ d ∷ []) = All-cons P a (b ∷ c ∷ d ∷ []) e (All-cons P b (c ∷ d ∷ []) f (All-cons P c (d ∷ []) g (All-cons P d [] h (All-nil P)))) in
    be_bytes_4 (a ∷ b ∷ c ∷ d ∷ []) _ refl (small (a ∷ b ∷ c ∷ d ∷ []) all) refl

word_spelled : (bytes : List ℕ) → All (λ byte. byte < 256) bytes → (n : ℕ) → to_be_bytes w32 (word_at bytes n) ≡ slice_index bytes n ∷ slice_index bytes (n + 1) ∷ slice_index bytes (n + 2) ∷ slice_index bytes (n + 3) ∷ []
word_spelled bytes each n = spelled _ _ _ _ (small bytes each n) (small bytes each (n + 1)) (small bytes each (n + 2)) (small bytes each (n + 3))

pub words_spelled : (bytes : List ℕ) → length bytes ≤ 16 → All (λ byte. byte < 256) bytes → flat_map (to_be_bytes w32) (words_of bytes) ≡ bytes ++ replicate (16 - length bytes) 0
words_spelled bytes fits each =
    ap (λ xs. xs ++ flat_map (to_be_bytes w32) (word_at bytes 4 ∷ word_at bytes 8 ∷ word_at bytes 12 ∷ [])) (word_spelled bytes each 0)
    ∙ ap (λ xs. slice_index bytes 0 ∷ slice_index bytes 1 ∷ slice_index bytes 2 ∷ slice_index bytes 3 ∷ xs ++ flat_map (to_be_bytes w32) (word_at bytes 8 ∷ word_at bytes 12 ∷ [])) (word_spelled bytes each 4)
    ∙ ap (λ xs. slice_index bytes 0 ∷ slice_index bytes 1 ∷ slice_index bytes 2 ∷ slice_index bytes 3 ∷ slice_index bytes 4 ∷ slice_index bytes 5 ∷ slice_index bytes 6 ∷ slice_index bytes 7 ∷ xs ++ flat_map (to_be_bytes w32) (word_at bytes 12 ∷ [])) (word_spelled bytes each 8)
    ∙ ap (λ xs. slice_index bytes 0 ∷ slice_index bytes 1 ∷ slice_index bytes 2 ∷ slice_index bytes 3 ∷ slice_index bytes 4 ∷ slice_index bytes 5 ∷ slice_index bytes 6 ∷ slice_index bytes 7 ∷ slice_index bytes 8 ∷ slice_index bytes 9 ∷ slice_index bytes 10 ∷ slice_index bytes 11 ∷ xs ++ []) (word_spelled bytes each 12)
    ∙ padded 16 bytes fits
