-- How many bytes are taken of those that wait.
use Rattle.std.proofs.Common.{◌≡◌, ℕ, ◌<◌, ◌≤◌, List, length, take, sym, ap, ◌∙◌, arith}
use Rattle.std.proofs.lemmas.List.{take_all, length-take-le}

-- all of them, where more are asked for
pub all_taken : (bytes : List ℕ) (waiting count : ℕ) → length bytes ≡ waiting → waiting < count → (take waiting bytes ≡ take count bytes) × (length (take count bytes) ≡ waiting)
all_taken bytes waiting count e more =
    let all : take count bytes ≡ bytes = take_all count bytes (omega (arith, e, more)) in
    (take_all waiting bytes (omega (arith, e)) ∙ sym all, ap (λ (b : List ℕ). length b) all ∙ e)

-- as many as are asked for
pub some_taken : (bytes : List ℕ) (waiting count : ℕ) → length bytes ≡ waiting → count ≤ waiting → length (take count bytes) ≡ count
some_taken bytes waiting count e few = length-take-le count bytes (omega (arith, e, few))
