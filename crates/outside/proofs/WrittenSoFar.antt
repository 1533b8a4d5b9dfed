-- How much of a piece was written, by what is left of it.
use Rattle.std.proofs.Common.{◌≡◌, ℕ, ◌+◌, ◌-◌, ◌≤◌, List, ◌++◌, Option, length, take, drop, sym, ap, subst, ◌∙◌, arith, length-drop}
use Rattle.std.proofs.lemmas.List.{drop-drop}
use Rattle.std.proofs.Math.Seq.{take-add}
use Rattle.std.proofs.KnownBytes.{Appends-trans}
use Rattle.std.specs.Io.KnownBytes.{Appends}

-- so much more is written
count_further : (p r k : ℕ) → r ≤ p → k ≤ r → p - (r - k) ≡ (p - r) + k
count_further p r k within few = omega arith

written : (piece rest : List ℕ) (k : ℕ) → length rest ≤ length piece → k ≤ length rest
    → length piece - length (drop k rest) ≡ (length piece - length rest) + k
written piece rest k within few =
    ap (λ n. length piece - n) (length-drop k rest) ∙ count_further (length piece) (length rest) k within few

pub rest_further : (piece rest : List ℕ) (k : ℕ) → length rest ≤ length piece → k ≤ length rest
    → rest ≡ drop (length piece - length rest) piece → drop k rest ≡ drop (length piece - length (drop k rest)) piece
rest_further piece rest k within few rest_is =
    ap (drop k) rest_is ∙ drop-drop k (length piece - length rest) piece
    ∙ ap (λ n. drop n piece) (sym (written piece rest k within few))

pub taken_further : (a b c : Option (List ℕ)) (piece rest : List ℕ) (k : ℕ) → length rest ≤ length piece → k ≤ length rest
    → rest ≡ drop (length piece - length rest) piece
    → Appends a b (take (length piece - length rest) piece) → Appends b c (take k rest)
    → Appends a c (take (length piece - length (drop k rest)) piece)
taken_further a b c piece rest k within few rest_is before more =
    let count = length piece - length rest in
    let joined : take count piece ++ take k rest ≡ take (length piece - length (drop k rest)) piece =
    ap (λ l. take count piece ++ take k l) rest_is ∙ sym (take-add count k piece)
    ∙ ap (λ n. take n piece) (sym (written piece rest k within few)) in
    subst (Appends a c) joined (Appends-trans a b c _ _ before more)

pub sure_further : (P : ℕ → Type 0) (piece rest : List ℕ) (n k : ℕ) → length rest ≤ length piece → k ≤ length rest → length piece ≤ n
    → P (n - (length piece - length rest) - k) → P (n - (length piece - length (drop k rest)))
sure_further P piece rest n k within few room more =
    let same : n - (length piece - length rest) - k ≡ n - (length piece - length (drop k rest)) =
    omega (arith, written piece rest k within few) in
    subst P same more
