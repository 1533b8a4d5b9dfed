-- What is left of a text that is written piece by piece.
use Rattle.std.proofs.Common.{◌≡◌, ℕ, ◌+◌, ◌<◌, ◌≤◌, List, [], ◌++◌, Option, Result, Ok, Err, IsErr, length, take, drop, get_or, sym, ap, subst, ◌∙◌, arith, add-one, length-append}
use Rattle.std.specs.Borrow.{Bor}
use Rattle.std.specs.Io.KnownBytes.{Appends}
use Rattle.std.proofs.KnownBytes.{Appends-nil, Appends-trans}
use Rattle.std.proofs.Math.Seq.{drop-cons, take-append-add}
use Rattle.std.proofs.lemmas.List.{take-append-le, drop_all}
use Rattle.outside.specs.Taken.{AppendsFront}
use Rattle.outside.specs.Fault.{Rose}
use Rattle.outside.specs.Pieces.{joined, Writes}

-- the next piece, and then what is left behind it
pub next_piece : (pieces : List (Bor (List ℕ))) (i : ℕ) (d : Bor (List ℕ)) → i < length pieces
    → joined (drop i pieces) ≡ (get_or pieces i d).now ++ joined (drop (i + 1) pieces)
next_piece pieces i d inside =
    ap joined (drop-cons pieces i d inside) ∙ ap (λ n. (get_or pieces i d).now ++ joined (drop n pieces)) (sym (add-one i))

-- no piece is left
pub no_piece : (pieces : List (Bor (List ℕ))) (i : ℕ) → length pieces ≤ i → joined (drop i pieces) ≡ []
no_piece pieces i past = ap joined (drop_all i pieces past)

-- a front of a piece is one of the text that it begins
pub front_within : (a b : Option (List ℕ)) (piece rest : List ℕ) → AppendsFront a b piece → AppendsFront a b (piece ++ rest)
front_within a b piece rest (k, within, taken) =
    let longer : k ≤ length (piece ++ rest) = omega (arith, length-append piece rest) in
    (k, longer, subst (Appends a b) (sym (take-append-le k piece rest within)) taken)

-- behind a piece that was taken whole, a front of the rest
pub front_behind : (a b c : Option (List ℕ)) (piece rest : List ℕ) → Appends a b piece → AppendsFront b c rest → AppendsFront a c (piece ++ rest)
front_behind a b c piece rest taken (k, within, more) =
    let longer : length piece + k ≤ length (piece ++ rest) = omega (arith, length-append piece rest) in
    (length piece + k, longer, subst (Appends a c) (sym (take-append-add piece rest k)) (Appends-trans a b c piece (take k rest) taken more))

-- no byte is a front of every text
pub no_front : (a : Option (List ℕ)) (text : List ℕ) → AppendsFront a a text
no_front a text = (0, omega arith, Appends-nil a)

-- where the sink failed a front of the text is all that is owed
pub writes_front : {T E : Type 0} (r : Result T E) (a b : Option (List ℕ)) (before now : ℕ) (text : List ℕ)
    → IsErr r → AppendsFront a b text → before ≤ now → Rose before now → Writes r a b before now text
writes_front (Ok v) a b before now text fails front counted rose = absurd (cc)
writes_front (Err e) a b before now text fails front counted rose = record { whole = tt; front = front; counted = counted; failed = rose }
