-- What was read of a file, piece by piece.
use Rattle.std.proofs.Common.{ℕ, ◌+◌, ◌<◌, ◌≤◌, List, ◌++◌, Some, None, Option, length, sym, ap, subst, ◌∙◌, append_assoc, append-nil, length-append, arith, IfSome, IsSomeAnd}
use Rattle.std.specs.Io.KnownBytes.{Consumes, IsAtEnd}
use Rattle.std.specs.Io.{StartsWith, appended_bytes}
use Rattle.std.proofs.KnownBytes.{starts_with_rest}
use Rattle.outside.specs.Content.{Content, IsReadTo, IsReadWithin, IsFile, IsLonger, GivesAtMost}

-- a further piece was read
reads_more : (content : Option Content) (name front : List ℕ) (a b : Option (List ℕ)) (piece : List ℕ)
    → IsReadTo content name front a → Consumes a b piece → IsReadTo content name (front ++ piece) b
reads_more None name front a b piece before more = tt
reads_more (Some c) name front None b piece before more = absurd before
reads_more (Some c) name front (Some xs) None piece before more = absurd more
reads_more (Some c) name front (Some xs) (Some ys) piece before more =
    before ∙ ap (λ l. Some (front ++ l)) more ∙ ap (λ l. Some l) (sym (append_assoc front piece ys))

-- the bytes read so far have grown by what was read
pub reads_on : (content : Option Content) (name front more : List ℕ) (a b : Option (List ℕ))
    → IsReadTo content name front a → StartsWith more front → Consumes a b (appended_bytes front more) → IsReadTo content name more b
reads_on content name front more a b before grown given =
    subst (λ (l : List ℕ). IsReadTo content name l b) (sym (starts_with_rest more front grown)) (reads_more content name front a b _ before given)

-- nothing is left
pub read_whole : (content : Option Content) (name front : List ℕ) (left : Option (List ℕ))
    → IsReadTo content name front left → IsAtEnd left → IsFile content name front
read_whole None name front left before end = tt
read_whole (Some c) name front None before end = absurd before
read_whole (Some c) name front (Some xs) before end = before ∙ ap (λ l. Some (front ++ l)) end ∙ ap (λ l. Some l) (append-nil front)

-- more than the limit was read
pub read_past : (content : Option Content) (name front : List ℕ) (left : Option (List ℕ)) (limit : ℕ)
    → IsReadTo content name front left → limit < length front → IsLonger content name limit
read_past None name front left limit before long = tt
read_past (Some c) name front None limit before long = absurd before
read_past (Some c) name front (Some xs) limit before long =
    let more : limit < length (front ++ xs) = omega (arith, length-append front xs) in
    let P : Option (List ℕ) → Type 0 = λ o. IsSomeAnd o (λ bytes. limit < length bytes) in
    subst P (sym before) more

-- what was read so far keeps the limit, and so does one more read
pub read_within : (content : Option Content) (name front : List ℕ) (a b : Option (List ℕ)) (count limit : ℕ)
    → IsReadTo content name front a → GivesAtMost a b count → length front + count ≤ limit → IsReadWithin content name b limit
read_within None name front a b count limit before more fits = tt
read_within (Some c) name front None b count limit before more fits = absurd before
read_within (Some c) name front (Some xs) None count limit before more fits = tt
read_within (Some c) name front (Some xs) (Some ys) count limit before more fits =
    let whole : length (front ++ xs) ≤ length ys + limit = omega (arith, length-append front xs) in
    let P : Option (List ℕ) → Type 0 = λ o. IfSome o (λ bytes. length bytes ≤ length ys + limit) in
    subst P (sym before) whole
