-- What a sink takes of a piece.
use Rattle.std.specs.Prelude.{◌≡◌, ℕ, ◌<◌, ◌≤◌, Bool, false, List, Option, Result, MatchResult, IfOk, length, take}
use Rattle.std.specs.Io.KnownBytes.{Appends}

-- of a piece that isn't empty at least a byte was taken
abbrev pub TakesSome : {E : Type 0} → Result ℕ E → List ℕ → Type 0
TakesSome r piece = IfOk r (λ k. 0 < length piece → 0 < k)

-- a write that takes bytes leaves some that are not flushed, and any other changes nothing
abbrev pub StaysFlushed : {E : Type 0} → Result ℕ E → Bool → Bool → Type 0
StaysFlushed r before now = MatchResult r (λ k. (0 < k → now ≡ false) × (k ≡ 0 → now ≡ before)) (λ _. now ≡ before)

-- a front of the piece was joined to the bytes taken so far
abbrev pub AppendsFront : Option (List ℕ) → Option (List ℕ) → List ℕ → Type 0
AppendsFront old new piece = (k : ℕ) × (k ≤ length piece) × Appends old new (take k piece)
