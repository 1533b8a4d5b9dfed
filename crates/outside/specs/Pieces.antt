-- Texts that are written piece by piece.
use Rattle.std.specs.Prelude.{ℕ, ◌≤◌, List, Option, Result, OnOk, OnErr}
use Rattle.std.specs.Borrow.{Bor}
use Rattle.std.specs.List.{flat_map}
use Rattle.std.specs.Io.KnownBytes.{Appends}
use Rattle.outside.specs.Fault.{Rose}
use Rattle.outside.specs.Taken.{AppendsFront}

-- the pieces, one behind the other
abbrev pub joined : List (Bor (List ℕ)) → List ℕ
joined pieces = flat_map (λ piece. piece.now) pieces

-- What a writer of a text does to a sink, by the bytes that the sink had taken and its count of faults, before and after: it
-- appends exactly the text, or where the sink failed a front of it.
pub record Writes {T E : Type 0} (result : Result T E) (old new : Option (List ℕ)) (before now : ℕ) (text : List ℕ) : Type 0 where
  pub whole : OnOk result (Appends old new text)
  pub front : AppendsFront old new text
  pub counted : before ≤ now
  pub failed : OnErr result (Rose before now)
