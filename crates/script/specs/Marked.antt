-- How what a console is given is kept: its bytes joined, and a mark where those of each line begin.
use Rattle.std.specs.Prelude.{◌≡◌, ℕ, ◌≤◌, List, [], ◌∷◌, length, slice_range}
use Rattle.std.specs.List.Sorted.{IsNonDecreasingBy}
use Rattle.script.specs.declared.input.Mark.{Mark}
use Rattle.script.specs.Course.{Given}

-- where the bytes of the first mark begin; behind the last mark, where the bytes end
abbrev pub start_of : List Mark → ℕ → ℕ
start_of [] end = end
start_of (mark ∷ marks) end = mark.start

-- what each mark stands for: the bytes up to the next
abbrev pub given_by_marks : List Mark → List ℕ → List Given
given_by_marks [] bytes = []
given_by_marks (mark ∷ marks) bytes =
    record { turn = mark.turn; bytes = slice_range bytes mark.start (start_of marks (length bytes)) } ∷ given_by_marks marks bytes

-- each begins where the one before it ends, or later
abbrev pub StartsRise : List Mark → ℕ → Type 0
StartsRise [] end = Unit {0}
StartsRise (mark ∷ marks) end = (mark.start ≤ start_of marks end) × StartsRise marks end

-- the first begins at the first byte, the others rise, and so do the turns
pub record AreMarks (marks : List Mark) (end : ℕ) : Type 0 where
  pub first : start_of marks end ≡ 0
  pub starts : StartsRise marks end
  pub turns : IsNonDecreasingBy (λ mark. mark.turn) marks
