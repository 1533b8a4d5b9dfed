-- The order of a command: which files it opens, one after the other, and what comes of their bytes.
use Rattle.std.specs.Prelude.{ℕ, List, [], ◌∷◌, Option, None, Some, nat_lt, length, codes, if◌then◌else◌}
use Rattle.outside.specs.Limit.{file_limit}
use Rattle.outside.specs.Content.{Content, file_of, cut}
use Rattle.trace_text.specs.Refusals.{refused_line}

pub data Outcome : Type 0 where
  -- the words are of no form
  Misused : Outcome
  -- a file that is needed isn't there
  Lacking : Outcome
  -- the text says which rule is broken, after what was written before that
  Refused : List ℕ → Outcome
  Done : List ℕ → Outcome

pub data Plan : Type 0 where
  Ends : Outcome → Plan
  -- the file of that name is opened and read; where it is too long, F1 is broken at the place; else its bytes say how it goes on
  Opens : List ℕ → List ℕ → (List ℕ → Plan) → Plan

-- the rule is broken at the place
abbrev pub refusal : List ℕ → List ℕ → Outcome
refusal rule place = Refused (refused_line rule place)

-- what comes of a file, by what goes on with its bytes
abbrev pub opened : Option (List ℕ) → List ℕ → (List ℕ → Outcome) → Outcome
opened None place rest = Lacking
opened (Some bytes) place rest = if nat_lt file_limit (length bytes) then refusal (codes "F1") place else rest bytes

-- what the plan comes to over what the files contain
abbrev pub outcome_of : Content → Plan → Outcome
outcome_of content (Ends outcome) = outcome
outcome_of content (Opens name place next) = opened (file_of content name) place (λ bytes. outcome_of content (next bytes))

-- the names behind a file
abbrev pub needed_behind : Option (List ℕ) → (List ℕ → List (List ℕ)) → List (List ℕ)
needed_behind None rest = []
needed_behind (Some bytes) rest = if nat_lt file_limit (length bytes) then [] else rest bytes

-- The names that the plan opens before its first refusal, in their order and each cut; the first that the content lacks is the
-- last of them.
abbrev pub needs_of : Content → Plan → List (List ℕ)
needs_of content (Ends outcome) = []
needs_of content (Opens name place next) = cut name ∷ needed_behind (file_of content name) (λ bytes. needs_of content (next bytes))
