-- The first of a list that breaks a rule, where a rule looks at earlier ones too.
use Rattle.std.specs.Prelude.{Bool, if◌then◌else◌, List, [], ◌∷◌, ◌++◌, Option, Some, None}
use Rattle.std.specs.List.{list_any}
use Rattle.std.specs.Option.{option_or}

-- the first element that meets an earlier one, where these stand before them
abbrev pub first_meeting : {X : Type 0} → (X → X → Bool) → List X → List X → Option X
first_meeting meets earlier [] = None
first_meeting meets earlier (x ∷ xs) = if list_any (meets x) earlier then Some x else first_meeting meets (earlier ++ x ∷ []) xs

-- the first that is found at an element, each looked at behind the earlier ones
abbrev pub first_from : {X Y : Type 0} → (List X → X → Option Y) → List X → List X → Option Y
first_from found earlier [] = None
first_from found earlier (x ∷ xs) = option_or (found earlier x) (first_from found (earlier ++ x ∷ []) xs)

-- something, where the test holds
abbrev pub found_if : {Y : Type 0} → Bool → Y → Option Y
found_if test y = if test then Some y else None
