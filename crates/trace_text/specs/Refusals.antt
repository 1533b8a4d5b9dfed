-- The line of a refusal. It ends with one line feed.
use Rattle.std.specs.Prelude.{ℕ, List, ◌++◌, codes}

-- the rule is broken at the place
abbrev pub refused_line : List ℕ → List ℕ → List ℕ
refused_line rule place = codes "refused " ++ (rule ++ (codes " at " ++ (place ++ codes "\n")))
