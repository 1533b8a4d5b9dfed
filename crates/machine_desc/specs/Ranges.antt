-- When ranges of addresses are apart.
use Rattle.std.specs.Prelude.{ℕ, ◌+◌, Bool, true, ◌&&◌, not, nat_lt, min, max, List, [], ◌∷◌, ◌++◌}
use Rattle.std.specs.List.{list_any}

-- Some address is in both ranges, each given by its first address and its size: the later start lies before the earlier end.
abbrev pub ranges_meet : ℕ → ℕ → ℕ → ℕ → Bool
ranges_meet at size other_at other_size = nat_lt (max at other_at) (min (at + size) (other_at + other_size))

-- no element meets an earlier one, where these stand before them
abbrev pub none_meets : {X : Type 0} → (X → X → Bool) → List X → List X → Bool
none_meets meets earlier [] = true
none_meets meets earlier (x ∷ xs) = not (list_any (meets x) earlier) && none_meets meets (earlier ++ x ∷ []) xs
