-- The names of the strings block as the writer keeps them.
use Rattle.std.specs.Prelude.{◌≡◌, ◌≤◌, ℕ, ◌+◌, List, [], ◌∷◌, length, map}
use Rattle.std.specs.Borrow.{Bor}
use Rattle.dt_model.specs.Canonical.{strings_of, most_bytes}

-- the names, without where they lie in memory
abbrev pub names_in : List (Bor (List ℕ) × ℕ) → List (List ℕ)
names_in entries = map (λ entry. entry.0.now) entries

-- each name is kept with its place: behind the names before it and their NULs
abbrev pub ArePlaces : ℕ → List (Bor (List ℕ) × ℕ) → Type 0
ArePlaces place [] = Unit {0}
ArePlaces place (entry ∷ entries) = (entry.1 ≡ place) × ArePlaces (place + (length entry.0.now + 1)) entries

-- the names and their places, and how many bytes they have
pub record AreLaidOut (entries : List (Bor (List ℕ) × ℕ)) (end : ℕ) : Type 0 where
  pub places : ArePlaces 0 entries
  pub end_is : end ≡ length (strings_of (names_in entries))
  pub few : end ≤ most_bytes
