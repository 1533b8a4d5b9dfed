-- What is known of the host's files and of its output: the faults, and never the bytes.
use Rattle.std.specs.Prelude.{ℕ, Bool, List, [], Option, None, Some, if◌then◌else◌}

pub record FilesOfHost : Type 0 where
  pub is_open : Bool
  pub faults : ℕ
  pub asked : List ℕ
  pub blamed : List ℕ

-- what is left of a file isn't told, but of no open file nothing is left
abbrev pub left_of : FilesOfHost → Option (List ℕ)
left_of h = if h.is_open then None else Some []

pub record OutOfHost : Type 0 where
  pub faults : ℕ
  pub is_flushed : Bool
