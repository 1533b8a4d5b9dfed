-- Files kept in memory, one of which may be open.
use Rattle.std.specs.Prelude.{ℕ, Bool, List, [], drop}
use Rattle.std.specs.Option.{option_map_or}
use Rattle.std.specs.List.{slice_get}
use Rattle.outside.specs.declared.named_file.NamedFile.{NamedFile}

-- the files, and what is left of the open one: nothing where none is open
pub record Shelved : Type 0 where
  pub files : List NamedFile
  pub is_open : Bool
  pub left : List ℕ

-- what is left of the file at that index, if there is one, from that place on
abbrev pub left_at : List NamedFile → ℕ → ℕ → List ℕ
left_at files index place = option_map_or (λ f. drop place f.bytes) (slice_get files index) []
