-- Files in memory of which no call fails.
use Rattle.std.specs.Prelude.{ℕ, Bool, true, List, [], drop, unwrap_or}
use Rattle.outside.specs.declared.named_file.NamedFile.{NamedFile}
use Rattle.outside.specs.Content.{Content, cut, first_of}

-- the files, the name last asked for, whether one was opened, and what is left of it
pub record FilesForSure : Type 0 where
  pub files : List NamedFile
  pub asked : List ℕ
  pub is_open : Bool
  pub left : List ℕ

-- a name that the list lacks is an empty file
abbrev pub sure_content : FilesForSure → Content
sure_content s = record { files = s.files; others_are_empty = true }

-- there is no fault, and so no name of one
abbrev pub faults_of : FilesForSure → ℕ
faults_of s = 0

abbrev pub blamed_of : FilesForSure → List ℕ
blamed_of s = []

abbrev pub after_open : FilesForSure → List ℕ → FilesForSure
after_open s name = record s { asked = cut name; is_open = true; left = unwrap_or (first_of s.files name) [] }

abbrev pub after_read : FilesForSure → ℕ → FilesForSure
after_read s count = record s { left = drop count s.left }
