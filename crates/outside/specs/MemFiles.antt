-- Files in memory: which calls fail, and what each call leaves.
use Rattle.std.specs.Prelude.{ℕ, ◌==◌, Bool, true, false, ◌||◌, not, List, [], is_some, unwrap_or, drop, if◌then◌else◌}
use Rattle.std.specs.List.{list_any}
use Rattle.outside.specs.declared.named_file.NamedFile.{NamedFile}
use Rattle.outside.specs.Fault.{raised}
use Rattle.outside.specs.Content.{Content, cut, first_of}

-- the files, the numbers of the calls that are to fail, and what came so far
pub record FilesInMemory : Type 0 where
  pub files : List NamedFile
  pub fail : List ℕ
  pub calls : ℕ
  pub faults : ℕ
  pub asked : List ℕ
  pub blamed : List ℕ
  pub is_open : Bool
  pub left : List ℕ

-- a name that the list lacks is no file
abbrev pub content_of : FilesInMemory → Content
content_of s = record { files = s.files; others_are_empty = false }

-- the next call's number is listed; calls are numbered from 1, up to the type's end
abbrev pub is_listed : List ℕ → ℕ → Bool
is_listed fail calls = list_any (λ number. number == raised calls) fail

abbrev pub fails_to_open : FilesInMemory → List ℕ → Bool
fails_to_open s name = is_listed s.fail s.calls || not (is_some (first_of s.files name))

abbrev pub fails_to_read : FilesInMemory → Bool
fails_to_read s = is_listed s.fail s.calls

abbrev pub after_open : FilesInMemory → List ℕ → FilesInMemory
after_open s name =
    if fails_to_open s name
    then record s { calls = raised s.calls; faults = raised s.faults; asked = cut name; blamed = cut name; is_open = false; left = [] }
    else record s { calls = raised s.calls; asked = cut name; is_open = true; left = unwrap_or (first_of s.files name) [] }

-- after a read that gave so many bytes, or failed
abbrev pub after_read : FilesInMemory → ℕ → FilesInMemory
after_read s count =
    if fails_to_read s
    then record s { calls = raised s.calls; faults = raised s.faults; blamed = s.asked }
    else record s { calls = raised s.calls; left = drop count s.left }
