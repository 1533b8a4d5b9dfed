-- What files contain, and what it means to stand at a file's start and to have read it.
use Rattle.std.specs.Prelude.{◌≡◌, ℕ, ◌+◌, ◌<◌, ◌≤◌, Bool, List, [], ◌++◌, Option, None, Some, IfSome, IsSomeAnd, min, length, take, find, if◌then◌else◌, ⊤}
use Rattle.std.specs.Option.{option_map}
use Rattle.std.specs.Str.{bytes_eq}
use Rattle.outside.specs.declared.named_file.NamedFile.{NamedFile}

-- files by name, and whether every other name is an empty file
pub record Content : Type 0 where
  pub files : List NamedFile
  pub others_are_empty : Bool

-- the first file of that name
abbrev pub first_of : List NamedFile → List ℕ → Option (List ℕ)
first_of files name = option_map (λ f. f.bytes) (find (λ f. bytes_eq f.name name) files)

abbrev pub or_empty : Bool → Option (List ℕ) → Option (List ℕ)
or_empty others (Some bytes) = Some bytes
or_empty others None = if others then Some [] else None

-- what the file of that name contains, where the content has it
abbrev pub file_of : Content → List ℕ → Option (List ℕ)
file_of content name = or_empty content.others_are_empty (first_of content.files name)

-- a name, cut to its first 4,096 bytes
abbrev pub cut : List ℕ → List ℕ
cut name = take (min 4096 (length name)) name

-- front was read of the file of that name, and this is left of it
abbrev pub IsReadTo : Option Content → List ℕ → List ℕ → Option (List ℕ) → Type 0
IsReadTo None name front left = ⊤
IsReadTo (Some content) name front None = ⊥
IsReadTo (Some content) name front (Some left) = file_of content name ≡ Some (front ++ left)

-- the file of that name is open at its start
abbrev pub StandsAt : Option Content → List ℕ → Option (List ℕ) → Type 0
StandsAt content name left = IsReadTo content name [] left

-- these bytes are the whole file of that name
abbrev pub IsFile : Option Content → List ℕ → List ℕ → Type 0
IsFile None name bytes = ⊤
IsFile (Some content) name bytes = file_of content name ≡ Some bytes

-- the file of that name has more bytes than the limit
abbrev pub IsLonger : Option Content → List ℕ → ℕ → Type 0
IsLonger None name limit = ⊤
IsLonger (Some content) name limit = IsSomeAnd (file_of content name) (λ bytes. limit < length bytes)

-- of the file of that name at most so many bytes were read
abbrev pub IsReadWithin : Option Content → List ℕ → Option (List ℕ) → ℕ → Type 0
IsReadWithin None name left limit = ⊤
IsReadWithin (Some content) name None limit = ⊤
IsReadWithin (Some content) name (Some left) limit = IfSome (file_of content name) (λ bytes. length bytes ≤ length left + limit)

-- of what was left at most so many bytes were read
abbrev pub GivesAtMost : Option (List ℕ) → Option (List ℕ) → ℕ → Type 0
GivesAtMost None new limit = ⊤
GivesAtMost (Some xs) None limit = ⊤
GivesAtMost (Some xs) (Some ys) limit = length xs ≤ length ys + limit
