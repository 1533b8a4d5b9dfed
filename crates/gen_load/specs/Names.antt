-- Names of things that are numbered from 0: a letter and a digit.
use Rattle.std.specs.Prelude.{ℕ, ◌+◌, List, [], ◌∷◌}

-- the digit of a number below 10
abbrev pub digit : ℕ → ℕ
digit number = 48 + number

abbrev pub name_of : ℕ → ℕ → List ℕ
name_of letter number = letter ∷ digit number ∷ []

abbrev pub area_name : ℕ → List ℕ
area_name = name_of 0x61

abbrev pub console_name : ℕ → List ℕ
console_name = name_of 0x63

abbrev pub image_name : ℕ → List ℕ
image_name = name_of 0x67

-- the channel with a console
abbrev pub console_channel : ℕ → List ℕ
console_channel = name_of 0x6b

-- the channel between two partitions
abbrev pub link_channel : ℕ → List ℕ
link_channel = name_of 0x6c

abbrev pub part_name : ℕ → List ℕ
part_name = name_of 0x70
