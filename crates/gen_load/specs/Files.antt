-- The images of a bundle's partitions, and its script.
use Rattle.std.specs.Prelude.{ℕ, ◌+◌, List, [], ◌∷◌, ◌++◌, codes}
use Rattle.std.specs.List.{flat_map}
use Rattle.outside.specs.declared.named_file.NamedFile.{NamedFile}
use Rattle.dt_make.specs.Values.{cells}
use Rattle.gen_load.specs.Draws.{starts_of, order_of}
use Rattle.gen_load.specs.Names.{digit, image_name}

-- ---- images

-- What each partition does once it has its start in r14. It sends four bytes on handle 2 and counts up, receives four bytes on
-- handle 3 and adds them to r15, sends that sum on handle 1, and begins again (Power ISA 2.06, Book I).
abbrev pub loop_words : List ℕ
loop_words =
    0x3D600001 ∷ 0x616B0001 ∷ 0x38600002 ∷ 0x38800004 ∷ 0x39CE0001 ∷ 0x7DC57378 ∷ 0x44000022
    ∷ 0x3D600001 ∷ 0x616B0002 ∷ 0x38600003 ∷ 0x38800004 ∷ 0x44000022 ∷ 0x7DEF2A14
    ∷ 0x3D600001 ∷ 0x616B0001 ∷ 0x38600001 ∷ 0x38800004 ∷ 0x7DE57B78 ∷ 0x44000022 ∷ 0x4BFFFFB4
    ∷ []

-- `li r14, start`, and then those words
abbrev pub image_of : ℕ → List ℕ
image_of start = cells ((0x39C00000 + start) ∷ loop_words)

-- the file of the partition of that place
abbrev pub image_file : ℕ → ℕ → NamedFile
image_file place start = record { name = image_name place; bytes = image_of start }

-- the images of partitions from that place on
abbrev pub images_from : ℕ → List ℕ → List NamedFile
images_from place [] = []
images_from place (start ∷ starts) = image_file place start ∷ images_from (place + 1) starts

unfoldable pub images_of : ℕ → List NamedFile
images_of number = images_from 0 (starts_of number)

-- ---- the script

-- one line: the cores of all turns
abbrev pub script_of : List ℕ → List ℕ
script_of order = codes "order" ++ (flat_map (λ core. 0x20 ∷ digit core ∷ []) order ++ 10 ∷ [])

unfoldable pub script_text : ℕ → List ℕ
script_text number = script_of (order_of number)
