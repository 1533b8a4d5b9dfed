-- The bytes of a path that is held in parts.
use Rattle.std.specs.Prelude.{ℕ, List, ◌∷◌, ◌++◌, codes}
use Rattle.config_checks.specs.declared.path.Path.{Path}
use Rattle.config_checks.specs.declared.path.Path.TheVariants.{List as OfList, Entry, Inner, InnerList}
use Rattle.config_checks.specs.Spot.{path_in}

abbrev pub bytes_of : Path → List ℕ
bytes_of (OfList list) = 0x2f ∷ list.now
bytes_of (Entry list name) = path_in list.now name.now
bytes_of (Inner part list name) = path_in (codes "partitions") part.now ++ path_in list.now name.now
bytes_of (InnerList part list) = path_in (codes "partitions") part.now ++ 0x2f ∷ list.now
