-- What the regions of a map keep.
use Rattle.std.specs.Prelude.{List, IsTrue}
use Rattle.std.specs.List.{list_all}
use Rattle.machine_desc.specs.declared.desc.Region.{Region}
use Rattle.machine_desc.specs.Sound.{is_within}

-- The addresses of each, logical and real, are below the end of all addresses, so that no sum of them wraps.
abbrev pub AreWithin : List Region → Type 0
AreWithin regions = IsTrue (list_all is_within regions)
