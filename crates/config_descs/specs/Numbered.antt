-- Areas and partitions by their numbers.
use Rattle.std.specs.Prelude.{ℕ, List, position, find, Option, unwrap_or}
use Rattle.std.specs.Option.{option_map_or}
use Rattle.hv_config.specs.declared.config.AreaDef.{AreaDef}
use Rattle.hv_config.specs.declared.config.PartDef.{PartDef}
use Rattle.config_checks.specs.Found.{is_area, area_named, is_part}

-- the area's number, which is that of its extent; areas are numbered from 0 in document order
abbrev pub extent_of : List AreaDef → List ℕ → ℕ
extent_of areas name = unwrap_or (position (is_area name) areas) 0

-- the real address of the area's first byte
abbrev pub base_of : List AreaDef → List ℕ → ℕ
base_of areas name = option_map_or (λ (area : AreaDef). area.base) (area_named areas name) 0

-- the partition's number; partitions are numbered from 0 in document order
abbrev pub number_of : List PartDef → List ℕ → ℕ
number_of parts name = unwrap_or (position (is_part name) parts) 0

abbrev pub part_named : List PartDef → List ℕ → Option PartDef
part_named parts name = find (is_part name) parts
