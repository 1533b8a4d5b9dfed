-- A lone machine with its description, and the real memory that it is loaded into.
use Rattle.std.specs.Prelude.{ℕ, Bool, List}
use Rattle.std.specs.List.{list_all}
use Rattle.machine_desc.specs.declared.desc.Desc.{Desc}
use Rattle.machine_desc.specs.declared.desc.Region.{Region}
use Rattle.machine_desc.specs.Joined.{has_at}
use Rattle.partition.specs.Copying.{Copy}
use Rattle.partition.specs.Machine.{Machine}

pub record Lone : Type 0 where
  pub desc : Desc
  pub machine : Machine
  -- what a copy out of a managed partition brings, and the last copy
  pub feed : List ℕ
  pub last : Copy

-- each region's extent is among those of these sizes, and has its size
abbrev pub have_extents : List ℕ → List Region → Bool
have_extents sizes regions = list_all (λ (region : Region). has_at sizes region.extent region.size) regions
