-- How the real memory comes to what it begins with.
use Rattle.std.specs.Prelude.{◌≡◌, ℕ, false, List}
use Rattle.ground.specs.Extents.{extent_at}
use Rattle.ground.specs.Own.{own_of}
use Rattle.machine_desc.specs.declared.desc.Desc.{Desc}
use Rattle.fresh_load.specs.Fresh.{fresh_memory}
use Rattle.fresh_load.specs.Placed.{AreSharedZero, extents_of, is_private_extent, sizes_of}

-- one partition's memory was loaded
pub record Loads (desc : Desc) (before after : List (List ℕ)) : Type 0 where
  pub others : (extent : ℕ) → is_private_extent desc.regions extent ≡ false → extent_at after extent ≡ extent_at before extent
  pub sizes : sizes_of after ≡ sizes_of before
  pub fresh : AreSharedZero before desc.regions → own_of (extents_of desc.regions) after ≡ fresh_memory desc
