-- Some extents of a memory, in an order of their own: those of one partition, region after region.
use Rattle.std.specs.Prelude.{◌≡◌, ◌≢◌, ℕ, ◌<◌, List, length, map, slice_index_or}
use Rattle.ground.specs.Extents.{extent_at}

-- the extent of a region, by the list of their numbers
abbrev pub name_of : List ℕ → ℕ → ℕ
name_of names region = slice_index_or names region 0

-- They are extents of the memory, and no two regions have the same.
pub record AreExtents (names : List ℕ) (memory : List (List ℕ)) : Type 0 where
  pub exist : (region : ℕ) → region < length names → name_of names region < length memory
  pub differ : (one other : ℕ) → one < length names → other < length names → name_of names one ≡ name_of names other → one ≡ other

-- an extent that is none of them
abbrev pub IsForeign : List ℕ → ℕ → Type 0
IsForeign names extent = (region : ℕ) → region < length names → name_of names region ≢ extent

-- the bytes of each of them
abbrev pub own_of : List ℕ → List (List ℕ) → List (List ℕ)
own_of names memory = map (λ name. extent_at memory name) names

-- the extents that are none of them have the same bytes
abbrev pub KeepsForeign : List ℕ → List (List ℕ) → List (List ℕ) → Type 0
KeepsForeign names before after = (extent : ℕ) → IsForeign names extent → extent_at after extent ≡ extent_at before extent
