-- What a restart forgets.
use Rattle.std.specs.Prelude.{◌≡◌, ℕ, Bool, List, [], ◌∷◌, ◌++◌, if◌then◌else◌, length, map}
use Rattle.machine_desc.specs.declared.desc.Desc.{Desc}
use Rattle.machine_desc.specs.declared.desc.Region.{Region}
use Rattle.partition.specs.Port.{End}
use Rattle.partition.specs.Machine.{Machine}
use Rattle.partition.specs.Event.{Restart, apply}

-- how many bytes are outstanding on each handle
abbrev pub outstanding_of : List End → List ℕ
outstanding_of ends = map (λ (it : End). it.outstanding) ends

-- whether each managed partition runs
abbrev pub running_of : List End → List Bool
running_of ends = map (λ (it : End). it.runs) ends

-- the bytes of the shared regions
abbrev pub shared_bytes : List Region → List (List ℕ) → List (List ℕ)
shared_bytes (region ∷ regions) (bytes ∷ memory) = (if region.private then [] else bytes ∷ []) ++ shared_bytes regions memory
shared_bytes _ memory = memory

-- two machines of one description with as many steps, the same outstanding counts and managed states, and the same shared bytes
pub record AreAlike (desc : Desc) (one other : Machine) : Type 0 where
  pub steps : one.inner.steps ≡ other.inner.steps
  pub outstanding : outstanding_of one.ports ≡ outstanding_of other.ports
  pub running : running_of one.ports ≡ running_of other.ports
  pub shared : shared_bytes desc.regions one.memory ≡ shared_bytes desc.regions other.memory
  -- each has the bytes of each region
  pub count : length one.memory ≡ length desc.regions
  pub other_count : length other.memory ≡ length desc.regions

-- They are equal once both were restarted: nothing else outlives a restart.
abbrev pub RestartsForget : Type 0
RestartsForget = (desc : Desc) (one other : Machine) → AreAlike desc one other → apply desc one Restart ≡ apply desc other Restart
