-- What happens to the machine of one partition, and what it leaves. A partition's own steps and its events are its moves; beside
-- them a step of another partition may be seen in the areas that both have.
use Rattle.std.specs.Prelude.{ℕ, ◌==◌, Bool, if◌then◌else◌, List, [], ◌∷◌, ◌++◌, map}
use Rattle.std.specs.List.{list_all}
use Rattle.core_step.specs.declared.answer.Wrote.{Wrote}
use Rattle.machine_desc.specs.declared.desc.Region.{Region}
use Rattle.machine_desc.specs.declared.desc.Desc.{Desc}
use Rattle.partition.specs.Act.{Act}
use Rattle.partition.specs.Machine.{Machine}
use Rattle.partition.specs.Step.{step}
use Rattle.partition.specs.Reached.{Move, Steps, Takes, moved}
use Rattle.partition.specs.Reservations.{with_kept}

pub data Change : Type 0 where
  -- a step of one of its cores, or an event
  Moves : Move → Change
  -- Another partition did a step: its regions, the bytes that they have now, and what it stored in shared ones, by extents.
  Shared : List Region → List (List ℕ) → List Wrote → Change

-- ---- the bytes of shared areas

-- what these regions have of an extent, and where none is of it the old bytes
abbrev pub bytes_of : List Region → List (List ℕ) → ℕ → List ℕ → List ℕ
bytes_of (region ∷ regions) (bytes ∷ memory) extent old = if region.extent == extent then bytes else bytes_of regions memory extent old
bytes_of _ _ extent old = old

-- A partition's own memory, by its own regions, once another one's regions have these bytes: an area that both have is one.
abbrev pub seen : List Region → List (List ℕ) → List Region → List (List ℕ) → List (List ℕ)
seen regions memory (own ∷ owns) (old ∷ olds) =
    (if own.private then old else bytes_of regions memory own.extent old) ∷ seen regions memory owns olds
seen regions memory _ olds = olds

-- ---- the machine after a change

abbrev pub beside : List Region → List Region → List (List ℕ) → List Wrote → Machine → Machine
beside owns regions memory stored machine = record machine {
  inner = record machine.inner { cores = map (with_kept owns stored) machine.inner.cores };
  memory = seen regions memory owns machine.memory;
}

unfoldable pub changed : Desc → Change → Machine → Machine
changed desc (Moves move) machine = moved desc move machine
changed desc (Shared regions memory stored) machine = beside desc.regions regions memory stored machine

-- the machine after so many changes, the first one first
abbrev pub after_changes : Desc → List Change → Machine → Machine
after_changes desc [] machine = machine
after_changes desc (change ∷ changes) machine = after_changes desc changes (changed desc change machine)

-- the moves among them
abbrev pub move_in : Change → List Move
move_in (Moves move) = move ∷ []
move_in (Shared regions memory stored) = []

-- ---- the trace

-- what a step did, and its number among the partition's own steps
pub record Traced : Type 0 where
  pub step : ℕ
  pub act : Act

abbrev pub traced : Desc → Move → Machine → List Traced
traced desc (Steps core feed) machine = record { step = (step desc machine core feed).after.inner.steps; act = (step desc machine core feed).act } ∷ []
traced desc (Takes event) machine = []

-- what the steps among some moves did
abbrev pub trace_of : Desc → List Move → Machine → List Traced
trace_of desc [] machine = []
trace_of desc (move ∷ moves) machine = traced desc move machine ++ trace_of desc moves (moved desc move machine)

-- ---- partitions without shared areas

abbrev pub is_private : Region → Bool
is_private region = region.private

abbrev pub are_private : List Region → Bool
are_private regions = list_all is_private regions
