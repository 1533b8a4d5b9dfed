-- What a recording of one partition lists: all that came to it from outside, and when.
use Rattle.std.specs.Prelude.{ℕ, ◌+◌, ◌==◌, List, [], ◌∷◌, ◌++◌, if◌then◌else◌}
use Rattle.machine_desc.specs.declared.desc.Desc.{Desc}
use Rattle.partition.specs.Event.{Event}
use Rattle.partition.specs.Machine.{Machine}
use Rattle.partition.specs.Reached.{Move, Steps, Takes, moved, after_moves}

-- Steps are the partition's own, all of its cores together, and their numbers count from 1.
pub data Item : Type 0 where
  -- after so many steps, this event
  After : ℕ → Event → Item
  -- what the step of this number copies out of a managed partition
  Feed : ℕ → List ℕ → Item
  -- the step of this number, and those behind it, are done on the core at this place
  OnCore : ℕ → ℕ → Item
  -- so many steps in all
  Until : ℕ → Item

-- a step that copies no bytes has no feed
abbrev pub feed_item : ℕ → List ℕ → List Item
feed_item step [] = []
feed_item step (byte ∷ bytes) = Feed step (byte ∷ bytes) ∷ []

-- where the step before was on that core too nothing is listed
abbrev pub core_item : ℕ → ℕ → ℕ → List Item
core_item before step core = if core == before then [] else OnCore step core ∷ []

-- what one move of a machine adds, where the step before was on this core
abbrev pub items_of : ℕ → Move → Machine → List Item
items_of before (Steps core feed) machine = core_item before (machine.inner.steps + 1) core ++ feed_item (machine.inner.steps + 1) feed
items_of before (Takes event) machine = After machine.inner.steps event ∷ []

-- the core of the last step, after a move
abbrev pub core_after : ℕ → Move → ℕ
core_after before (Steps core feed) = core
core_after before (Takes event) = before

-- and after so many moves
abbrev pub core_of : ℕ → List Move → ℕ
core_of before [] = before
core_of before (move ∷ moves) = core_of (core_after before move) moves

-- what moves add, the first one first
abbrev pub items_in : Desc → ℕ → List Move → Machine → List Item
items_in desc before [] machine = []
items_in desc before (move ∷ moves) machine = items_of before move machine ++ items_in desc (core_after before move) moves (moved desc move machine)

-- The recording of a machine's moves, where the step before them was on this core.
abbrev pub recorded : Desc → ℕ → List Move → Machine → List Item
recorded desc before moves machine = items_in desc before moves machine ++ Until (after_moves desc moves machine).inner.steps ∷ []
