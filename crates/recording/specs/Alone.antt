-- The lone run along a recording: the machine of one partition does its steps, and each item comes to it when it is due.
use Rattle.std.specs.Prelude.{ℕ, zero, suc, ◌+◌, ◌-◌, ◌*◌, ◌==◌, Bool, true, false, ◌&&◌, List, [], ◌∷◌, ◌++◌, length, sum_by, if◌then◌else◌}
use Rattle.machine_desc.specs.declared.act.State.{State}
use Rattle.machine_desc.specs.declared.act.State.TheVariants.{Running}
use Rattle.machine_desc.specs.declared.desc.Desc.{Desc}
use Rattle.machine_desc.specs.declared.desc.Span.{Span}
use Rattle.partition.specs.Machine.{Machine, fresh}
use Rattle.partition.specs.Asking.{asks}
use Rattle.partition.specs.Reached.{Move, Steps, Takes, moved}
use Rattle.recording.specs.Recording.{Item, After, Feed, OnCore, Until}

-- a partition that doesn't run was stopped, or faulted
abbrev pub is_running : State → Bool
is_running Running = true
is_running _ = false

-- how many bytes the next step of the core at this place copies out of a managed partition
abbrev pub asked_size : Desc → Machine → ℕ → ℕ
asked_size desc machine core = sum_by (λ (range : Span). range.size) (asks desc machine core).ranges

-- ---- where a lone run stands between two items

pub record Place : Type 0 where
  pub machine : Machine
  -- the core of its next step, and what that step is given
  pub core : ℕ
  pub feed : List ℕ
  -- all that it did, the first move first
  pub moves : List Move
  -- one more than the rank of the item before, and 0 before the first
  pub passed : ℕ

-- before the first item, on the first core
abbrev pub opening : Machine → Place
opening machine = record { machine = machine; core = 0; feed = []; moves = []; passed = 0 }

-- ---- steps

-- the next step can be done: the machine runs, and the step is given what it asks for
abbrev pub can_step : Desc → Place → Bool
can_step desc place = is_running place.machine.inner.state && length place.feed == asked_size desc place.machine place.core

-- it is done, and the one behind it is given nothing so far
abbrev pub stepped : Desc → Place → Place
stepped desc place = record {
  machine = moved desc (Steps place.core place.feed) place.machine;
  core = place.core;
  feed = [];
  moves = place.moves ++ Steps place.core place.feed ∷ [];
  passed = place.passed;
}

-- so many steps, as far as they can be done
abbrev pub steps_on : Desc → ℕ → Place → Place
steps_on desc zero place = place
steps_on desc (suc more) place = steps_on desc more (if can_step desc place then stepped desc place else place)

-- ---- items

-- how many steps are done before an item
abbrev pub count_of : Item → ℕ
count_of (After count event) = count
count_of (Feed step bytes) = step - 1
count_of (OnCore step core) = step - 1
count_of (Until count) = count

-- Items come in the order of their ranks: before a step what it is given, and behind it what comes then.
abbrev pub rank_of : Item → ℕ
rank_of (After count event) = 2 * count + 1
rank_of (Feed step bytes) = 2 * step
rank_of (OnCore step core) = 2 * step
rank_of (Until count) = 2 * count + 1

-- the steps before an item are done
abbrev pub reached : Desc → Item → Place → Place
reached desc item place = steps_on desc (count_of item - place.machine.inner.steps) place

-- then it is heeded
abbrev pub heeded : Desc → Item → Place → Place
heeded desc (After count event) place =
    record place { machine = moved desc (Takes event) place.machine; moves = place.moves ++ Takes event ∷ []; passed = rank_of (After count event) + 1 }
heeded desc (Feed step bytes) place = record place { feed = bytes; passed = rank_of (Feed step bytes) + 1 }
heeded desc (OnCore step core) place = record place { core = core; passed = rank_of (OnCore step core) + 1 }
heeded desc (Until count) place = record place { passed = rank_of (Until count) + 1 }

-- both
abbrev pub next : Desc → Item → Place → Place
next desc item place = heeded desc item (reached desc item place)

-- along all items, the first one first
abbrev pub follow : Desc → List Item → Place → Place
follow desc [] place = place
follow desc (item ∷ items) place = follow desc items (next desc item place)

-- The lone run along a recording, from the machine as it is loaded first.
unfoldable pub alone : Desc → List Item → Place
alone desc items = follow desc items (opening (fresh desc))
