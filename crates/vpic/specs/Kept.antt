-- What a controller keeps at all times: its values are in range, and its sets have only its own numbers. A saved state rests on it.
use Rattle.std.specs.Prelude.{◌≡◌, ℕ, ◌^◌, ◌<◌, ◌≤◌, true, All, length}
use Rattle.vpic.specs.declared.source.Source.{Source}
use Rattle.vpic.specs.Controller.{Controller, fresh, is_number}
use Rattle.vpic.specs.Choice.{chosen}
use Rattle.vpic.specs.Calls.{taken, ended, may_configure, configured, with_mask, may_set_task, with_task, rung}

pub record IsSource (source : Source) : Type 0 where
  pub config : source.config < 4
  pub priority : source.priority ≤ 15
  pub dest : source.dest ≡ 0

pub record IsKept (controller : Controller) : Type 0 where
  pub few : length controller.sources ≤ 128
  pub sources : All IsSource controller.sources
  pub task : controller.task ≤ 15
  pub unmasked : controller.unmasked < 2 ^ length controller.sources
  pub in_service : controller.in_service < 2 ^ length controller.sources
  pub latched : controller.latched < 2 ^ length controller.sources

-- A controller begins so,
abbrev pub BeginsKept : Type 0
BeginsKept = (count : ℕ) → count ≤ 128 → IsKept (fresh count)

-- taking the chosen interrupt keeps it,
abbrev pub TakingKeeps : Type 0
TakingKeeps = (controller : Controller) (levels : ℕ) → IsKept controller → IsKept (taken (chosen controller levels) controller)

-- so does ending a service,
abbrev pub EndingKeeps : Type 0
EndingKeeps = (controller : Controller) (n : ℕ) → IsKept controller → IsKept (ended n controller)

-- a configuration that may be,
abbrev pub ConfiguringKeeps : Type 0
ConfiguringKeeps =
    (controller : Controller) (n config priority dest : ℕ) → may_configure controller n config priority dest ≡ true → IsKept controller
    → IsKept (configured n config priority dest controller)

-- a mask,
abbrev pub MaskingKeeps : Type 0
MaskingKeeps = (controller : Controller) (n mask : ℕ) → is_number controller n ≡ true → IsKept controller → IsKept (with_mask n mask controller)

-- a task priority that may be,
abbrev pub TaskKeeps : Type 0
TaskKeeps = (controller : Controller) (priority : ℕ) → may_set_task priority ≡ true → IsKept controller → IsKept (with_task priority controller)

-- and a ring.
abbrev pub RingingKeeps : Type 0
RingingKeeps = (controller : Controller) (n : ℕ) → is_number controller n ≡ true → IsKept controller → IsKept (rung n controller)
