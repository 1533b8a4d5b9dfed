-- The machines that can be reached, and what holds of all of them.
use Rattle.std.specs.Prelude.{◌≡◌, ℕ, ◌<◌, true, List, [], ◌∷◌, length, Some}
use Rattle.guest_tlb.specs.Kept.{AreApart, AreKept}
use Rattle.machine_desc.specs.declared.desc.Desc.{Desc}
use Rattle.vpic.specs.Numbers.{has}
use Rattle.vpic.specs.Controller.{Controller}
use Rattle.partition.specs.Interrupts.{interrupt_count, bell_at}
use Rattle.partition.specs.Machine.{Machine, Cpu, core_at, fresh}
use Rattle.partition.specs.Step.{step}
use Rattle.partition.specs.Event.{Event, apply}

-- what can happen to a machine
pub data Move : Type 0 where
  -- of the core at this place, with this feed
  Steps : ℕ → List ℕ → Move
  Takes : Event → Move

abbrev pub moved : Desc → Move → Machine → Machine
moved desc (Steps core feed) machine = (step desc machine core feed).after
moved desc (Takes event) machine = apply desc machine event

-- the machine after so many moves, the first one first
abbrev pub after_moves : Desc → List Move → Machine → Machine
after_moves desc [] machine = machine
after_moves desc (move ∷ moves) machine = after_moves desc moves (moved desc move machine)

-- In every machine that a description can come to no two different live translations of a core meet, so that at most one matches an
-- access; the slots keep all else that the TLBs keep, their number, and the sizes and places of pages; and the next victim is one of
-- the four ways of TLB0.
pub record AreSound (cpu : Cpu) : Type 0 where
  pub apart : AreApart cpu.translations
  pub slots : AreKept cpu.translations
  pub victim : cpu.next_victim < 4

abbrev pub TranslationsStaySound : Type 0
TranslationsStaySound =
    (desc : Desc) (moves : List Move) (core : ℕ) → core < length (after_moves desc moves (fresh desc)).inner.cores
    → AreSound (core_at (after_moves desc moves (fresh desc)).inner.cores core)

-- In every such machine the controller has a source for each interrupt of the description, and only numbers of receive handles are
-- latched.
pub record AreInterruptsSound (desc : Desc) (interrupts : Controller) : Type 0 where
  pub count : length interrupts.sources ≡ interrupt_count desc.ports
  pub latched : (n : ℕ) → has interrupts.latched n ≡ true → (handle : ℕ) × (bell_at desc.ports handle ≡ Some n)

abbrev pub InterruptsStaySound : Type 0
InterruptsStaySound = (desc : Desc) (moves : List Move) → AreInterruptsSound desc (after_moves desc moves (fresh desc)).inner.interrupts
