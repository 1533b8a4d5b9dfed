-- Which copy a step does. What it copies out of a managed partition is given to it, and it sees nothing else of the other machine.
use Rattle.std.specs.Prelude.{ℕ, ◌==◌, Bool, List, [], Option, Some, None, if◌then◌else◌}
use Rattle.std.specs.Option.{option_map_or}
use Rattle.core_step.specs.Step as core
use Rattle.machine_desc.specs.declared.desc.Desc.{Desc}
use Rattle.machine_desc.specs.declared.desc.Port.{Port}
use Rattle.machine_desc.specs.declared.desc.Port.TheVariants.{Manage}
use Rattle.machine_desc.specs.declared.desc.Span.{Span}
use Rattle.partition_manager.specs.Decisions.{port_at}
use Rattle.copy_lists.specs.Lists.{total}
use Rattle.copy_lists.specs.Pieces.{sources_of}
use Rattle.partition.specs.Found.{lookup}
use Rattle.vpic.specs.Controller.{Controller}
use Rattle.partition.specs.Port.{End}
use Rattle.partition.specs.Interrupts.{is_line_up}
use Rattle.partition.specs.Machine.{Cpu, Machine, Shape, shape_of, core_at}
use Rattle.partition.specs.Copying.{Copy, asked_copy}
use Rattle.partition.specs.Step.{begun, asks_copy}
use Rattle.partition.specs.Trail.{does_instruction}

-- ---- the copy of a step

-- one that moves no byte is none
abbrev pub with_total : Copy → Option Copy
with_total it = if total it.entries == 0 then None else Some it

abbrev pub copy_asked : Shape → core.Stepped → Option Copy
copy_asked shape did = if asks_copy did.answer did.registers then with_total (asked_copy shape did.registers did.memory) else None

-- of an instruction
unfoldable pub copy_done : Shape → Cpu → List (List ℕ) → Option Copy
copy_done shape cpu memory = copy_asked shape (core.stepped (lookup shape.areas cpu.translations) cpu.registers memory)

-- of a core whose step has begun
unfoldable pub copy_in : Shape → Bool → Cpu → List (List ℕ) → Option Copy
copy_in shape line cpu memory = if does_instruction line cpu.registers then copy_done shape cpu memory else None

-- of a core's step
abbrev pub copy_next : Shape → Cpu → Controller → List End → List (List ℕ) → Option Copy
copy_next shape cpu interrupts ends memory = let line = is_line_up shape.ports interrupts ends in copy_in shape line (begun line cpu) memory

-- the copy that the next step of the core at this place does, if it does one
abbrev pub next_copy : Desc → Machine → ℕ → Option Copy
next_copy desc machine place = copy_next (shape_of desc) (core_at machine.inner.cores place) machine.inner.interrupts machine.ports machine.memory

-- ---- what is asked for

pub record Asked : Type 0 where
  -- that of the managed partition, and its number
  pub handle : ℕ
  pub part : ℕ
  -- of its logical addresses, in the order of the list
  pub ranges : List Span

abbrev pub nothing_asked : Asked
nothing_asked = record { handle = 0; part = 0; ranges = [] }

abbrev pub managed_part : Port → ℕ
managed_part (Manage part held private) = part
managed_part _ = 0

abbrev pub asked_by : List Port → Option Copy → Asked
asked_by ports None = nothing_asked
asked_by ports (Some it) =
    if it.to_managed then nothing_asked
    else record { handle = it.handle; part = option_map_or managed_part (port_at ports it.handle) 0; ranges = sources_of it.entries }

-- The ranges that the next step of the core at this place copies out of a managed partition.
unfoldable pub asks : Desc → Machine → ℕ → Asked
asks desc machine place = asked_by desc.ports (next_copy desc machine place)
