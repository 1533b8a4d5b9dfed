-- What a step touches, and which translations it ends: words beside the step, for what keeps pages of a core at hand.
use Rattle.std.specs.Prelude.{ℕ, Bool, not, ◌&&◌, List, [], if◌then◌else◌}
use Rattle.guest_regs.specs.Registers.{Registers}
use Rattle.core_step.specs.Touches.{Touch, touches}
use Rattle.core_step.specs.Step as core
use Rattle.trap_emulate.specs.Entry.{are_interrupts_enabled}
use Rattle.trap_emulate.specs.Privileged.{emulated}
use Rattle.machine_desc.specs.declared.desc.Desc.{Desc}
use Rattle.partition.specs.Found.{lookup}
use Rattle.partition.specs.Interrupts.{is_line_up}
use Rattle.partition.specs.Machine.{Cpu, Machine, Shape, shape_of, core_at}
use Rattle.partition.specs.Step.{begun, is_pending, with_registers}

-- a core whose step has begun does an instruction: it enters no interrupt and doesn't wait
abbrev pub does_instruction : Bool → Registers → Bool
does_instruction line registers = not (is_pending line registers && are_interrupts_enabled registers) && not registers.idle

abbrev pub line_of : Desc → Machine → Bool
line_of desc machine = is_line_up desc.ports machine.inner.interrupts machine.ports

-- the core at this place as its instruction finds it
abbrev pub begun_at : Desc → Machine → ℕ → Cpu
begun_at desc machine place = begun (line_of desc machine) (core_at machine.inner.cores place)

abbrev pub touched_by : Shape → Cpu → List (List ℕ) → List Touch
touched_by shape cpu memory = touches (lookup shape.areas cpu.translations) cpu.registers memory

-- The pages that the next step of the core at this place touches, in their order: that of its fetch, and those of its access.
unfoldable pub touched : Desc → Machine → ℕ → List Touch
touched desc machine place =
    let cpu : Cpu = begun_at desc machine place in
    if does_instruction (line_of desc machine) cpu.registers then touched_by (shape_of desc) cpu machine.memory else []

-- the slots whose translations a privileged instruction ends, in rising order
abbrev pub ended_by : core.Answer → Cpu → List ℕ
ended_by (core.Priv insn) cpu = (emulated insn.op insn.word cpu.registers cpu.translations cpu.next_victim).ended
ended_by _ cpu = []

abbrev pub ended_in : core.Stepped → Cpu → List ℕ
ended_in did cpu = ended_by did.answer (with_registers did.registers cpu)

-- The slots whose translations that step ends, in rising order.
unfoldable pub ended : Desc → Machine → ℕ → List ℕ
ended desc machine place =
    let cpu : Cpu = begun_at desc machine place in
    if does_instruction (line_of desc machine) cpu.registers
    then ended_in (core.stepped (lookup (shape_of desc).areas cpu.translations) cpu.registers machine.memory) cpu
    else []
