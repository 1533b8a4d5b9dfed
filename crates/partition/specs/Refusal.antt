-- What a hypercall that was not done leaves as it was.
use Rattle.std.specs.Prelude.{◌≡◌, ◌≢◌, ℕ, false, List, [], length}
use Rattle.guest_regs.specs.Registers.{Registers, gpr_of}
use Rattle.machine_desc.specs.declared.act.State.TheVariants.{Running}
use Rattle.vpic.specs.Controller.{Controller}
use Rattle.partition.specs.Port.{End}
use Rattle.partition.specs.Act.{ports_after, ends_caller, state_after}
use Rattle.partition.specs.Interrupts.{is_line_up}
use Rattle.partition.specs.Machine.{Cpu, Shape}
use Rattle.partition.specs.Calling.{CallsNext}
use Rattle.partition.specs.Step.{CoreStepped, begun, core_step}

-- the registers without the general ones and the PC
abbrev pub other_registers : Registers → Registers
other_registers registers = record registers { gpr = []; pc = 0 }

-- the memory, the controller, the translations, the other registers, and each general register but r3 and r4 stay, and the partition
-- runs on
pub record KeepsMost (cpu : Cpu) (controller : Controller) (memory : List (List ℕ)) (done : CoreStepped) : Type 0 where
  pub bytes : done.memory ≡ memory
  pub stored : done.stored ≡ []
  pub interrupts : done.interrupts ≡ controller
  pub translations : done.cpu.translations ≡ cpu.translations
  pub next_victim : done.cpu.next_victim ≡ cpu.next_victim
  pub state : state_after done.act ≡ Running
  pub others : other_registers done.cpu.registers ≡ other_registers cpu.registers
  pub registers : (n : ℕ) → n ≢ 3 → n ≢ 4 → gpr_of done.cpu.registers n ≡ gpr_of cpu.registers n

-- r4 stays too, and so do the partition's ends
pub record KeepsRest (cpu : Cpu) (ends : List End) (done : CoreStepped) : Type 0 where
  pub fourth : gpr_of done.cpu.registers 4 ≡ gpr_of cpu.registers 4
  pub ports : ports_after done.act ends ≡ ends

-- Where the status in r3 is not success, r3 alone has changed, besides the PC; where it says that the caller may try again, r4 and
-- what is outstanding have changed too.
abbrev pub RefusesQuietly : Cpu → Controller → List End → List (List ℕ) → CoreStepped → Type 0
RefusesQuietly cpu interrupts ends memory done =
    gpr_of done.cpu.registers 3 ≢ 0 → KeepsMost cpu interrupts memory done × (gpr_of done.cpu.registers 3 ≢ 4 → KeepsRest cpu ends done)

-- So it is of each core that calls the hypervisor next, whose step has begun: its time has passed. A caller that ends its own run hears
-- no status.
abbrev pub RefusalsAreQuiet : Type 0
RefusalsAreQuiet =
    (shape : Shape) (cpu : Cpu) (interrupts : Controller) (ends : List End) (memory : List (List ℕ)) (feed : List ℕ) → length cpu.registers.gpr ≡ 32
    → CallsNext shape (is_line_up shape.ports interrupts ends) cpu memory → ends_caller (core_step shape cpu interrupts ends memory feed).act ≡ false
    → RefusesQuietly (begun (is_line_up shape.ports interrupts ends) cpu) interrupts ends memory (core_step shape cpu interrupts ends memory feed)
