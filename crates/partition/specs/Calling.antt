-- Which steps come to a hypercall.
use Rattle.std.specs.Prelude.{◌≡◌, ℕ, Bool, false, ◌&&◌, List}
use Rattle.guest_regs.specs.Registers.{gpr_of}
use Rattle.core_step.specs.Step as core
use Rattle.trap_emulate.specs.Entry.{are_interrupts_enabled}
use Rattle.hcall_abi.specs.declared.call.Call.{Call}
use Rattle.hcall_abi.specs.Call.{call_of}
use Rattle.partition.specs.Machine.{Cpu, Shape}
use Rattle.partition.specs.Found.{lookup}
use Rattle.partition.specs.Step.{begun, is_pending}

-- The next step of the core is a hypercall: once it has begun no interrupt is entered, the core isn't waiting, and a hypercall of the
-- system stands there.
pub record CallsNext (shape : Shape) (line : Bool) (cpu : Cpu) (memory : List (List ℕ)) : Type 0 where
  pub undisturbed : (is_pending line (begun line cpu).registers && are_interrupts_enabled (begun line cpu).registers) ≡ false
  pub awake : (begun line cpu).registers.idle ≡ false
  pub call : (core.stepped (lookup shape.areas (begun line cpu).translations) (begun line cpu).registers memory).answer ≡ core.Hcall

-- the service that r11 then asks for
abbrev pub service_of : Bool → Cpu → Call
service_of line cpu = call_of (gpr_of (begun line cpu).registers 11)
