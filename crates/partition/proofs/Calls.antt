-- The step that comes to a hypercall.
use Rattle.std.proofs.Common.{◌≡◌, ℕ, ◌-◌, ◌==◌, Bool, true, false, cond, ◌&&◌, List, refl, ap, subst, ◌∙◌}
use Rattle.guest_regs.specs.Registers.{Registers, gpr_of}
use Rattle.core_step.specs.Step as core
use Rattle.core_step.proofs.Unchanged.{kept}
use Rattle.trap_emulate.specs.Clock.{ticked, time_passed, expired}
use Rattle.trap_emulate.specs.Entry.{are_interrupts_enabled}
use Rattle.vpic.specs.Controller.{Controller}
use Rattle.hcall_abi.specs.declared.call.Call.{Call}
use Rattle.hcall_abi.specs.Call.{call_of}
use Rattle.partition.specs.Found.{lookup}
use Rattle.partition.specs.Port.{End}
use Rattle.partition.specs.Machine.{Cpu, Shape}
use Rattle.partition.specs.Copying.{asked_copy, copy}
use Rattle.partition.specs.Step.{CoreStepped, is_copy, asks_copy, copying, answering_to, served, is_pending, handled, still, instruction, acted, woken, begun, with_registers}

on_false : (b : Bool) (x y : CoreStepped) → b ≡ false → cond b x y ≡ y
on_false false x y h = refl
on_false true x y h = absurd (cc)

pub instructs : (shape : Shape) (line : Bool) (cpu : Cpu) (interrupts : Controller) (ends : List End) (memory : List (List ℕ)) (feed : List ℕ) → (is_pending line cpu.registers && are_interrupts_enabled cpu.registers) ≡ false → cpu.registers.idle ≡ false
    → acted shape line cpu interrupts ends memory feed ≡ instruction shape cpu interrupts ends memory feed
unfolding acted
instructs shape line cpu interrupts ends memory feed undisturbed awake = on_false _ _ _ undisturbed ∙ on_false _ _ _ awake

-- what an instruction leaves, by its answer
pub by : Shape → Controller → List End → List ℕ → core.Answer → Cpu → List (List ℕ) → CoreStepped
by shape interrupts ends feed answer cpu memory =
    cond (asks_copy answer cpu.registers) (copying shape (copy shape cpu.registers memory) (asked_copy shape cpu.registers memory) feed cpu interrupts memory) (answering_to shape answer cpu interrupts ends memory)

-- what a call leaves
abbrev pub called : Shape → Call → Cpu → Controller → List End → List (List ℕ) → List ℕ → CoreStepped
called shape service cpu interrupts ends memory feed =
    cond (is_copy service) (copying shape (copy shape cpu.registers memory) (asked_copy shape cpu.registers memory) feed cpu interrupts memory) (still (served shape.ports service cpu interrupts ends) memory)

pub hypercall : (shape : Shape) (cpu : Cpu) (interrupts : Controller) (ends : List End) (memory : List (List ℕ)) (feed : List ℕ) → (core.stepped (lookup shape.areas cpu.translations) cpu.registers memory).answer ≡ core.Hcall
    → instruction shape cpu interrupts ends memory feed ≡ called shape (call_of (gpr_of cpu.registers 11)) cpu interrupts ends memory feed
unfolding instruction handled by
hypercall shape cpu interrupts ends memory feed e =
    let done : core.Stepped = core.stepped (lookup shape.areas cpu.translations) cpu.registers memory in
    let stays : (done.registers ≡ cpu.registers) × (done.memory ≡ memory) =
    subst (λ a. core.KeepsUnlessDone a cpu.registers done.registers memory done.memory) e (kept (lookup shape.areas cpu.translations) cpu.registers memory) in
    let of = λ (answer : core.Answer) (registers : Registers) (bytes : List (List ℕ)). let d : CoreStepped = by shape interrupts ends feed answer (with_registers registers cpu) bytes in d in
    ap (λ (a : core.Answer). of a done.registers done.memory) e ∙ ap (λ (r : Registers). of core.Hcall r done.memory) stays.0 ∙ ap (of core.Hcall cpu.registers) stays.1

-- ---- the beginning of a step changes the clocks alone

clocks_back : Registers → Registers → Registers
clocks_back r s = record s { time = r.time; dec = r.dec; tsr = r.tsr; idle = r.idle }

back : (r s : Registers) (b : Bool) → clocks_back r s ≡ r → clocks_back r (cond b (record s { idle = false }) s) ≡ r
unfolding clocks_back
back r s true e = e
back r s false e = e

ticked_back : (r x y z : Registers) (a b : Bool) → clocks_back r x ≡ r → clocks_back r y ≡ r → clocks_back r z ≡ r → clocks_back r (cond a x (cond b y z)) ≡ r
ticked_back r x y z true b e f g = e
ticked_back r x y z false true e f g = f
ticked_back r x y z false false e f g = g

woken_back : (line : Bool) (r : Registers) → record (woken line (ticked r)) { time = r.time; dec = r.dec; tsr = r.tsr; idle = r.idle } ≡ r
unfolding ticked expired clocks_back
woken_back line r =
    let passed : Registers = time_passed r in
    back r (ticked r) (is_pending line (ticked r))
    (ticked_back r passed (expired passed) (record passed { dec = r.dec - 1 }) (r.dec == 0) (r.dec == 1) refl refl refl)

pub general : (line : Bool) (cpu : Cpu) → (begun line cpu).registers.gpr ≡ cpu.registers.gpr
unfolding begun
general line cpu = ap (λ (r : Registers). r.gpr) (woken_back line cpu.registers)
