-- One step of the machine.
use Rattle.std.specs.Prelude.{ℕ, ◌+◌, Bool, true, false, not, ◌&&◌, ◌||◌, List, [], filter, slice_set, if◌then◌else◌}
use Rattle.insn.specs.declared.instruction.Insn.{Insn}
use Rattle.guest_regs.specs.State.{store_syndrome, order_syndrome}
use Rattle.guest_regs.specs.Registers.{Registers, advanced, gpr_of, instruction_space, data_space}
use Rattle.core_step.specs.declared.answer.Wrote.{Wrote}
use Rattle.core_step.specs.Step as core
use Rattle.trap_emulate.specs.declared.cause.Cause.{Cause}
use Rattle.trap_emulate.specs.declared.cause.Cause.TheVariants as cause
use Rattle.trap_emulate.specs.Clock.{is_decrementer_pending, ticked}
use Rattle.trap_emulate.specs.Entry.{are_interrupts_enabled, delivered, may_enter}
use Rattle.trap_emulate.specs.Tlb.{Emulated}
use Rattle.trap_emulate.specs.Privileged.{emulated}
use Rattle.machine_desc.specs.declared.desc.Desc.{Desc}
use Rattle.machine_desc.specs.declared.desc.Port.{Port}
use Rattle.vpic.specs.Controller.{Controller}
use Rattle.hcall_abi.specs.declared.call.Call.{Call}
use Rattle.hcall_abi.specs.declared.call.Call.TheVariants as call
use Rattle.hcall_abi.specs.declared.status.Status.TheVariants.{Unimplemented}
use Rattle.hcall_abi.specs.Call.{call_of}
use Rattle.hcall_abi.specs.Reply.{Reply, replied}
use Rattle.partition.specs.declared.found.Found.{Found}
use Rattle.partition.specs.declared.found.Found.TheVariants.{Missing}
use Rattle.partition.specs.Channels.{Served, refusal, send, receive, poll}
use Rattle.partition.specs.Regions.{Area, area_at}
use Rattle.partition.specs.Found.{found, lookup}
use Rattle.partition.specs.Port.{End, kinds_of}
use Rattle.partition.specs.Interrupts.{Ruled, levels, is_line_up, granted, doorbell_send, set_config, get_config, set_mask, get_mask, acknowledge, end_of_interrupt, set_task_priority, get_task_priority}
use Rattle.copy_lists.specs.Pieces.{all_put}
use Rattle.partition.specs.Act.{Act, Nothing, SelfRestart, Faulted, ports_after, ends_caller, state_after}
use Rattle.partition.specs.Machine.{Cpu, Machine, Shape, shape_of, core_at}
use Rattle.partition.specs.Anew.{started}
use Rattle.partition.specs.Managing.{start, stop, restart, get_status}
use Rattle.partition.specs.Reservations.{with_copied}
use Rattle.partition.specs.Copying.{own_regions, Copy, asked_copy, copy, copied_in, copied_at}

-- What is left of a core and of the interrupt controller by something that sees no memory, and what others see of it. What it does to
-- the partition's ends follows from that.
pub record Done : Type 0 where
  pub cpu : Cpu
  pub interrupts : Controller
  pub act : Act

-- what leaves the controller, and others don't see
abbrev pub quiet : Cpu → Controller → Done
quiet cpu interrupts = record { cpu = cpu; interrupts = interrupts; act = Nothing }

abbrev pub with_registers : Registers → Cpu → Cpu
with_registers registers cpu = record cpu { registers = registers }

-- ---- hypercalls

-- the reply stands in the caller's registers, and the caller goes on after its sc
unfoldable pub answered : Reply → Cpu → Cpu
answered reply cpu = with_registers (advanced (replied reply cpu.registers)) cpu

abbrev pub answering : Served → Cpu → Controller → Done
answering served cpu interrupts = record { cpu = answered served.reply cpu; interrupts = interrupts; act = served.act }

abbrev pub ruling : Ruled → Cpu → Done
ruling ruled cpu = record { cpu = answered ruled.reply cpu; interrupts = ruled.interrupts; act = Nothing }

-- the core waits for an interrupt, and others see nothing of it
abbrev pub waiting : Cpu → Cpu
waiting cpu = with_registers (record cpu.registers { idle = Bool.true }) cpu

-- a caller that ended its own run has no reply, and stands behind its sc
abbrev pub gone_on : Cpu → Cpu
gone_on cpu = with_registers (advanced cpu.registers) cpu

abbrev pub obeying : Served → Cpu → Controller → Done
obeying served cpu interrupts = record {
  cpu = if ends_caller served.act then gone_on cpu else answered served.reply cpu;
  interrupts = interrupts;
  act = served.act;
}

-- The services of the interrupt controller, whose sources with these numbers are up by their levels. A token that names no service of
-- this or the other tables is refused.
unfoldable pub ruled : Call → ℕ → Cpu → Controller → Done
ruled call.SetConfig levels cpu interrupts = ruling (set_config cpu.registers interrupts) cpu
ruled call.GetConfig levels cpu interrupts = ruling (get_config cpu.registers interrupts) cpu
ruled call.SetMask levels cpu interrupts = ruling (set_mask cpu.registers interrupts) cpu
ruled call.GetMask levels cpu interrupts = ruling (get_mask cpu.registers interrupts) cpu
ruled call.Iack levels cpu interrupts = ruling (acknowledge levels interrupts) cpu
ruled call.Eoi levels cpu interrupts = ruling (end_of_interrupt cpu.registers interrupts) cpu
ruled call.SetTaskPriority levels cpu interrupts = ruling (set_task_priority cpu.registers interrupts) cpu
ruled call.GetTaskPriority levels cpu interrupts = ruling (get_task_priority interrupts) cpu
ruled _ levels cpu interrupts = answering (refusal Unimplemented) cpu interrupts

-- The services for partitions and their managers.
unfoldable pub managed : List Port → Call → Cpu → Controller → List End → Done
managed ports call.Start cpu interrupts ends = answering (start ports cpu.registers ends) cpu interrupts
managed ports call.Stop cpu interrupts ends = obeying (stop ports cpu.registers ends) cpu interrupts
managed ports call.Restart cpu interrupts ends = obeying (restart ports cpu.registers ends) cpu interrupts
managed ports call.GetStatus cpu interrupts ends = answering (get_status ports cpu.registers ends) cpu interrupts
managed ports call cpu interrupts ends = ruled call (levels ports ends) cpu interrupts

-- By the service, but that copying, which sees the memory, is a case of the instruction.
unfoldable pub served : List Port → Call → Cpu → Controller → List End → Done
served ports call.Send cpu interrupts ends = answering (send (kinds_of ports) cpu.registers ends) cpu interrupts
served ports call.Receive cpu interrupts ends = answering (receive (kinds_of ports) cpu.registers ends) cpu interrupts
served ports call.Poll cpu interrupts ends = answering (poll (kinds_of ports) cpu.registers ends) cpu interrupts
served ports call.DoorbellSend cpu interrupts ends = answering (doorbell_send (kinds_of ports) cpu.registers) cpu interrupts
served ports call.Idle cpu interrupts ends = answering granted (waiting cpu) interrupts
served ports call cpu interrupts ends = managed ports call cpu interrupts ends

-- ---- interrupts

-- the entry of an interrupt
abbrev pub entered : Cause → Cpu → Cpu
entered cause cpu = with_registers (delivered cpu.next_victim cause cpu.registers) cpu

-- A machine check is entered where MSR[ME] is set. Where it is clear the partition stops, and its registers stay as they are.
unfoldable pub checked : Cpu → Controller → Done
checked cpu interrupts =
    if may_enter cause.MachineCheck cpu.registers then quiet (entered cause.MachineCheck cpu) interrupts
    else record { cpu = cpu; interrupts = interrupts; act = Faulted }

-- An access that finds no memory: where no translation matches it is a TLB error, which is the cause, and where one does a machine
-- check.
abbrev pub missed : Cause → Found → Cpu → Controller → Done
missed cause Missing cpu interrupts = quiet (entered cause cpu) interrupts
missed cause _ cpu interrupts = checked cpu interrupts

abbrev pub found_for : List Area → Cpu → Bool → ℕ → Found
found_for areas cpu space ea = found areas cpu.translations space cpu.registers.pid ea

-- ---- the instruction

abbrev pub is_copy : Call → Bool
is_copy call.Memcpy = true
is_copy _ = false

-- a privileged instruction of the system
unfoldable pub privileged : Insn → Cpu → Cpu
privileged insn cpu =
    let done : Emulated = emulated insn.op insn.word cpu.registers cpu.translations cpu.next_victim in
    record { registers = done.registers; translations = done.slots; next_victim = done.nv }

-- what comes of an instruction's answer, in the core as the instruction left it
unfoldable pub handled : Shape → core.Answer → Cpu → Controller → List End → Done
handled shape (core.Retired ranges) cpu interrupts ends = quiet cpu interrupts
handled shape core.Waiting cpu interrupts ends = quiet cpu interrupts
handled shape core.Sc cpu interrupts ends = quiet (entered cause.Syscall cpu) interrupts
handled shape core.Hcall cpu interrupts ends = served shape.ports (call_of (gpr_of cpu.registers 11)) cpu interrupts ends
handled shape (core.Priv insn) cpu interrupts ends = quiet (privileged insn cpu) interrupts
handled shape (core.MissData ea store) cpu interrupts ends =
    missed (cause.MissData ea store) (found_for shape.areas cpu (data_space cpu.registers) ea) cpu interrupts
handled shape (core.MissInsn ea) cpu interrupts ends =
    missed (cause.MissInsn ea) (found_for shape.areas cpu (instruction_space cpu.registers) ea) cpu interrupts
handled shape (core.StorageData ea store little) cpu interrupts ends =
    quiet (entered (cause.StorageData ea (store_syndrome store + order_syndrome little)) cpu) interrupts
handled shape (core.StorageInsn little) cpu interrupts ends = quiet (entered (cause.StorageInsn (order_syndrome little)) cpu) interrupts
handled shape (core.Align ea store) cpu interrupts ends = quiet (entered (cause.Align ea (store_syndrome store)) cpu) interrupts
handled shape (core.Program syndrome) cpu interrupts ends = quiet (entered (cause.Program syndrome) cpu) interrupts
handled shape core.NoFloat cpu interrupts ends = quiet (entered cause.NoFloat cpu) interrupts

-- what an instruction wrote
abbrev pub written : core.Answer → List Wrote
written (core.Retired ranges) = ranges
written _ = []

-- what of that lies in shared regions
abbrev pub shared_ranges : List Area → List Wrote → List Wrote
shared_ranges areas ranges = filter (λ (range : Wrote). not (area_at areas range.extent).private) ranges

-- what a step leaves of its core, of the controller and of the memory, what others see of it, and what it stored in shared regions
pub record CoreStepped : Type 0 where
  pub cpu : Cpu
  pub interrupts : Controller
  pub memory : List (List ℕ)
  pub act : Act
  -- by the places of the regions
  pub stored : List Wrote

abbrev pub still : Done → List (List ℕ) → CoreStepped
still done memory = record { cpu = done.cpu; interrupts = done.interrupts; memory = memory; act = done.act; stored = [] }

-- the answer is a hypercall that asks to copy memory
abbrev pub asks_copy : core.Answer → Registers → Bool
asks_copy core.Hcall registers = is_copy (call_of (gpr_of registers 11))
asks_copy _ registers = false

-- what a copy writes into the caller's memory ends the caller's own reservation there
abbrev pub copying : Shape → Served → Copy → List ℕ → Cpu → Controller → List (List ℕ) → CoreStepped
copying shape served it feed cpu interrupts memory = record {
  cpu = answered served.reply (with_copied (copied_at it) cpu);
  interrupts = interrupts;
  memory = all_put (own_regions shape.areas) (copied_in it feed) memory;
  act = served.act;
  stored = [];
}

-- what the instruction's answer comes to, which was given with this memory
abbrev pub answering_to : Shape → core.Answer → Cpu → Controller → List End → List (List ℕ) → CoreStepped
answering_to shape answer cpu interrupts ends memory =
    let done : Done = handled shape answer cpu interrupts ends in
    record {
      cpu = done.cpu;
      interrupts = done.interrupts;
      memory = memory;
      act = done.act;
      stored = shared_ranges shape.areas (written answer);
    }

-- All of the step that sees the memory. The feed is what it copies out of a managed partition.
unfoldable pub instruction : Shape → Cpu → Controller → List End → List (List ℕ) → List ℕ → CoreStepped
instruction shape cpu interrupts ends memory feed =
    let did : core.Stepped = core.stepped (lookup shape.areas cpu.translations) cpu.registers memory in
    let left : Cpu = with_registers did.registers cpu in
    if asks_copy did.answer did.registers
    then copying shape (copy shape did.registers did.memory) (asked_copy shape did.registers did.memory) feed left interrupts did.memory
    else answering_to shape did.answer left interrupts ends did.memory

-- ---- the step

-- an interrupt is pending: the controller's line is up, or the decrementer's interrupt is pending
abbrev pub is_pending : Bool → Registers → Bool
is_pending line registers = line || is_decrementer_pending registers

-- which one it is: the external one comes first
abbrev pub pending : Bool → Cause
pending line = if line then cause.External else cause.Decrementer

-- an interrupt that is pending ends the wait, also where MSR[EE] keeps it from being entered
abbrev pub woken : Bool → Registers → Registers
woken line registers = if is_pending line registers then record registers { idle = Bool.false } else registers

-- The beginning of a step: its time passes, and a core that waits is woken where an interrupt is pending.
unfoldable pub begun : Bool → Cpu → Cpu
begun line cpu = with_registers (woken line (ticked cpu.registers)) cpu

-- The rest of it: an interrupt that is pending is entered where MSR[EE] lets it; else a core that waits goes on waiting; else an
-- instruction is done.
unfoldable pub acted : Shape → Bool → Cpu → Controller → List End → List (List ℕ) → List ℕ → CoreStepped
acted shape line cpu interrupts ends memory feed =
    if is_pending line cpu.registers && are_interrupts_enabled cpu.registers then still (quiet (entered (pending line) cpu) interrupts) memory
    else if cpu.registers.idle then still (quiet cpu interrupts) memory
    else instruction shape cpu interrupts ends memory feed

-- the line is as it stands before the step
unfoldable pub core_step : Shape → Cpu → Controller → List End → List (List ℕ) → List ℕ → CoreStepped
core_step shape cpu interrupts ends memory feed =
    let line = is_line_up shape.ports interrupts ends in acted shape line (begun line cpu) interrupts ends memory feed

-- the machine after a step, what others see of it, and what it stored in shared regions, by the regions' places
pub record Stepped : Type 0 where
  pub after : Machine
  pub act : Act
  pub stored : List Wrote

-- the machine once its core at this place has done so
abbrev pub with_step : ℕ → CoreStepped → Machine → Machine
with_step core done machine = record {
  inner = record {
    cores = slice_set machine.inner.cores core done.cpu;
    interrupts = done.interrupts;
    state = state_after done.act;
    steps = machine.inner.steps + 1;
  };
  ports = ports_after done.act machine.ports;
  memory = done.memory;
}

-- a machine that restarts itself is as after any restart, and its step is counted
abbrev pub unless_restarting : Desc → Act → Machine → Machine
unless_restarting desc SelfRestart machine = started desc desc.entry true machine
unless_restarting desc _ machine = machine

-- One step of the core at this place. The feed is what the step copies out of a managed partition (`asks` of Asking.antt).
unfoldable pub step : Desc → Machine → ℕ → List ℕ → Stepped
step desc machine core feed =
    let done : CoreStepped = core_step (shape_of desc) (core_at machine.inner.cores core) machine.inner.interrupts machine.ports machine.memory feed in
    record { after = unless_restarting desc done.act (with_step core done machine); act = done.act; stored = done.stored }
