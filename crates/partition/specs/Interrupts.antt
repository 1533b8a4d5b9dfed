-- Interrupts of a partition: which sources are up, when the external line is, and the hypercalls of the interrupt controller and of
-- doorbells (ePAPR 1.1, chapter 7), from registers and controller to a reply and a controller.
use Rattle.std.specs.Prelude.{ℕ, ◌<◌, ◌+◌, ◌-◌, ◌/◌, ◌^◌, ◌==◌, Bool, true, false, nat_lt, List, [], ◌∷◌, length, Option, None, Some, slice_get, bit_or, is_some, if◌then◌else◌}
use Rattle.std.specs.List.{flat_map}
use Rattle.std.specs.Int.{w128, trailing_zeros}
use Rattle.guest_regs.specs.Registers.{Registers, gpr_of}
use Rattle.hcall_abi.specs.declared.status.Status.TheVariants.{Success, InvalidArgument}
use Rattle.hcall_abi.specs.Reply.{Reply}
use Rattle.hcall_abi.specs.Status.{code_of}
use Rattle.machine_desc.specs.declared.desc.Port.{Port}
use Rattle.machine_desc.specs.declared.desc.Port.TheVariants as described
use Rattle.machine_desc.specs.Sound.{interrupts_of}
use Rattle.vpic.specs.declared.source.Source.{Source}
use Rattle.vpic.specs.Numbers.{without_number}
use Rattle.vpic.specs.Controller.{Controller, is_number}
use Rattle.vpic.specs.Choice.{chosen}
use Rattle.vpic.specs.Calls.{taken, is_in_service, ended, may_configure, configured, with_mask, mask_of, may_set_task, with_task, rung}
use Rattle.partition.specs.declared.kind.Kind.{Kind}
use Rattle.partition.specs.declared.kind.Kind.TheVariants.{Send}
use Rattle.partition.specs.Port.{End, kind_at, end_at, channel_size}
use Rattle.partition.specs.Act.{Nothing, Rang}
use Rattle.partition.specs.Channels.{Served, refusal}

-- ---- the sources

-- how many interrupts a handle has, and all handles together
abbrev pub count_of : Port → ℕ
count_of port = length (interrupts_of port)

abbrev pub interrupt_count : List Port → ℕ
interrupt_count ports = length (flat_map interrupts_of ports)

-- a set of this one number, or of none
abbrev pub only_if : Bool → ℕ → ℕ
only_if up n = if up then 2 ^ n else 0

-- Of a channel the interrupt of received bytes is up while some wait, and that of room while there is some. No other handle has a
-- level: a doorbell's source is up by its latch.
abbrev pub level_of : Port → End → ℕ
level_of (described.Channel rx tx) it = bit_or (only_if (nat_lt 0 (length it.received)) rx) (only_if (nat_lt it.outstanding channel_size) tx)
level_of _ it = 0

-- the numbers that are up, of the handles from this one on
abbrev pub levels_from : ℕ → List Port → List End → ℕ
levels_from handle [] ends = 0
levels_from handle (port ∷ ports) ends = bit_or (level_of port (end_at ends handle)) (levels_from (handle + 1) ports ends)

unfoldable pub levels : List Port → List End → ℕ
levels ports ends = levels_from 1 ports ends

-- the line from the controller to the core
unfoldable pub is_line_up : List Port → Controller → List End → Bool
is_line_up ports interrupts ends = is_some (chosen interrupts (levels ports ends))

-- ---- doorbells

abbrev pub bell_of : Port → Option ℕ
bell_of (described.Receive irq) = Some irq
bell_of _ = None

abbrev pub bell_among : Option Port → Option ℕ
bell_among None = None
bell_among (Some port) = bell_of port

-- the interrupt of a receive handle, and none where the handle is no such one
abbrev pub bell_at : List Port → ℕ → Option ℕ
bell_at ports handle = if handle == 0 then None else bell_among (slice_get ports (handle - 1))

-- the latch of a receive handle is set
abbrev pub rung_by : Option ℕ → Controller → Controller
rung_by None interrupts = interrupts
rung_by (Some n) interrupts = rung n interrupts

abbrev pub is_send : Option Kind → Bool
is_send (Some Send) = true
is_send _ = false

-- done, with no values and nothing that others see
abbrev pub granted : Served
granted = record { reply = record { status = code_of Success; outs = [] }; act = Nothing }

-- Ring the doorbell r3.
unfoldable pub doorbell_send : List Kind → Registers → Served
doorbell_send kinds registers =
    let handle = gpr_of registers 3 in
    if is_send (kind_at kinds handle) then record granted { act = Rang handle }
    else refusal InvalidArgument

-- ---- the calls of the controller

-- what such a call answers, and the controller then
pub record Ruled : Type 0 where
  pub reply : Reply
  pub interrupts : Controller

-- a reply without values, by whether the call was done or had an argument out of its range
abbrev pub reply_to : Bool → Reply
reply_to done = record { status = code_of (if done then Success else InvalidArgument); outs = [] }

-- it is done, with these values in r4 and on
abbrev pub done : List ℕ → Controller → Ruled
done outs interrupts = record { reply = record { status = code_of Success; outs = outs }; interrupts = interrupts }

-- an argument is out of its range, and nothing is done
abbrev pub refused : Controller → Ruled
refused interrupts = record { reply = record { status = code_of InvalidArgument; outs = [] }; interrupts = interrupts }

-- Give the source r3 the configuration r4, the priority r5 and the destination r6.
unfoldable pub set_config : Registers → Controller → Ruled
set_config registers interrupts =
    let n = gpr_of registers 3 in
    let config = gpr_of registers 4 in
    let priority = gpr_of registers 5 in
    let dest = gpr_of registers 6 in
    if may_configure interrupts n config priority dest then done [] (configured n config priority dest interrupts) else refused interrupts

abbrev pub telling_config : Option Source → Controller → Ruled
telling_config None interrupts = refused interrupts
telling_config (Some source) interrupts = done (source.config ∷ source.priority ∷ source.dest ∷ []) interrupts

-- Of the source r3: r4 tells the configuration, r5 the priority and r6 the destination.
unfoldable pub get_config : Registers → Controller → Ruled
get_config registers interrupts = telling_config (slice_get interrupts.sources (gpr_of registers 3)) interrupts

-- Mask the source r3, or unmask it where r4 is 0.
unfoldable pub set_mask : Registers → Controller → Ruled
set_mask registers interrupts =
    let n = gpr_of registers 3 in
    if is_number interrupts n then done [] (with_mask n (gpr_of registers 4) interrupts) else refused interrupts

abbrev pub telling_mask : Option Bool → Controller → Ruled
telling_mask None interrupts = refused interrupts
telling_mask (Some masked) interrupts = done ((if masked then 1 else 0) ∷ []) interrupts

-- Of the source r3: r4 is 1 where it is masked, else 0.
unfoldable pub get_mask : Registers → Controller → Ruled
get_mask registers interrupts = telling_mask (mask_of interrupts (gpr_of registers 3)) interrupts

-- what r4 tells where no source is chosen
abbrev pub no_number : ℕ
no_number = 0xFFFF

abbrev pub number_or_none : Option ℕ → ℕ
number_or_none None = no_number
number_or_none (Some n) = n

-- Take the chosen source into service: r4 tells its number. No register is read.
unfoldable pub acknowledge : ℕ → Controller → Ruled
acknowledge levels interrupts = done (number_or_none (chosen interrupts levels) ∷ []) (taken (chosen interrupts levels) interrupts)

-- End the service of the source r3.
unfoldable pub end_of_interrupt : Registers → Controller → Ruled
end_of_interrupt registers interrupts =
    let n = gpr_of registers 3 in
    if is_in_service interrupts n then done [] (ended n interrupts) else refused interrupts

-- From now on a source's priority has to exceed r3.
unfoldable pub set_task_priority : Registers → Controller → Ruled
set_task_priority registers interrupts =
    let priority = gpr_of registers 3 in
    if may_set_task priority then done [] (with_task priority interrupts) else refused interrupts

-- r4 tells which priority that is.
unfoldable pub get_task_priority : Controller → Ruled
get_task_priority interrupts = done (interrupts.task ∷ []) interrupts

-- ---- what the code knows of them

-- a set of numbers without those of a handle
abbrev pub without_those_of : Port → ℕ → ℕ
without_those_of (described.Channel rx tx) numbers = without_number (without_number numbers rx) tx
without_those_of (described.Receive irq) numbers = without_number numbers irq
without_those_of _ numbers = numbers

-- Of the first handles each has at most two numbers: so the handle of the lowest of these numbers is at this place or behind it.
abbrev pub lowest_place : ℕ → ℕ
lowest_place numbers = trailing_zeros w128 numbers / 2

-- the interrupts of a handle are below this number
abbrev pub HasNumbersBelow : ℕ → Port → Type 0
HasNumbersBelow most (described.Channel rx tx) = (rx < most) × (tx < most)
HasNumbersBelow most (described.Receive irq) = irq < most
HasNumbersBelow most _ = Unit {0}
