-- Which acts a step may be, and what it leaves of the ends.
use Rattle.std.proofs.Common.{◌≡◌, ℕ, ◌≤◌, ◌==◌, nat_lt, not, Bool, true, false, cond, List, [], ◌∷◌, length, take, Option, Some, None, refl, sym, ap, subst, ◌∙◌, arith}
use Rattle.std.proofs.lemmas.Bool.{or_parts, not-false, ltb-false}
use Rattle.std.proofs.lemmas.List.{length-take}
use Rattle.guest_regs.specs.Registers.{Registers, gpr_of}
use Rattle.core_step.specs.Step as core
use Rattle.trap_emulate.specs.declared.cause.Cause.{Cause}
use Rattle.trap_emulate.specs.declared.cause.Cause.TheVariants as cause
use Rattle.trap_emulate.specs.Entry.{may_enter}
use Rattle.machine_desc.specs.declared.desc.Desc.{Desc}
use Rattle.machine_desc.specs.declared.desc.Port.{Port}
use Rattle.vpic.specs.Controller.{Controller}
use Rattle.hcall_abi.specs.declared.call.Call.{Call}
use Rattle.hcall_abi.specs.declared.call.Call.TheVariants as call
use Rattle.hcall_abi.specs.declared.status.Status.TheVariants as status
use Rattle.hcall_abi.specs.Call.{call_of}
use Rattle.hcall_abi.specs.Payload.{payload, sent_bytes}
use Rattle.hcall_abi.specs.Status.{own_handle}
use Rattle.partition_manager.specs.declared.decision.Decision.{Decision}
use Rattle.partition_manager.specs.declared.decision.Decision.TheVariants.{Go, Refuse}
use Rattle.partition_manager.specs.Decisions.{decide_start, decide_stop, decide_restart, decide_status}
use Rattle.machine_desc.specs.Private.{is_private_range}
use Rattle.copy_lists.specs.declared.list.SgEntry.{SgEntry}
use Rattle.copy_lists.specs.Lists.{is_to_managed, managed_handle, managed_spans, asked_entries, decided_entries, are_entries_private, total}
use Rattle.copy_lists.specs.Spans.{is_in_spans}
use Rattle.copy_lists.specs.Pieces.{Piece, pieces_out}
use Rattle.partition.specs.declared.kind.Kind.{Kind}
use Rattle.partition.specs.declared.kind.Kind.TheVariants as kind
use Rattle.partition.specs.declared.found.Found.{Found}
use Rattle.partition.specs.declared.found.Found.TheVariants.{Missing, Unbacked, Backed}
use Rattle.partition.specs.Channels.{Served, refusal, is_bad_transfer, is_channel, sending, receiving, polling, send, receive, poll}
use Rattle.partition.specs.Found.{lookup}
use Rattle.partition.specs.Port.{End, kinds_of, kind_at, room_at, end_at, emptied}
use Rattle.partition.specs.Interrupts.{granted, is_send, is_line_up, doorbell_send}
use Rattle.partition.specs.Act.{Act, Nothing, Took, Rang, Start, Stop, Restart, SelfStop, SelfRestart, CopyFrom, Faulted, sent, took, copied_to, ports_after, state_after}
use Rattle.partition.specs.Managing.{runs_at, decided, commanding, own_or, start, stop, restart, get_status}
use Rattle.partition.specs.Machine.{Cpu, Machine, Shape, shape_of, core_at}
use Rattle.partition.specs.Step.{Done, CoreStepped, quiet, with_registers, entered, checked, missed, served, managed, ruled, handled, still, instruction, pending, begun, acted, asks_copy, copying, answering_to, core_step, with_step, unless_restarting, step}
use Rattle.partition.specs.Copying.{own_regions, own_byte, decide_copy, asked_copy, copy_act, copy}
use Rattle.partition.specs.Acting.{LieIn, MayAct, StepsAct}
use Rattle.partition.proofs.Steps.{emptied_twice}
use Rattle.partition.proofs.Managed.{manage_kind, starts, stops, restarts}
use Rattle.partition.proofs.Copies.{copy_goes, copy_manages, pieces_lie}

-- ---- acts that can be

sent_may : (ports : List Port) (ends : List End) (handle : ℕ) (bytes : List ℕ) → kind_at (kinds_of ports) handle ≡ Some kind.Channel → length bytes ≤ room_at ends handle → MayAct ports ends (sent handle bytes)
sent_may ports ends handle [] channel fits = tt
sent_may ports ends handle (byte ∷ bytes) channel fits = (channel, omega (arith, fits))

took_may : (ports : List Port) (ends : List End) (handle count : ℕ) → kind_at (kinds_of ports) handle ≡ Some kind.Channel → count ≤ length (end_at ends handle).received → MayAct ports ends (took handle count)
took_may ports ends handle count channel there = by_zero (count == 0)
  where
    by_zero : (b : Bool) → MayAct ports ends (cond b Nothing (Took handle count))
    by_zero true = tt
    by_zero false = (channel, there)

served_if : (ports : List Port) (ends : List End) (b : Bool) (one other : Served) → (b ≡ true → MayAct ports ends one.act) → (b ≡ false → MayAct ports ends other.act) → MayAct ports ends (cond b one other).act
served_if ports ends true one other h k = h refl
served_if ports ends false one other h k = k refl

is_channel_kind : (found : Option Kind) → is_channel found ≡ true → found ≡ Some kind.Channel
is_channel_kind None h = absurd (cc)
is_channel_kind (Some kind.Channel) h = refl
is_channel_kind (Some kind.Send) h = absurd (cc)
is_channel_kind (Some kind.Receive) h = absurd (cc)
is_channel_kind (Some kind.Manage) h = absurd (cc)

is_send_kind : (found : Option Kind) → is_send found ≡ true → found ≡ Some kind.Send
is_send_kind None h = absurd (cc)
is_send_kind (Some kind.Channel) h = absurd (cc)
is_send_kind (Some kind.Send) h = refl
is_send_kind (Some kind.Receive) h = absurd (cc)
is_send_kind (Some kind.Manage) h = absurd (cc)

-- a transfer that isn't refused is one on a channel
transfers : (kinds : List Kind) (registers : Registers) → is_bad_transfer kinds registers ≡ false → kind_at kinds (gpr_of registers 3) ≡ Some kind.Channel
transfers kinds registers good = is_channel_kind (kind_at kinds (gpr_of registers 3)) (not-false (is_channel (kind_at kinds (gpr_of registers 3))) (or_parts _ _ good).0)

few_sent : (count : ℕ) (registers : Registers) → length (sent_bytes count registers) ≤ count
few_sent count registers = omega (arith, length-take count (payload registers))

send_may : (ports : List Port) (registers : Registers) (ends : List End) → MayAct ports ends (send (kinds_of ports) registers ends).act
unfolding send
send_may ports registers ends =
    let handle = gpr_of registers 3 in
    let count = gpr_of registers 4 in
    let room = room_at ends handle in
    served_if ports ends (is_bad_transfer (kinds_of ports) registers) (refusal status.InvalidArgument) (cond (nat_lt room count) (sending status.TryAgain handle room registers) (sending status.Success handle count registers)) (λ _. tt)
    (
    λ good. served_if ports ends (nat_lt room count) (sending status.TryAgain handle room registers) (sending status.Success handle count registers)
    (λ _. sent_may ports ends handle _ (transfers (kinds_of ports) registers good) (few_sent room registers))
    (λ fits. sent_may ports ends handle _ (transfers (kinds_of ports) registers good) (omega (arith, few_sent count registers, ltb-false room count fits)))
    )

receive_may : (ports : List Port) (registers : Registers) (ends : List End) → MayAct ports ends (receive (kinds_of ports) registers ends).act
unfolding receive
receive_may ports registers ends =
    let handle = gpr_of registers 3 in
    let bytes = take (gpr_of registers 4) (end_at ends handle).received in
    served_if ports ends (is_bad_transfer (kinds_of ports) registers) (refusal status.InvalidArgument) (receiving handle bytes) (λ _. tt)
    (λ good. took_may ports ends handle (length bytes) (transfers (kinds_of ports) registers good) (omega (arith, length-take (gpr_of registers 4) (end_at ends handle).received)))

poll_may : (ports : List Port) (registers : Registers) (ends : List End) → MayAct ports ends (poll (kinds_of ports) registers ends).act
unfolding poll
poll_may ports registers ends = served_if ports ends (is_channel (kind_at (kinds_of ports) (gpr_of registers 3))) (polling ends (gpr_of registers 3)) (refusal status.InvalidArgument) (λ _. tt) (λ _. tt)

bell_may : (ports : List Port) (registers : Registers) (ends : List End) → MayAct ports ends (doorbell_send (kinds_of ports) registers).act
unfolding doorbell_send
bell_may ports registers ends =
    served_if ports ends (is_send (kind_at (kinds_of ports) (gpr_of registers 3))) (record granted { act = Rang (gpr_of registers 3) }) (refusal status.InvalidArgument)
    (λ rings. is_send_kind (kind_at (kinds_of ports) (gpr_of registers 3)) rings) (λ _. tt)

decided_may : (ports : List Port) (ends : List End) (decision : Decision) (it : Served) → (decision ≡ Go → MayAct ports ends it.act) → MayAct ports ends (decided decision it).act
decided_may ports ends Go it h = h refl
decided_may ports ends (Refuse number) it h = tt

own_may : (ports : List Port) (ends : List End) (own : Bool) (one other : Act) → MayAct ports ends one → (own ≡ false → MayAct ports ends other) → MayAct ports ends (cond own one other)
own_may ports ends true one other h k = h
own_may ports ends false one other h k = k refl

start_may : (ports : List Port) (registers : Registers) (ends : List End) → MayAct ports ends (start ports registers ends).act
unfolding start
start_may ports registers ends =
    let handle = gpr_of registers 3 in
    let entry = gpr_of registers 4 in
    decided_may ports ends (decide_start ports handle entry (runs_at ports ends handle)) (commanding (Start handle entry (not (gpr_of registers 5 == 0))))
    (λ goes. let known = starts ports ends handle entry goes in (known.kind, known.state))

stop_may : (ports : List Port) (registers : Registers) (ends : List End) → MayAct ports ends (stop ports registers ends).act
unfolding stop
stop_may ports registers ends =
    let handle = gpr_of registers 3 in
    decided_may ports ends (decide_stop ports handle (runs_at ports ends handle)) (commanding (own_or handle SelfStop (Stop handle)))
    (
    λ goes. own_may ports ends (handle == own_handle) SelfStop (Stop handle) tt
    (λ other. let known = stops ports ends handle goes other in (known.kind, known.state))
    )

restart_may : (ports : List Port) (registers : Registers) (ends : List End) → MayAct ports ends (restart ports registers ends).act
unfolding restart
restart_may ports registers ends =
    let handle = gpr_of registers 3 in
    decided_may ports ends (decide_restart ports handle (runs_at ports ends handle)) (commanding (own_or handle SelfRestart (Restart handle)))
    (
    λ goes. own_may ports ends (handle == own_handle) SelfRestart (Restart handle) tt
    (λ other. let known = restarts ports ends handle goes other in (known.kind, known.state))
    )

status_may : (ports : List Port) (registers : Registers) (ends : List End) → MayAct ports ends (get_status ports registers ends).act
unfolding get_status
status_may ports registers ends = decided_may ports ends (decide_status ports (gpr_of registers 3)) _ (λ _. tt)

served_may : (ports : List Port) (c : Call) (cpu : Cpu) (interrupts : Controller) (ends : List End) → MayAct ports ends (served ports c cpu interrupts ends).act
unfolding served managed ruled
served_may ports call.Send cpu interrupts ends = send_may ports cpu.registers ends
served_may ports call.Receive cpu interrupts ends = receive_may ports cpu.registers ends
served_may ports call.Poll cpu interrupts ends = poll_may ports cpu.registers ends
served_may ports call.DoorbellSend cpu interrupts ends = bell_may ports cpu.registers ends
served_may ports call.Start cpu interrupts ends = start_may ports cpu.registers ends
served_may ports call.Stop cpu interrupts ends = stop_may ports cpu.registers ends
served_may ports call.Restart cpu interrupts ends = restart_may ports cpu.registers ends
served_may ports call.GetStatus cpu interrupts ends = status_may ports cpu.registers ends
served_may ports _ cpu interrupts ends = tt

done_if : (ports : List Port) (ends : List End) (b : Bool) (one other : Done) → MayAct ports ends one.act → MayAct ports ends other.act → MayAct ports ends (cond b one other).act
done_if ports ends true one other h k = h
done_if ports ends false one other h k = k

step_if : (ports : List Port) (ends : List End) (b : Bool) (one other : CoreStepped) → MayAct ports ends one.act → MayAct ports ends other.act → MayAct ports ends (cond b one other).act
step_if ports ends true one other h k = h
step_if ports ends false one other h k = k

checked_may : (ports : List Port) (ends : List End) (cpu : Cpu) (interrupts : Controller) → MayAct ports ends (checked cpu interrupts).act
unfolding checked
checked_may ports ends cpu interrupts =
    done_if ports ends (may_enter cause.MachineCheck cpu.registers) (quiet (entered cause.MachineCheck cpu) interrupts) (record { cpu = cpu; interrupts = interrupts; act = Faulted }) tt tt

missed_may : (ports : List Port) (ends : List End) (reason : Cause) (found : Found) (cpu : Cpu) (interrupts : Controller) → MayAct ports ends (missed reason found cpu interrupts).act
missed_may ports ends reason Missing cpu interrupts = tt
missed_may ports ends reason Unbacked cpu interrupts = checked_may ports ends cpu interrupts
missed_may ports ends reason (Backed page) cpu interrupts = checked_may ports ends cpu interrupts

handled_may : (shape : Shape) (answer : core.Answer) (cpu : Cpu) (interrupts : Controller) (ends : List End) → MayAct shape.ports ends (handled shape answer cpu interrupts ends).act
unfolding handled
handled_may shape core.Hcall cpu interrupts ends = served_may shape.ports (call_of (gpr_of cpu.registers 11)) cpu interrupts ends
handled_may shape (core.MissData ea store) cpu interrupts ends = missed_may shape.ports ends (cause.MissData ea store) _ cpu interrupts
handled_may shape (core.MissInsn ea) cpu interrupts ends = missed_may shape.ports ends (cause.MissInsn ea) _ cpu interrupts
handled_may shape _ cpu interrupts ends = tt

-- a copy that goes is one between the caller and a partition that it manages
copy_may : (shape : Shape) (registers : Registers) (ends : List End) (memory : List (List ℕ)) → MayAct shape.ports ends (copy shape registers memory).act
unfolding copy
copy_may shape registers ends memory =
    let handle = managed_handle registers in
    let entries : List SgEntry = asked_entries registers (own_byte shape.areas memory) in
    decided_may shape.ports ends (decide_copy shape registers memory) (commanding (copy_act (own_regions shape.areas) memory (asked_copy shape registers memory)))
    (
    λ goes. let known = copy_goes shape registers memory goes in
    subst (λ (d : Decision). MayAct shape.ports ends (copy_act (own_regions shape.areas) memory (record { handle = handle; to_managed = is_to_managed registers; entries = decided_entries d entries }))) (sym goes)
    (by_way (is_to_managed registers) refl (manage_kind shape.ports handle (copy_manages shape.ports registers known.asked)) known.private)
    )
  where
    to_may : (pieces : List Piece) → kind_at (kinds_of shape.ports) (managed_handle registers) ≡ Some kind.Manage → LieIn (managed_spans shape.ports (managed_handle registers)) pieces → MayAct shape.ports ends (copied_to (managed_handle registers) pieces)
    to_may [] manages lie = tt
    to_may (piece ∷ pieces) manages lie = (manages, lie)

    from_may : (none : Bool) (count : ℕ) → kind_at (kinds_of shape.ports) (managed_handle registers) ≡ Some kind.Manage → MayAct shape.ports ends (cond none Nothing (CopyFrom (managed_handle registers) count))
    from_may true count manages = tt
    from_may false count manages = manages

    by_way : (b : Bool) → is_to_managed registers ≡ b → kind_at (kinds_of shape.ports) (managed_handle registers) ≡ Some kind.Manage
        → are_entries_private (is_to_managed registers) (is_private_range (own_regions shape.areas)) (is_in_spans (managed_spans shape.ports (managed_handle registers))) (asked_entries registers (own_byte shape.areas memory)) ≡ true
        → MayAct shape.ports ends (copy_act (own_regions shape.areas) memory (record { handle = managed_handle registers; to_managed = b; entries = asked_entries registers (own_byte shape.areas memory) }))
    by_way true way manages private =
        to_may (pieces_out (own_regions shape.areas) memory (asked_entries registers (own_byte shape.areas memory))) manages
        (pieces_lie (is_private_range (own_regions shape.areas)) (managed_spans shape.ports (managed_handle registers)) (own_regions shape.areas) memory (asked_entries registers (own_byte shape.areas memory))
        (sym (ap (λ (to : Bool). are_entries_private to (is_private_range (own_regions shape.areas)) (is_in_spans (managed_spans shape.ports (managed_handle registers))) (asked_entries registers (own_byte shape.areas memory))) way) ∙ private))
    by_way false way manages private = from_may (total (asked_entries registers (own_byte shape.areas memory)) == 0) _ manages

instruction_may : (shape : Shape) (cpu : Cpu) (interrupts : Controller) (ends : List End) (memory : List (List ℕ)) (feed : List ℕ) → MayAct shape.ports ends (instruction shape cpu interrupts ends memory feed).act
unfolding instruction
instruction_may shape cpu interrupts ends memory feed =
    let did : core.Stepped = core.stepped (lookup shape.areas cpu.translations) cpu.registers memory in
    let left : Cpu = with_registers did.registers cpu in
    step_if shape.ports ends (asks_copy did.answer did.registers) (copying shape (copy shape did.registers did.memory) (asked_copy shape did.registers did.memory) feed left interrupts did.memory) (answering_to shape did.answer left interrupts ends did.memory)
    (copy_may shape did.registers ends did.memory) (handled_may shape did.answer left interrupts ends)

acted_may : (shape : Shape) (line : Bool) (cpu : Cpu) (interrupts : Controller) (ends : List End) (memory : List (List ℕ)) (feed : List ℕ) → MayAct shape.ports ends (acted shape line cpu interrupts ends memory feed).act
unfolding acted
acted_may shape line cpu interrupts ends memory feed =
    step_if shape.ports ends _ (still (quiet (entered (pending line) cpu) interrupts) memory) (cond cpu.registers.idle (still (quiet cpu interrupts) memory) (instruction shape cpu interrupts ends memory feed)) tt
    (step_if shape.ports ends cpu.registers.idle (still (quiet cpu interrupts) memory) (instruction shape cpu interrupts ends memory feed) tt (instruction_may shape cpu interrupts ends memory feed))

core_may : (shape : Shape) (cpu : Cpu) (interrupts : Controller) (ends : List End) (memory : List (List ℕ)) (feed : List ℕ) → MayAct shape.ports ends (core_step shape cpu interrupts ends memory feed).act
unfolding core_step
core_may shape cpu interrupts ends memory feed =
    let line = is_line_up shape.ports interrupts ends in acted_may shape line (begun line cpu) interrupts ends memory feed

-- ---- what a step leaves

ports_left : (desc : Desc) (act : Act) (machine : Machine) (ends : List End) → machine.ports ≡ ports_after act ends → (unless_restarting desc act machine).ports ≡ ports_after act ends
ports_left desc SelfRestart machine ends e = ap emptied e ∙ emptied_twice ends
ports_left desc _ machine ends e = e

state_left : (desc : Desc) (act : Act) (machine : Machine) → machine.inner.state ≡ state_after act → (unless_restarting desc act machine).inner.state ≡ state_after act
state_left desc SelfRestart machine e = refl
state_left desc _ machine e = e

steps_left : (desc : Desc) (act : Act) (machine : Machine) → (unless_restarting desc act machine).inner.steps ≡ machine.inner.steps
steps_left desc SelfRestart machine = refl
steps_left desc _ machine = refl

pub steps_so : StepsAct
unfolding step
steps_so desc machine core feed =
    let done : CoreStepped = core_step (shape_of desc) (core_at machine.inner.cores core) machine.inner.interrupts machine.ports machine.memory feed in
    let left : Machine = with_step core done machine in
    record {
      ports = ports_left desc done.act left machine.ports refl;
      state = state_left desc done.act left refl;
      counted = steps_left desc done.act left;
      may = core_may (shape_of desc) (core_at machine.inner.cores core) machine.inner.interrupts machine.ports machine.memory feed;
    }
