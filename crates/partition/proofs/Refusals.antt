-- A hypercall that was not done leaves the rest as it was.
use Rattle.std.proofs.Common.{◌≡◌, ℕ, ◌==◌, Bool, true, false, not, cond, nat_lt, List, [], ◌∷◌, length, take, set, get_or-set_other, Option, Some, None, slice_get, refl, sym, ap, subst, ◌∙◌, arith}
use Rattle.std.proofs.lemmas.Bool.{cond-false}
use Rattle.guest_regs.specs.Registers.{gpr_of, advanced}
use Rattle.machine_desc.specs.declared.act.State.TheVariants.{Running}
use Rattle.machine_desc.specs.declared.desc.Port.{Port}
use Rattle.vpic.specs.declared.source.Source.{Source}
use Rattle.vpic.specs.Controller.{Controller, is_number}
use Rattle.vpic.specs.Calls.{is_in_service, ended, may_configure, configured, with_mask, mask_of, may_set_task, with_task}
use Rattle.hcall_abi.specs.declared.call.Call.{Call}
use Rattle.hcall_abi.specs.declared.call.Call.TheVariants as call
use Rattle.hcall_abi.specs.declared.status.Status.{Status}
use Rattle.hcall_abi.specs.declared.status.Status.TheVariants as status
use Rattle.hcall_abi.specs.Call.{call_of}
use Rattle.hcall_abi.specs.Reply.{Reply, replied}
use Rattle.hcall_abi.specs.Status.{code_of}
use Rattle.hcall_abi.proofs.Registers.{first}
use Rattle.partition_manager.specs.declared.decision.Decision.{Decision}
use Rattle.partition_manager.specs.declared.decision.Decision.TheVariants.{Go, Refuse}
use Rattle.partition_manager.specs.Decisions.{decide_start, decide_stop, decide_restart, decide_status}
use Rattle.partition.specs.declared.kind.Kind.{Kind}
use Rattle.partition.specs.Channels.{Served, refusal, is_channel, is_bad_transfer, sending, receiving, polling, send, receive, poll}
use Rattle.partition.specs.Port.{End, kinds_of, kind_at, end_at, room_at}
use Rattle.copy_lists.specs.declared.list.SgEntry.{SgEntry}
use Rattle.copy_lists.specs.Lists.{is_to_managed, managed_handle, asked_entries, decided_entries}
use Rattle.partition.specs.Act.{Act, Nothing, Rang, Start, Stop, Restart, SelfStop, SelfRestart, sent, ends_caller, state_after}
use Rattle.partition.specs.Interrupts.{Ruled, is_line_up, levels, is_send, granted, doorbell_send, done, refused, telling_config, telling_mask, set_config, get_config, set_mask, get_mask, acknowledge, end_of_interrupt, set_task_priority, get_task_priority}
use Rattle.partition.specs.Machine.{Cpu, Shape}
use Rattle.partition.specs.Reservations.{with_copied}
use Rattle.partition.specs.Copying.{Copy, own_regions, own_byte, decide_copy, asked_copy, copy_act, copy, copied_at}
use Rattle.partition.specs.Managing.{runs_at, decided, commanding, own_or, start, stop, restart, get_status}
use Rattle.partition.specs.Step.{Done, CoreStepped, still, answered, answering, gone_on, obeying, ruling, waiting, ruled, managed, served, is_copy, copying, begun, core_step}
use Rattle.partition.proofs.Copies.{nothing_copied}
use Rattle.partition.proofs.Calls.{called, instructs, hypercall, general}
use Rattle.partition.specs.Refusal.{RefusesQuietly, RefusalsAreQuiet}

-- what a hypercall leaves refuses quietly
abbrev IsQuiet : Cpu → Controller → List End → List (List ℕ) → Done → Type 0
IsQuiet cpu interrupts ends memory done = RefusesQuietly cpu interrupts ends memory (still done memory)

-- by a status alone r3 changes
quiet-refusal : (s : Status) (cpu : Cpu) (interrupts : Controller) (ends : List End) (memory : List (List ℕ)) → IsQuiet cpu interrupts ends memory (answering (refusal s) cpu interrupts)
unfolding answered advanced replied
quiet-refusal s cpu interrupts ends memory _ = (
  record {
    bytes = refl;
    stored = refl;
    interrupts = refl;
    translations = refl;
    next_victim = refl;
    state = refl;
    others = refl;
    registers = λ n other _. get_or-set_other cpu.registers.gpr 3 n (code_of s) 0 other;
  },
  λ _. record {
    fourth = get_or-set_other cpu.registers.gpr 3 4 (code_of s) 0 (omega arith);
    ports = refl;
  },
)

-- the status of a reply stands in r3
third : (reply : Reply) (cpu : Cpu) → length cpu.registers.gpr ≡ 32 → gpr_of (answered reply cpu).registers 3 ≡ reply.status
unfolding answered advanced replied
third reply cpu all = first 3 reply.status reply.outs cpu.registers (omega (arith, all))

-- what is done isn't refused
quiet-done : (it : Served) (cpu : Cpu) (interrupts : Controller) (ends : List End) (memory : List (List ℕ)) → length cpu.registers.gpr ≡ 32 → it.reply.status ≡ 0 → IsQuiet cpu interrupts ends memory (answering it cpu interrupts)
quiet-done it cpu interrupts ends memory all success refused = absurd (refused (third it.reply cpu all ∙ success))

runs_on : (handle : ℕ) (bytes : List ℕ) → state_after (sent handle bytes) ≡ Running
runs_on handle [] = refl
runs_on handle (byte ∷ bytes) = refl

-- what is sent in part leaves r3 and r4
quiet-try_again : (handle count : ℕ) (cpu : Cpu) (interrupts : Controller) (ends : List End) (memory : List (List ℕ)) → length cpu.registers.gpr ≡ 32 → IsQuiet cpu interrupts ends memory (answering (sending status.TryAgain handle count cpu.registers) cpu interrupts)
unfolding answered advanced replied
quiet-try_again handle count cpu interrupts ends memory all refused = (
  record {
    bytes = refl;
    stored = refl;
    interrupts = refl;
    translations = refl;
    next_victim = refl;
    state = runs_on handle _;
    others = refl;
    registers = λ n other fourth. get_or-set_other (set cpu.registers.gpr 3 4) 4 n count 0 fourth ∙ get_or-set_other cpu.registers.gpr 3 n 4 0 other;
  },
  λ other. absurd (other (third (record { status = 4; outs = count ∷ [] }) cpu all)),
)

-- a choice between two that do
quiet-either : (test : Bool) (one other : Served) (cpu : Cpu) (interrupts : Controller) (ends : List End) (memory : List (List ℕ)) → IsQuiet cpu interrupts ends memory (answering one cpu interrupts) → IsQuiet cpu interrupts ends memory (answering other cpu interrupts) → IsQuiet cpu interrupts ends memory (answering (cond test one other) cpu interrupts)
quiet-either true one other cpu interrupts ends memory h k = h
quiet-either false one other cpu interrupts ends memory h k = k

quiet-send : (kinds : List Kind) (cpu : Cpu) (interrupts : Controller) (ends : List End) (memory : List (List ℕ)) → length cpu.registers.gpr ≡ 32 → IsQuiet cpu interrupts ends memory (answering (send kinds cpu.registers ends) cpu interrupts)
unfolding send
quiet-send kinds cpu interrupts ends memory all =
    let handle = gpr_of cpu.registers 3 in
    let count = gpr_of cpu.registers 4 in
    let room = room_at ends handle in
    quiet-either (is_bad_transfer kinds cpu.registers) (refusal status.InvalidArgument) (cond (nat_lt room count) (sending status.TryAgain handle room cpu.registers) (sending status.Success handle count cpu.registers)) cpu interrupts ends memory (quiet-refusal status.InvalidArgument cpu interrupts ends memory)
    (quiet-either (nat_lt room count) (sending status.TryAgain handle room cpu.registers) (sending status.Success handle count cpu.registers) cpu interrupts ends memory (quiet-try_again handle room cpu interrupts ends memory all) (quiet-done (sending status.Success handle count cpu.registers) cpu interrupts ends memory all refl))

quiet-receive : (kinds : List Kind) (cpu : Cpu) (interrupts : Controller) (ends : List End) (memory : List (List ℕ)) → length cpu.registers.gpr ≡ 32 → IsQuiet cpu interrupts ends memory (answering (receive kinds cpu.registers ends) cpu interrupts)
unfolding receive
quiet-receive kinds cpu interrupts ends memory all =
    let handle = gpr_of cpu.registers 3 in
    let bytes = take (gpr_of cpu.registers 4) (end_at ends handle).received in
    quiet-either (is_bad_transfer kinds cpu.registers) (refusal status.InvalidArgument) (receiving handle bytes) cpu interrupts ends memory (quiet-refusal status.InvalidArgument cpu interrupts ends memory) (quiet-done (receiving handle bytes) cpu interrupts ends memory all refl)

quiet-poll : (kinds : List Kind) (cpu : Cpu) (interrupts : Controller) (ends : List End) (memory : List (List ℕ)) → length cpu.registers.gpr ≡ 32 → IsQuiet cpu interrupts ends memory (answering (poll kinds cpu.registers ends) cpu interrupts)
unfolding poll
quiet-poll kinds cpu interrupts ends memory all =
    let handle = gpr_of cpu.registers 3 in
    quiet-either (is_channel (kind_at kinds handle)) (polling ends handle) (refusal status.InvalidArgument) cpu interrupts ends memory (quiet-done (polling ends handle) cpu interrupts ends memory all refl) (quiet-refusal status.InvalidArgument cpu interrupts ends memory)

quiet-doorbell : (kinds : List Kind) (cpu : Cpu) (interrupts : Controller) (ends : List End) (memory : List (List ℕ)) → length cpu.registers.gpr ≡ 32 → IsQuiet cpu interrupts ends memory (answering (doorbell_send kinds cpu.registers) cpu interrupts)
unfolding doorbell_send
quiet-doorbell kinds cpu interrupts ends memory all =
    let handle = gpr_of cpu.registers 3 in
    quiet-either (is_send (kind_at kinds handle)) (record granted { act = Rang handle }) (refusal status.InvalidArgument) cpu interrupts ends memory (quiet-done (record granted { act = Rang handle }) cpu interrupts ends memory all refl) (quiet-refusal status.InvalidArgument cpu interrupts ends memory)

quiet-idle : (cpu : Cpu) (interrupts : Controller) (ends : List End) (memory : List (List ℕ)) → length cpu.registers.gpr ≡ 32 → IsQuiet cpu interrupts ends memory (answering granted (waiting cpu) interrupts)
quiet-idle cpu interrupts ends memory all refused = absurd (refused (third granted.reply (waiting cpu) all))

-- ---- the calls of the controller

ruled-done : (it : Ruled) (cpu : Cpu) (interrupts : Controller) (ends : List End) (memory : List (List ℕ)) → length cpu.registers.gpr ≡ 32 → it.reply.status ≡ 0 → IsQuiet cpu interrupts ends memory (ruling it cpu)
ruled-done it cpu interrupts ends memory all success refused = absurd (refused (third it.reply cpu all ∙ success))

ruled-either : (test : Bool) (it : Ruled) (cpu : Cpu) (interrupts : Controller) (ends : List End) (memory : List (List ℕ)) → length cpu.registers.gpr ≡ 32 → it.reply.status ≡ 0
    → IsQuiet cpu interrupts ends memory (ruling (cond test it (refused interrupts)) cpu)
ruled-either true it cpu interrupts ends memory all success = ruled-done it cpu interrupts ends memory all success
ruled-either false it cpu interrupts ends memory all success = quiet-refusal status.InvalidArgument cpu interrupts ends memory

quiet-set_config : (cpu : Cpu) (interrupts : Controller) (ends : List End) (memory : List (List ℕ)) → length cpu.registers.gpr ≡ 32 → IsQuiet cpu interrupts ends memory (ruling (set_config cpu.registers interrupts) cpu)
unfolding set_config
quiet-set_config cpu interrupts ends memory all =
    let n = gpr_of cpu.registers 3 in
    let config = gpr_of cpu.registers 4 in
    let priority = gpr_of cpu.registers 5 in
    let dest = gpr_of cpu.registers 6 in
    ruled-either (may_configure interrupts n config priority dest) (done [] (configured n config priority dest interrupts)) cpu interrupts ends memory all refl

telling-config : (found : Option Source) (cpu : Cpu) (interrupts : Controller) (ends : List End) (memory : List (List ℕ)) → length cpu.registers.gpr ≡ 32 → IsQuiet cpu interrupts ends memory (ruling (telling_config found interrupts) cpu)
telling-config None cpu interrupts ends memory all = quiet-refusal status.InvalidArgument cpu interrupts ends memory
telling-config (Some source) cpu interrupts ends memory all = ruled-done (telling_config (Some source) interrupts) cpu interrupts ends memory all refl

quiet-get_config : (cpu : Cpu) (interrupts : Controller) (ends : List End) (memory : List (List ℕ)) → length cpu.registers.gpr ≡ 32 → IsQuiet cpu interrupts ends memory (ruling (get_config cpu.registers interrupts) cpu)
unfolding get_config
quiet-get_config cpu interrupts ends memory all = telling-config (slice_get interrupts.sources (gpr_of cpu.registers 3)) cpu interrupts ends memory all

quiet-set_mask : (cpu : Cpu) (interrupts : Controller) (ends : List End) (memory : List (List ℕ)) → length cpu.registers.gpr ≡ 32 → IsQuiet cpu interrupts ends memory (ruling (set_mask cpu.registers interrupts) cpu)
unfolding set_mask
quiet-set_mask cpu interrupts ends memory all =
    let n = gpr_of cpu.registers 3 in
    ruled-either (is_number interrupts n) (done [] (with_mask n (gpr_of cpu.registers 4) interrupts)) cpu interrupts ends memory all refl

telling-mask : (found : Option Bool) (cpu : Cpu) (interrupts : Controller) (ends : List End) (memory : List (List ℕ)) → length cpu.registers.gpr ≡ 32 → IsQuiet cpu interrupts ends memory (ruling (telling_mask found interrupts) cpu)
telling-mask None cpu interrupts ends memory all = quiet-refusal status.InvalidArgument cpu interrupts ends memory
telling-mask (Some masked) cpu interrupts ends memory all = ruled-done (telling_mask (Some masked) interrupts) cpu interrupts ends memory all refl

quiet-get_mask : (cpu : Cpu) (interrupts : Controller) (ends : List End) (memory : List (List ℕ)) → length cpu.registers.gpr ≡ 32 → IsQuiet cpu interrupts ends memory (ruling (get_mask cpu.registers interrupts) cpu)
unfolding get_mask
quiet-get_mask cpu interrupts ends memory all = telling-mask (mask_of interrupts (gpr_of cpu.registers 3)) cpu interrupts ends memory all

quiet-acknowledge : (levels : ℕ) (cpu : Cpu) (interrupts : Controller) (ends : List End) (memory : List (List ℕ)) → length cpu.registers.gpr ≡ 32 → IsQuiet cpu interrupts ends memory (ruling (acknowledge levels interrupts) cpu)
unfolding acknowledge
quiet-acknowledge levels cpu interrupts ends memory all = ruled-done (acknowledge levels interrupts) cpu interrupts ends memory all refl

quiet-end : (cpu : Cpu) (interrupts : Controller) (ends : List End) (memory : List (List ℕ)) → length cpu.registers.gpr ≡ 32 → IsQuiet cpu interrupts ends memory (ruling (end_of_interrupt cpu.registers interrupts) cpu)
unfolding end_of_interrupt
quiet-end cpu interrupts ends memory all =
    let n = gpr_of cpu.registers 3 in ruled-either (is_in_service interrupts n) (done [] (ended n interrupts)) cpu interrupts ends memory all refl

quiet-set_task : (cpu : Cpu) (interrupts : Controller) (ends : List End) (memory : List (List ℕ)) → length cpu.registers.gpr ≡ 32 → IsQuiet cpu interrupts ends memory (ruling (set_task_priority cpu.registers interrupts) cpu)
unfolding set_task_priority
quiet-set_task cpu interrupts ends memory all =
    let priority = gpr_of cpu.registers 3 in
    ruled-either (may_set_task priority) (done [] (with_task priority interrupts)) cpu interrupts ends memory all refl

quiet-get_task : (cpu : Cpu) (interrupts : Controller) (ends : List End) (memory : List (List ℕ)) → length cpu.registers.gpr ≡ 32 → IsQuiet cpu interrupts ends memory (ruling (get_task_priority interrupts) cpu)
unfolding get_task_priority
quiet-get_task cpu interrupts ends memory all = ruled-done (get_task_priority interrupts) cpu interrupts ends memory all refl

-- ---- the calls for partitions and their managers

-- a call is refused by a status that isn't EAGAIN, or done
quiet-refuse : (number : ℕ) (cpu : Cpu) (interrupts : Controller) (ends : List End) (memory : List (List ℕ)) → IsQuiet cpu interrupts ends memory (answering (record { reply = record { status = number; outs = [] }; act = Nothing }) cpu interrupts)
unfolding answered advanced replied
quiet-refuse number cpu interrupts ends memory _ = (
  record {
    bytes = refl;
    stored = refl;
    interrupts = refl;
    translations = refl;
    next_victim = refl;
    state = refl;
    others = refl;
    registers = λ n other _. get_or-set_other cpu.registers.gpr 3 n number 0 other;
  },
  λ _. record {
    fourth = get_or-set_other cpu.registers.gpr 3 4 number 0 (omega arith);
    ports = refl;
  },
)

quiet-decided : (decision : Decision) (it : Served) (cpu : Cpu) (interrupts : Controller) (ends : List End) (memory : List (List ℕ)) → length cpu.registers.gpr ≡ 32 → it.reply.status ≡ 0
    → IsQuiet cpu interrupts ends memory (answering (decided decision it) cpu interrupts)
quiet-decided Go it cpu interrupts ends memory all success = quiet-done it cpu interrupts ends memory all success
quiet-decided (Refuse number) it cpu interrupts ends memory all success = quiet-refuse number cpu interrupts ends memory

-- a caller that hears a reply is answered
quiet-obeying : (it : Served) (cpu : Cpu) (interrupts : Controller) (ends : List End) (memory : List (List ℕ)) → ends_caller it.act ≡ false
    → IsQuiet cpu interrupts ends memory (answering it cpu interrupts) → IsQuiet cpu interrupts ends memory (obeying it cpu interrupts)
quiet-obeying it cpu interrupts ends memory hears quiet =
    let same : answered it.reply cpu ≡ cond (ends_caller it.act) (gone_on cpu) (answered it.reply cpu) = sym (cond-false (ends_caller it.act) (gone_on cpu) (answered it.reply cpu) hears) in
    subst (λ (left : Cpu). IsQuiet cpu interrupts ends memory (record { cpu = left; interrupts = interrupts; act = it.act })) same quiet

quiet-start : (ports : List Port) (cpu : Cpu) (interrupts : Controller) (ends : List End) (memory : List (List ℕ)) → length cpu.registers.gpr ≡ 32 → IsQuiet cpu interrupts ends memory (answering (start ports cpu.registers ends) cpu interrupts)
unfolding start
quiet-start ports cpu interrupts ends memory all =
    let handle = gpr_of cpu.registers 3 in
    let entry = gpr_of cpu.registers 4 in
    quiet-decided (decide_start ports handle entry (runs_at ports ends handle)) (commanding (Start handle entry (not (gpr_of cpu.registers 5 == 0)))) cpu interrupts ends memory all refl

quiet-stop : (ports : List Port) (cpu : Cpu) (interrupts : Controller) (ends : List End) (memory : List (List ℕ)) → length cpu.registers.gpr ≡ 32 → ends_caller (stop ports cpu.registers ends).act ≡ false
    → IsQuiet cpu interrupts ends memory (obeying (stop ports cpu.registers ends) cpu interrupts)
unfolding stop
quiet-stop ports cpu interrupts ends memory all hears =
    let handle = gpr_of cpu.registers 3 in
    let decision : Decision = decide_stop ports handle (runs_at ports ends handle) in
    let it : Served = commanding (own_or handle SelfStop (Stop handle)) in
    quiet-obeying (decided decision it) cpu interrupts ends memory hears (quiet-decided decision it cpu interrupts ends memory all refl)

quiet-restart : (ports : List Port) (cpu : Cpu) (interrupts : Controller) (ends : List End) (memory : List (List ℕ)) → length cpu.registers.gpr ≡ 32 → ends_caller (restart ports cpu.registers ends).act ≡ false
    → IsQuiet cpu interrupts ends memory (obeying (restart ports cpu.registers ends) cpu interrupts)
unfolding restart
quiet-restart ports cpu interrupts ends memory all hears =
    let handle = gpr_of cpu.registers 3 in
    let decision : Decision = decide_restart ports handle (runs_at ports ends handle) in
    let it : Served = commanding (own_or handle SelfRestart (Restart handle)) in
    quiet-obeying (decided decision it) cpu interrupts ends memory hears (quiet-decided decision it cpu interrupts ends memory all refl)

quiet-status : (ports : List Port) (cpu : Cpu) (interrupts : Controller) (ends : List End) (memory : List (List ℕ)) → length cpu.registers.gpr ≡ 32 → IsQuiet cpu interrupts ends memory (answering (get_status ports cpu.registers ends) cpu interrupts)
unfolding get_status
quiet-status ports cpu interrupts ends memory all = quiet-decided (decide_status ports (gpr_of cpu.registers 3)) _ cpu interrupts ends memory all refl

quiet-served : (ports : List Port) (service : Call) (cpu : Cpu) (interrupts : Controller) (ends : List End) (memory : List (List ℕ)) → length cpu.registers.gpr ≡ 32
    → ends_caller (served ports service cpu interrupts ends).act ≡ false → IsQuiet cpu interrupts ends memory (served ports service cpu interrupts ends)
unfolding served managed ruled
quiet-served ports call.Send cpu interrupts ends memory all hears = quiet-send (kinds_of ports) cpu interrupts ends memory all
quiet-served ports call.Receive cpu interrupts ends memory all hears = quiet-receive (kinds_of ports) cpu interrupts ends memory all
quiet-served ports call.Poll cpu interrupts ends memory all hears = quiet-poll (kinds_of ports) cpu interrupts ends memory all
quiet-served ports call.DoorbellSend cpu interrupts ends memory all hears = quiet-doorbell (kinds_of ports) cpu interrupts ends memory all
quiet-served ports call.Idle cpu interrupts ends memory all hears = quiet-idle cpu interrupts ends memory all
quiet-served ports call.SetConfig cpu interrupts ends memory all hears = quiet-set_config cpu interrupts ends memory all
quiet-served ports call.GetConfig cpu interrupts ends memory all hears = quiet-get_config cpu interrupts ends memory all
quiet-served ports call.SetMask cpu interrupts ends memory all hears = quiet-set_mask cpu interrupts ends memory all
quiet-served ports call.GetMask cpu interrupts ends memory all hears = quiet-get_mask cpu interrupts ends memory all
quiet-served ports call.Iack cpu interrupts ends memory all hears = quiet-acknowledge (levels ports ends) cpu interrupts ends memory all
quiet-served ports call.Eoi cpu interrupts ends memory all hears = quiet-end cpu interrupts ends memory all
quiet-served ports call.SetTaskPriority cpu interrupts ends memory all hears = quiet-set_task cpu interrupts ends memory all
quiet-served ports call.GetTaskPriority cpu interrupts ends memory all hears = quiet-get_task cpu interrupts ends memory all
quiet-served ports call.Start cpu interrupts ends memory all hears = quiet-start ports cpu interrupts ends memory all
quiet-served ports call.Stop cpu interrupts ends memory all hears = quiet-stop ports cpu interrupts ends memory all hears
quiet-served ports call.Restart cpu interrupts ends memory all hears = quiet-restart ports cpu interrupts ends memory all hears
quiet-served ports call.GetStatus cpu interrupts ends memory all hears = quiet-status ports cpu interrupts ends memory all
quiet-served ports _ cpu interrupts ends memory all hears = quiet-refusal status.Unimplemented cpu interrupts ends memory

-- ---- copying

-- what is refused copies nothing, and what is done isn't refused
quiet-copied : (decision : Decision) (to_managed : Bool) (shape : Shape) (act : Act) (handle : ℕ) (entries : List SgEntry) (feed : List ℕ) (cpu : Cpu) (interrupts : Controller) (ends : List End) (memory : List (List ℕ)) → length cpu.registers.gpr ≡ 32
    → RefusesQuietly cpu interrupts ends memory (copying shape (decided decision (commanding act)) (record { handle = handle; to_managed = to_managed; entries = decided_entries decision entries }) feed cpu interrupts memory)
quiet-copied Go to_managed shape act handle entries feed cpu interrupts ends memory all =
    let it : Copy = record { handle = handle; to_managed = to_managed; entries = entries } in
    λ refused. absurd (refused (third (granted).reply (with_copied (copied_at it) cpu) all))
quiet-copied (Refuse number) true shape act handle entries feed cpu interrupts ends memory all =
    subst (λ (left : Cpu). RefusesQuietly cpu interrupts ends memory (record { cpu = answered (record { status = number; outs = [] }) left; interrupts = interrupts; memory = memory; act = Nothing; stored = [] })) (sym (nothing_copied cpu)) (quiet-refuse number cpu interrupts ends memory)
quiet-copied (Refuse number) false shape act handle entries feed cpu interrupts ends memory all =
    subst (λ (left : Cpu). RefusesQuietly cpu interrupts ends memory (record { cpu = answered (record { status = number; outs = [] }) left; interrupts = interrupts; memory = memory; act = Nothing; stored = [] })) (sym (nothing_copied cpu)) (quiet-refuse number cpu interrupts ends memory)

quiet-copy : (shape : Shape) (feed : List ℕ) (cpu : Cpu) (interrupts : Controller) (ends : List End) (memory : List (List ℕ)) → length cpu.registers.gpr ≡ 32
    → RefusesQuietly cpu interrupts ends memory (copying shape (copy shape cpu.registers memory) (asked_copy shape cpu.registers memory) feed cpu interrupts memory)
unfolding copy
quiet-copy shape feed cpu interrupts ends memory all =
    quiet-copied (decide_copy shape cpu.registers memory) (is_to_managed cpu.registers) shape (copy_act (own_regions shape.areas) memory (asked_copy shape cpu.registers memory)) (managed_handle cpu.registers) (asked_entries cpu.registers (own_byte shape.areas memory)) feed cpu interrupts ends memory all

-- ---- all calls

quiet-called : (copies : Bool) (shape : Shape) (service : Call) (cpu : Cpu) (interrupts : Controller) (ends : List End) (memory : List (List ℕ)) (one other : CoreStepped) → (copies ≡ true → RefusesQuietly cpu interrupts ends memory one)
    → (copies ≡ false → ends_caller other.act ≡ false → RefusesQuietly cpu interrupts ends memory other)
    → ends_caller (cond copies one other).act ≡ false → RefusesQuietly cpu interrupts ends memory (cond copies one other)
quiet-called true shape service cpu interrupts ends memory one other h k hears = h refl
quiet-called false shape service cpu interrupts ends memory one other h k hears = k refl hears

pub quiet_refusals : RefusalsAreQuiet
unfolding core_step
quiet_refusals shape cpu interrupts ends memory feed all next hears =
    let line = is_line_up shape.ports interrupts ends in
    let ready : Cpu = begun line cpu in
    let service = call_of (gpr_of ready.registers 11) in
    let serves = instructs shape line ready interrupts ends memory feed next.undisturbed next.awake ∙ hypercall shape ready interrupts ends memory feed next.call in
    let registers : length ready.registers.gpr ≡ 32 = ap length (general line cpu) ∙ all in
    let heard : ends_caller (called shape service ready interrupts ends memory feed).act ≡ false = sym (ap (λ (s : CoreStepped). ends_caller s.act) serves) ∙ hears in
    let quiet : RefusesQuietly ready interrupts ends memory (called shape service ready interrupts ends memory feed) =
    quiet-called (is_copy service) shape service ready interrupts ends memory (copying shape (copy shape ready.registers memory) (asked_copy shape ready.registers memory) feed ready interrupts memory) (still (served shape.ports service ready interrupts ends) memory)
    (λ _. quiet-copy shape feed ready interrupts ends memory registers) (λ _ hears. quiet-served shape.ports service ready interrupts ends memory registers hears) heard in
    subst (λ (s : CoreStepped). RefusesQuietly ready interrupts ends memory s) (sym serves) quiet
