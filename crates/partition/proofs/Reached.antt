-- What the translations keep, in every machine that is reached.
use Rattle.std.proofs.Common.{◌≡◌, ℕ, ◌<◌, ◌==◌, Bool, true, false, ◌&&◌, cond, List, [], ◌∷◌, length, length-set, slice_set, get_or-set_same, get_or-set_other, refl, sym, subst, arith}
use Rattle.std.specs.List.{range_with_len}
use Rattle.std.proofs.lemmas.Bool.{eqb-true, eqb-false}
use Rattle.std.proofs.lemmas.List.{get_or-map, length-map}
use Rattle.guest_tlb.specs.Kept.{AreKept}
use Rattle.guest_tlb.proofs.Upkeep.{reset_is_kept}
use Rattle.core_step.specs.Step as core
use Rattle.trap_emulate.specs.declared.cause.Cause.{Cause}
use Rattle.trap_emulate.specs.declared.cause.Cause.TheVariants as cause
use Rattle.trap_emulate.specs.Entry.{are_interrupts_enabled, may_enter}
use Rattle.trap_emulate.proofs.Translations.{emulation_keeps_victim, emulation_keeps_slots}
use Rattle.machine_desc.specs.declared.desc.Desc.{Desc}
use Rattle.machine_desc.specs.declared.desc.Port.{Port}
use Rattle.hcall_abi.specs.declared.call.Call.{Call}
use Rattle.hcall_abi.specs.declared.call.Call.TheVariants as call
use Rattle.partition.specs.declared.found.Found.{Found}
use Rattle.partition.specs.declared.found.Found.TheVariants.{Missing, Unbacked, Backed}
use Rattle.hcall_abi.specs.Reply.{Reply}
use Rattle.vpic.specs.Controller.{Controller}
use Rattle.partition.specs.Interrupts.{is_line_up}
use Rattle.partition.specs.Found.{lookup}
use Rattle.partition.specs.Port.{End}
use Rattle.machine_desc.specs.declared.desc.Span.{Span}
use Rattle.copy_lists.specs.Pieces.{span_of}
use Rattle.partition.specs.Act.{Act, SelfRestart, ends_caller}
use Rattle.partition.specs.Channels.{Served}
use Rattle.partition.specs.Managing.{stop, restart}
use Rattle.partition.specs.Reservations.{with_copied}
use Rattle.partition.specs.Copying.{asked_copy, copy, copied_at}
use Rattle.partition.specs.Machine.{Cpu, Machine, Shape, shape_of, core_at, no_cpu, booted, booted_all, fresh}
use Rattle.partition.specs.Step.{Done, CoreStepped, quiet, with_registers, entered, answered, waiting, gone_on, obeying, ruled, managed, served, checked, missed, privileged, handled, still, instruction, begun, is_pending, pending, acted, asks_copy, copying, answering_to, core_step, with_step, unless_restarting, step}
use Rattle.partition.specs.Event.{Event, Bytes, Room, Ring, Tells, Start, Stop, Restart, CopyIn, apply}
use Rattle.partition.specs.Reached.{Move, Steps, Takes, moved, after_moves, TranslationsStaySound}

-- ---- the step of a core

-- what is reached keeps of the translations of a core
record Keeps (cpu : Cpu) : Type 0 where
  slots : AreKept cpu.translations
  victim : cpu.next_victim < 4

either : (b : Bool) (one other : Done) → Keeps one.cpu → Keeps other.cpu → Keeps (cond b one other).cpu
either true one other h k = h
either false one other h k = k

of_either : (b : Bool) (one other : CoreStepped) → Keeps one.cpu → Keeps other.cpu → Keeps (cond b one other).cpu
of_either true one other h k = h
of_either false one other h k = k

stays_answered : (cpu : Cpu) (it : Reply) → Keeps cpu → Keeps (answered it cpu)
unfolding answered
stays_answered cpu it h = record { slots = h.slots; victim = h.victim }

stays_obeying : (it : Served) (cpu : Cpu) (interrupts : Controller) → Keeps cpu → Keeps (obeying it cpu interrupts).cpu
stays_obeying it cpu interrupts h = gone (ends_caller it.act)
  where
    gone : (ends : Bool) → Keeps (cond ends (gone_on cpu) (answered it.reply cpu))
    gone true = record { slots = h.slots; victim = h.victim }
    gone false = stays_answered cpu it.reply h

stays_served : (ports : List Port) (service : Call) (cpu : Cpu) (interrupts : Controller) (ends : List End) → Keeps cpu → Keeps (served ports service cpu interrupts ends).cpu
unfolding served managed ruled
stays_served ports call.Idle cpu interrupts ends h = stays_answered (waiting cpu) _ (record { slots = h.slots; victim = h.victim })
stays_served ports call.Restart cpu interrupts ends h = stays_obeying (restart ports cpu.registers ends) cpu interrupts h
stays_served ports call.Stop cpu interrupts ends h = stays_obeying (stop ports cpu.registers ends) cpu interrupts h
stays_served ports _ cpu interrupts ends h = stays_answered cpu _ h

stays_entered : (reason : Cause) (cpu : Cpu) → Keeps cpu → Keeps (entered reason cpu)
stays_entered reason cpu h = record { slots = h.slots; victim = h.victim }

stays_checked : (cpu : Cpu) (interrupts : Controller) → Keeps cpu → Keeps (checked cpu interrupts).cpu
unfolding checked
stays_checked cpu interrupts h = either (may_enter cause.MachineCheck cpu.registers) _ _ (stays_entered cause.MachineCheck cpu h) (record { slots = h.slots; victim = h.victim })

stays_missed : (reason : Cause) (found : Found) (cpu : Cpu) (interrupts : Controller) → Keeps cpu → Keeps (missed reason found cpu interrupts).cpu
stays_missed reason Missing cpu interrupts h = stays_entered reason cpu h
stays_missed reason Unbacked cpu interrupts h = stays_checked cpu interrupts h
stays_missed reason (Backed page) cpu interrupts h = stays_checked cpu interrupts h

stays_privileged : (cpu : Cpu) (insn : _) → Keeps cpu → Keeps (privileged insn cpu)
unfolding privileged
stays_privileged cpu insn h = record {
  slots = emulation_keeps_slots insn.op insn.word cpu.next_victim cpu.registers cpu.translations h.slots;
  victim = emulation_keeps_victim insn.op insn.word cpu.next_victim cpu.registers cpu.translations h.victim;
}

stays_handled : (shape : Shape) (answer : core.Answer) (cpu : Cpu) (interrupts : Controller) (ends : List End) → Keeps cpu → Keeps (handled shape answer cpu interrupts ends).cpu
unfolding handled
stays_handled shape (core.Retired ranges) cpu interrupts ends h = h
stays_handled shape core.Waiting cpu interrupts ends h = h
stays_handled shape core.Sc cpu interrupts ends h = stays_entered _ cpu h
stays_handled shape core.Hcall cpu interrupts ends h = stays_served shape.ports _ cpu interrupts ends h
stays_handled shape (core.Priv insn) cpu interrupts ends h = stays_privileged cpu insn h
stays_handled shape (core.MissData ea store) cpu interrupts ends h = stays_missed _ _ cpu interrupts h
stays_handled shape (core.MissInsn ea) cpu interrupts ends h = stays_missed _ _ cpu interrupts h
stays_handled shape (core.StorageData ea store little) cpu interrupts ends h = stays_entered _ cpu h
stays_handled shape (core.StorageInsn little) cpu interrupts ends h = stays_entered _ cpu h
stays_handled shape (core.Align ea store) cpu interrupts ends h = stays_entered _ cpu h
stays_handled shape (core.Program syndrome) cpu interrupts ends h = stays_entered _ cpu h
stays_handled shape core.NoFloat cpu interrupts ends h = stays_entered _ cpu h

stays_copying : (ranges : List Span) (it : Reply) (cpu : Cpu) → Keeps cpu → Keeps (answered it (with_copied ranges cpu))
stays_copying ranges it cpu h = stays_answered (with_copied ranges cpu) it (record { slots = h.slots; victim = h.victim })

stays_instruction : (shape : Shape) (cpu : Cpu) (interrupts : Controller) (ends : List End) (memory : List (List ℕ)) (feed : List ℕ) → Keeps cpu → Keeps (instruction shape cpu interrupts ends memory feed).cpu
unfolding instruction
stays_instruction shape cpu interrupts ends memory feed h =
    let did : core.Stepped = core.stepped (lookup shape.areas cpu.translations) cpu.registers memory in
    let left : Cpu = with_registers did.registers cpu in
    of_either (asks_copy did.answer did.registers) (copying shape (copy shape did.registers did.memory) (asked_copy shape did.registers did.memory) feed left interrupts did.memory) (answering_to shape did.answer left interrupts ends did.memory)
    (stays_copying (copied_at (asked_copy shape did.registers did.memory)) _ left (record { slots = h.slots; victim = h.victim }))
    (stays_handled shape did.answer left interrupts ends (record { slots = h.slots; victim = h.victim }))

stays_acted : (shape : Shape) (line : Bool) (cpu : Cpu) (interrupts : Controller) (ends : List End) (memory : List (List ℕ)) (feed : List ℕ) → Keeps cpu → Keeps (acted shape line cpu interrupts ends memory feed).cpu
unfolding acted
stays_acted shape line cpu interrupts ends memory feed h =
    of_either (is_pending line cpu.registers && are_interrupts_enabled cpu.registers) (still (quiet (entered (pending line) cpu) interrupts) memory) _ (stays_entered _ cpu h)
    (of_either cpu.registers.idle (still (quiet cpu interrupts) memory) _ h (stays_instruction shape cpu interrupts ends memory feed h))

stays_begun : (line : Bool) (cpu : Cpu) → Keeps cpu → Keeps (begun line cpu)
unfolding begun
stays_begun line cpu h = record { slots = h.slots; victim = h.victim }

stays_core : (shape : Shape) (cpu : Cpu) (interrupts : Controller) (ends : List End) (memory : List (List ℕ)) (feed : List ℕ) → Keeps cpu → Keeps (core_step shape cpu interrupts ends memory feed).cpu
unfolding core_step
stays_core shape cpu interrupts ends memory feed h =
    let line = is_line_up shape.ports interrupts ends in stays_acted shape line (begun line cpu) interrupts ends memory feed (stays_begun line cpu h)

-- ---- all cores

abbrev AllKeep : List Cpu → Type 0
AllKeep cores = (k : ℕ) → k < length cores → Keeps (core_at cores k)

stays_set : (cores : List Cpu) (core : ℕ) (cpu : Cpu) → AllKeep cores → (core < length cores → Keeps cpu) → AllKeep (slice_set cores core cpu)
stays_set cores core cpu all new k below =
    let within : k < length cores = omega (arith, below, length-set cores core cpu) in
    elim (k == core) as (λ b. (k == core) ≡ b → Keeps (core_at (slice_set cores core cpu) k)) [
      | true ↦ λ e.
          let same : k ≡ core = eqb-true k core e in
          let here : core < length cores = omega (arith, within, same) in
          let is : core_at (slice_set cores core cpu) core ≡ cpu = get_or-set_same cores core cpu no_cpu here in
          subst (λ (i : ℕ). Keeps (core_at (slice_set cores core cpu) i)) (sym same) (subst Keeps (sym is) (new here))
      | false ↦ λ e.
          let is : core_at (slice_set cores core cpu) k ≡ core_at cores k = get_or-set_other cores core k cpu no_cpu (eqb-false k core e) in
          subst Keeps (sym is) (all k within)
    ] refl

starts : (entry tree_at number : ℕ) → Keeps (booted entry tree_at number)
unfolding booted
starts entry tree_at number = record { slots = reset_is_kept; victim = omega arith }

stays_booted : (desc : Desc) (entry : ℕ) → AllKeep (booted_all desc entry)
stays_booted desc entry k below =
    let numbers : List ℕ = range_with_len 0 (length desc.cores) in
    let few : k < length numbers = omega (arith, below, length-map numbers (λ (number : ℕ). booted entry desc.tree_at number)) in
    let is = get_or-map (λ (number : ℕ). booted entry desc.tree_at number) numbers k 0 no_cpu few in
    subst Keeps (sym is) (starts entry desc.tree_at _)

stays_restarting : (desc : Desc) (act : Act) (machine : Machine) → AllKeep machine.inner.cores → AllKeep (unless_restarting desc act machine).inner.cores
stays_restarting desc SelfRestart machine all = stays_booted desc desc.entry
stays_restarting desc act machine all = all

stays_step : (desc : Desc) (machine : Machine) (core : ℕ) (feed : List ℕ) → AllKeep machine.inner.cores → AllKeep (step desc machine core feed).after.inner.cores
unfolding step
stays_step desc machine core feed all =
    let done : CoreStepped = core_step (shape_of desc) (core_at machine.inner.cores core) machine.inner.interrupts machine.ports machine.memory feed in
    stays_restarting desc done.act (with_step core done machine)
    (stays_set machine.inner.cores core _ all (λ here. stays_core (shape_of desc) (core_at machine.inner.cores core) machine.inner.interrupts machine.ports machine.memory feed (all core here)))

stays_told : (desc : Desc) (machine : Machine) (event : Event) → AllKeep machine.inner.cores → AllKeep (apply desc machine event).inner.cores
unfolding apply
stays_told desc machine (Bytes handle bytes) all = all
stays_told desc machine (Room handle count) all = all
stays_told desc machine (Ring handle) all = all
stays_told desc machine (Tells handle runs) all = all
stays_told desc machine (Start entry load) all = stays_booted desc entry
stays_told desc machine Stop all = all
stays_told desc machine Restart all = stays_booted desc desc.entry
stays_told desc machine (CopyIn piece) all = λ k below.
    let ranges : List Span = span_of piece ∷ [] in
    let within : k < length machine.inner.cores = omega (arith, below, length-map machine.inner.cores (with_copied ranges)) in
    let is = get_or-map (with_copied ranges) machine.inner.cores k no_cpu no_cpu within in
    subst Keeps (sym is) (record { slots = (all k within).slots; victim = (all k within).victim })

stays_moved : (desc : Desc) (move : Move) (machine : Machine) → AllKeep machine.inner.cores → AllKeep (moved desc move machine).inner.cores
stays_moved desc (Steps core feed) machine all = stays_step desc machine core feed all
stays_moved desc (Takes event) machine all = stays_told desc machine event all

stays_after : (desc : Desc) (moves : List Move) (machine : Machine) → AllKeep machine.inner.cores → AllKeep (after_moves desc moves machine).inner.cores
stays_after desc [] machine all = all
stays_after desc (move ∷ moves) machine all = stays_after desc moves (moved desc move machine) (stays_moved desc move machine all)

loads : (desc : Desc) → AllKeep (fresh desc).inner.cores
unfolding fresh
loads desc = stays_booted desc desc.entry

pub stay_sound : TranslationsStaySound
stay_sound desc moves core here =
    let kept = stays_after desc moves (fresh desc) (loads desc) core here in
    record { apart = kept.slots.apart; slots = kept.slots; victim = kept.victim }
