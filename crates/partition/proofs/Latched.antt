-- What the interrupt controller keeps, in every machine that is reached.
use Rattle.std.proofs.Common.{◌≡◌, ◌≢◌, ℕ, ◌^◌, ◌<◌, ◌==◌, ◌&&◌, min, max, Bool, true, false, cond, List, [], ◌∷◌, length, length-set, Option, Some, None, slice_get, refl, sym, ap, ◌∙◌, eqb-true, eq-eqb, arith}
use Rattle.std.specs.Int.{w128, bit_at, bit_not}
use Rattle.std.proofs.lemmas.Bool.{eqb-false}
use Rattle.std.proofs.lemmas.List.{length-replicate}
use Rattle.std.proofs.lemmas.Nat.Bits.{bit_at-pow_other, bit_at-zero, bit_at_or, bit_at_and, bit_at-lt}
use Rattle.core_step.specs.Step as core
use Rattle.trap_emulate.specs.declared.cause.Cause.{Cause}
use Rattle.trap_emulate.specs.declared.cause.Cause.TheVariants as cause
use Rattle.trap_emulate.specs.Entry.{are_interrupts_enabled, may_enter}
use Rattle.machine_desc.specs.declared.desc.Desc.{Desc}
use Rattle.machine_desc.specs.declared.desc.Port.{Port}
use Rattle.hcall_abi.specs.declared.call.Call.{Call}
use Rattle.hcall_abi.specs.declared.call.Call.TheVariants as call
use Rattle.vpic.specs.declared.source.Source.{Source}
use Rattle.vpic.specs.Numbers.{has, with_number, without_number}
use Rattle.vpic.specs.Controller.{Controller, source, is_number, fresh as fresh_controller}
use Rattle.vpic.specs.Choice.{chosen}
use Rattle.vpic.specs.Calls.{taken, is_in_service, ended, may_configure, configured, with_mask, mask_of, may_set_task, with_task, rung}
use Rattle.guest_regs.specs.Registers.{Registers, gpr_of}
use Rattle.partition.specs.declared.found.Found.{Found}
use Rattle.partition.specs.declared.found.Found.TheVariants.{Missing, Unbacked, Backed}
use Rattle.partition.specs.Found.{lookup}
use Rattle.partition.specs.Port.{End}
use Rattle.partition.specs.Act.{Act, SelfRestart}
use Rattle.partition.specs.Copying.{asked_copy, copy}
use Rattle.partition.specs.Interrupts.{interrupt_count, levels, is_line_up, bell_at, rung_by, Ruled, done, refused, telling_config, telling_mask, set_config, get_config, set_mask, get_mask, acknowledge, end_of_interrupt, set_task_priority, get_task_priority}
use Rattle.partition.specs.Machine.{Cpu, Machine, Shape, shape_of, core_at, fresh, fresh_interrupts}
use Rattle.partition.specs.Step.{Done, CoreStepped, quiet, with_registers, entered, ruled, managed, served, checked, missed, handled, still, instruction, begun, is_pending, pending, acted, asks_copy, copying, answering_to, core_step, with_step, unless_restarting, step}
use Rattle.partition.specs.Event.{Event, Ring, Start, Restart, apply}
use Rattle.partition.specs.Reached.{Move, Steps, Takes, moved, after_moves, AreInterruptsSound, InterruptsStaySound}

-- ---- a latch

taken_bit : (x y z : ℕ) → x ≡ min y z → y < 2 → z < 2 → x ≡ 1 → y ≡ 1
taken_bit x y z e small other is = omega arith

-- a number that is left when another is taken out was in before
was_in : (set n m : ℕ) → has (without_number set n) m ≡ true → has set m ≡ true
was_in set n m h =
    eq-eqb (bit_at set m) 1
    (taken_bit (bit_at (without_number set n) m) (bit_at set m) (bit_at (bit_not w128 (2 ^ n)) m) (bit_at_and set (bit_not w128 (2 ^ n)) m) (bit_at-lt set m) (bit_at-lt (bit_not w128 (2 ^ n)) m)
    (eqb-true (bit_at (without_number set n) m) 1 h))

put_bit : (x y z : ℕ) → x ≡ max y z → z ≡ 0 → x ≡ 1 → y ≡ 1
put_bit x y z e none is = omega arith

-- and one that is in when another was put in
was_there : (set n m : ℕ) → m ≢ n → has (with_number set n) m ≡ true → has set m ≡ true
was_there set n m other h =
    eq-eqb (bit_at set m) 1
    (put_bit (bit_at (with_number set n) m) (bit_at set m) (bit_at (2 ^ n) m) (bit_at_or set (2 ^ n) m) (bit_at-pow_other n m other)
    (eqb-true (bit_at (with_number set n) m) 1 h))

-- ---- the step of a core

-- a guest's calls leave the number of sources, and latch nothing
record Follows (old new : Controller) : Type 0 where
  count : length new.sources ≡ length old.sources
  latched : (n : ℕ) → has new.latched n ≡ true → has old.latched n ≡ true

same : (it : Controller) → Follows it it
same it = record { count = refl; latched = λ n h. h }

ruled_either : (b : Bool) (one : Ruled) (old : Controller) → Follows old one.interrupts → Follows old (cond b one (refused old)).interrupts
ruled_either true one old h = h
ruled_either false one old h = same old

follows_set_config : (registers : Registers) (old : Controller) → Follows old (set_config registers old).interrupts
unfolding set_config configured
follows_set_config registers old =
    let n = gpr_of registers 3 in
    let config = gpr_of registers 4 in
    let priority = gpr_of registers 5 in
    let dest = gpr_of registers 6 in
    ruled_either (may_configure old n config priority dest) (done [] (configured n config priority dest old)) old (record { count = length-set old.sources n (source config priority dest); latched = λ m h. h })

follows_telling_config : (found : Option Source) (old : Controller) → Follows old (telling_config found old).interrupts
follows_telling_config None old = same old
follows_telling_config (Some source) old = same old

follows_get_config : (registers : Registers) (old : Controller) → Follows old (get_config registers old).interrupts
unfolding get_config
follows_get_config registers old = follows_telling_config (slice_get old.sources (gpr_of registers 3)) old

follows_set_mask : (registers : Registers) (old : Controller) → Follows old (set_mask registers old).interrupts
unfolding set_mask with_mask
follows_set_mask registers old =
    let n = gpr_of registers 3 in
    ruled_either (is_number old n) (done [] (with_mask n (gpr_of registers 4) old)) old (record { count = refl; latched = λ m h. h })

follows_telling_mask : (found : Option Bool) (old : Controller) → Follows old (telling_mask found old).interrupts
follows_telling_mask None old = same old
follows_telling_mask (Some masked) old = same old

follows_get_mask : (registers : Registers) (old : Controller) → Follows old (get_mask registers old).interrupts
unfolding get_mask
follows_get_mask registers old = follows_telling_mask (mask_of old (gpr_of registers 3)) old

follows_taken : (number : Option ℕ) (old : Controller) → Follows old (taken number old)
unfolding taken
follows_taken None old = same old
follows_taken (Some n) old = record { count = refl; latched = λ m h. was_in old.latched n m h }

follows_acknowledge : (levels : ℕ) (old : Controller) → Follows old (acknowledge levels old).interrupts
unfolding acknowledge
follows_acknowledge levels old = follows_taken (chosen old levels) old

follows_end : (registers : Registers) (old : Controller) → Follows old (end_of_interrupt registers old).interrupts
unfolding end_of_interrupt ended
follows_end registers old =
    let n = gpr_of registers 3 in ruled_either (is_in_service old n) (done [] (ended n old)) old (record { count = refl; latched = λ m h. h })

follows_set_task : (registers : Registers) (old : Controller) → Follows old (set_task_priority registers old).interrupts
unfolding set_task_priority with_task
follows_set_task registers old =
    let priority = gpr_of registers 3 in
    ruled_either (may_set_task priority) (done [] (with_task priority old)) old (record { count = refl; latched = λ m h. h })

follows_get_task : (old : Controller) → Follows old (get_task_priority old).interrupts
unfolding get_task_priority
follows_get_task old = same old

follows_served : (ports : List Port) (service : Call) (cpu : Cpu) (old : Controller) (ends : List End) → Follows old (served ports service cpu old ends).interrupts
unfolding served managed ruled
follows_served ports call.SetConfig cpu old ends = follows_set_config cpu.registers old
follows_served ports call.GetConfig cpu old ends = follows_get_config cpu.registers old
follows_served ports call.SetMask cpu old ends = follows_set_mask cpu.registers old
follows_served ports call.GetMask cpu old ends = follows_get_mask cpu.registers old
follows_served ports call.Iack cpu old ends = follows_acknowledge (levels ports ends) old
follows_served ports call.Eoi cpu old ends = follows_end cpu.registers old
follows_served ports call.SetTaskPriority cpu old ends = follows_set_task cpu.registers old
follows_served ports call.GetTaskPriority cpu old ends = follows_get_task old
follows_served ports _ cpu old ends = same old

either : (b : Bool) (one other : Done) (old : Controller) → Follows old one.interrupts → Follows old other.interrupts → Follows old (cond b one other).interrupts
either true one other old h k = h
either false one other old h k = k

follows_checked : (cpu : Cpu) (old : Controller) → Follows old (checked cpu old).interrupts
unfolding checked
follows_checked cpu old = either (may_enter cause.MachineCheck cpu.registers) _ _ old (same old) (same old)

follows_missed : (reason : Cause) (found : Found) (cpu : Cpu) (old : Controller) → Follows old (missed reason found cpu old).interrupts
follows_missed reason Missing cpu old = same old
follows_missed reason Unbacked cpu old = follows_checked cpu old
follows_missed reason (Backed page) cpu old = follows_checked cpu old

follows_handled : (shape : Shape) (answer : core.Answer) (cpu : Cpu) (old : Controller) (ends : List End) → Follows old (handled shape answer cpu old ends).interrupts
unfolding handled
follows_handled shape core.Hcall cpu old ends = follows_served shape.ports _ cpu old ends
follows_handled shape (core.MissData ea store) cpu old ends = follows_missed _ _ cpu old
follows_handled shape (core.MissInsn ea) cpu old ends = follows_missed _ _ cpu old
follows_handled shape _ cpu old ends = same old

of_either : (b : Bool) (one other : CoreStepped) (old : Controller) → Follows old one.interrupts → Follows old other.interrupts → Follows old (cond b one other).interrupts
of_either true one other old h k = h
of_either false one other old h k = k

follows_instruction : (shape : Shape) (cpu : Cpu) (old : Controller) (ends : List End) (memory : List (List ℕ)) (feed : List ℕ) → Follows old (instruction shape cpu old ends memory feed).interrupts
unfolding instruction
follows_instruction shape cpu old ends memory feed =
    let did : core.Stepped = core.stepped (lookup shape.areas cpu.translations) cpu.registers memory in
    let left : Cpu = with_registers did.registers cpu in
    of_either (asks_copy did.answer did.registers) (copying shape (copy shape did.registers did.memory) (asked_copy shape did.registers did.memory) feed left old did.memory) (answering_to shape did.answer left old ends did.memory) old
    (same old) (follows_handled shape did.answer left old ends)

follows_acted : (shape : Shape) (line : Bool) (cpu : Cpu) (old : Controller) (ends : List End) (memory : List (List ℕ)) (feed : List ℕ) → Follows old (acted shape line cpu old ends memory feed).interrupts
unfolding acted
follows_acted shape line cpu old ends memory feed =
    of_either (is_pending line cpu.registers && are_interrupts_enabled cpu.registers) (still (quiet (entered (pending line) cpu) old) memory) _ old (same old)
    (of_either cpu.registers.idle (still (quiet cpu old) memory) _ old (same old) (follows_instruction shape cpu old ends memory feed))

follows_core : (shape : Shape) (cpu : Cpu) (old : Controller) (ends : List End) (memory : List (List ℕ)) (feed : List ℕ) → Follows old (core_step shape cpu old ends memory feed).interrupts
unfolding core_step
follows_core shape cpu old ends memory feed =
    let line = is_line_up shape.ports old ends in follows_acted shape line (begun line cpu) old ends memory feed

-- a step leaves the number of sources
pub sources_stay : (shape : Shape) (cpu : Cpu) (old new : Controller) (ends : List End) (memory : List (List ℕ)) (feed : List ℕ) → (core_step shape cpu old ends memory feed).interrupts ≡ new → length new.sources ≡ length old.sources
sources_stay shape cpu old new ends memory feed e = ap (λ (it : Controller). length it.sources) (sym e) ∙ (follows_core shape cpu old ends memory feed).count

-- and so does a ring
pub ring_sources : (n : ℕ) (old : Controller) → length (rung n old).sources ≡ length old.sources
unfolding rung
ring_sources n old = refl

pub fresh_sources : (count : ℕ) → length (fresh_controller count).sources ≡ count
unfolding fresh_controller
fresh_sources count = length-replicate count (source 0 8 0)

-- ---- the machines that are reached

begins : (desc : Desc) → AreInterruptsSound desc (fresh_interrupts desc)
unfolding fresh_controller
begins desc = record {
  count = fresh_sources (interrupt_count desc.ports);
  latched = λ n h. absurd (let f : false ≡ true = sym (ap (λ (b : ℕ). b == 1) (bit_at-zero n)) ∙ h in cc);
}

stays : (desc : Desc) (old new : Controller) → Follows old new → AreInterruptsSound desc old → AreInterruptsSound desc new
stays desc old new h sound = record { count = h.count ∙ sound.count; latched = λ n is. sound.latched n (h.latched n is) }

rings : (desc : Desc) (handle : ℕ) (bell : Option ℕ) (old : Controller) → bell_at desc.ports handle ≡ bell → AreInterruptsSound desc old → AreInterruptsSound desc (rung_by bell old)
unfolding rung
rings desc handle None old e sound = sound
rings desc handle (Some n) old e sound = record {
  count = sound.count;
  latched = λ m h. elim (m == n) as (λ b. (m == n) ≡ b → (h : ℕ) × (bell_at desc.ports h ≡ Some m)) [
    | true ↦ λ is. (handle, e ∙ ap (λ (k : ℕ). Some k) (sym (eqb-true m n is)))
    | false ↦ λ is. sound.latched m (was_there old.latched n m (eqb-false m n is) h)
  ] refl;
}

stays_told : (desc : Desc) (machine : Machine) (event : Event) → AreInterruptsSound desc machine.inner.interrupts → AreInterruptsSound desc (apply desc machine event).inner.interrupts
unfolding apply
stays_told desc machine (Ring handle) sound = rings desc handle (bell_at desc.ports handle) machine.inner.interrupts refl sound
stays_told desc machine (Start entry load) sound = begins desc
stays_told desc machine Restart sound = begins desc
stays_told desc machine _ sound = sound

stays_restarting : (desc : Desc) (act : Act) (machine : Machine) → AreInterruptsSound desc machine.inner.interrupts → AreInterruptsSound desc (unless_restarting desc act machine).inner.interrupts
stays_restarting desc SelfRestart machine sound = begins desc
stays_restarting desc act machine sound = sound

stays_step : (desc : Desc) (machine : Machine) (core : ℕ) (feed : List ℕ) → AreInterruptsSound desc machine.inner.interrupts → AreInterruptsSound desc (step desc machine core feed).after.inner.interrupts
unfolding step
stays_step desc machine core feed sound =
    let did : CoreStepped = core_step (shape_of desc) (core_at machine.inner.cores core) machine.inner.interrupts machine.ports machine.memory feed in
    stays_restarting desc did.act (with_step core did machine)
    (stays desc machine.inner.interrupts _ (follows_core (shape_of desc) (core_at machine.inner.cores core) machine.inner.interrupts machine.ports machine.memory feed) sound)

stays_moved : (desc : Desc) (move : Move) (machine : Machine) → AreInterruptsSound desc machine.inner.interrupts → AreInterruptsSound desc (moved desc move machine).inner.interrupts
stays_moved desc (Steps core feed) machine sound = stays_step desc machine core feed sound
stays_moved desc (Takes event) machine sound = stays_told desc machine event sound

stays_after : (desc : Desc) (moves : List Move) (machine : Machine) → AreInterruptsSound desc machine.inner.interrupts → AreInterruptsSound desc (after_moves desc moves machine).inner.interrupts
stays_after desc [] machine sound = sound
stays_after desc (move ∷ moves) machine sound = stays_after desc moves (moved desc move machine) (stays_moved desc move machine sound)

loads : (desc : Desc) → AreInterruptsSound desc (fresh desc).inner.interrupts
unfolding fresh
loads desc = begins desc

pub interrupts_sound : InterruptsStaySound
interrupts_sound desc moves = stays_after desc moves (fresh desc) (loads desc)
