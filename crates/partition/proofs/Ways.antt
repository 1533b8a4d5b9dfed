-- A step that copies into a managed partition is one whose copy goes there.
use Rattle.std.proofs.Common.{◌≡◌, ℕ, ◌==◌, Bool, true, false, ◌&&◌, cond, List, None, Some, refl, sym, ap, ◌∙◌}
use Rattle.guest_regs.specs.Registers.{Registers}
use Rattle.core_step.specs.Step as core
use Rattle.trap_emulate.specs.Entry.{are_interrupts_enabled}
use Rattle.machine_desc.specs.declared.desc.Desc.{Desc}
use Rattle.partition_manager.specs.declared.decision.Decision.{Decision}
use Rattle.partition_manager.specs.declared.decision.Decision.TheVariants.{Go, Refuse}
use Rattle.copy_lists.specs.Lists.{total}
use Rattle.copy_lists.specs.Pieces.{Piece, pieces_out}
use Rattle.partition.specs.Act.{Act, Nothing, CopyTo, CopyFrom, copied_to, copied_from}
use Rattle.partition.specs.Port.{End}
use Rattle.partition.specs.Machine.{Cpu, Machine, Shape, shape_of, core_at}
use Rattle.partition.specs.Found.{lookup}
use Rattle.partition.specs.Interrupts.{is_line_up}
use Rattle.vpic.specs.Controller.{Controller}
use Rattle.partition.specs.Managing.{commanding, decided}
use Rattle.partition.specs.Copying.{Copy, asked_copy, copy, copy_act, decide_copy, own_regions}
use Rattle.partition.specs.Asking.{with_total, copy_done, copy_in, next_copy}
use Rattle.partition.specs.Step.{begun, is_pending, pending, quiet, entered, still, with_registers, asks_copy, copying, answering_to, instruction, acted, core_step, step}
use Rattle.partition.proofs.Asked.{none_entered, none_idle, as_done, done_none, done_copy}

-- an act of none of the kinds that copy into another partition
abbrev IsElse : Act → Type 0
IsElse act = (handle : ℕ) (pieces : List Piece) → act ≡ CopyTo handle pieces → ⊥

-- one that copies out of it, or nothing
from_else : (handle count : ℕ) → IsElse (copied_from handle count)
from_else handle count = by_count (count == 0)
  where
    by_count : (b : Bool) → IsElse (cond b Nothing (CopyFrom handle count))
    by_count true other pieces e = absurd cc
    by_count false other pieces e = absurd cc

some_is : (x y : Copy) → Some x ≡ Some y → x ≡ y
some_is x y e = cc

with_total_is : (x it : Copy) → with_total x ≡ Some it → it ≡ x
with_total_is x it e = by_total (total x.entries == 0) e
  where
    by_total : (b : Bool) → cond b None (Some x) ≡ Some it → it ≡ x
    by_total true h = absurd cc
    by_total false h = sym (some_is x it h)

-- a copy out of a managed partition that is allowed, or isn't
copy_else : (shape : Shape) (registers : Registers) (memory : List (List ℕ)) → (asked_copy shape registers memory).to_managed ≡ false → IsElse (copy shape registers memory).act
unfolding copy
copy_else shape registers memory from = by_decision (decide_copy shape registers memory)
  where
    it : Copy
    it = asked_copy shape registers memory

    act_is : copy_act (own_regions shape.areas) memory (asked_copy shape registers memory) ≡ copied_from (asked_copy shape registers memory).handle (total (asked_copy shape registers memory).entries)
    act_is = ap (λ (b : Bool). cond b (copied_to it.handle (pieces_out (own_regions shape.areas) memory it.entries)) (copied_from it.handle (total it.entries))) from

    by_decision : (d : Decision) → IsElse (decided d (commanding (copy_act (own_regions shape.areas) memory (asked_copy shape registers memory)))).act
    by_decision Go handle pieces e = from_else it.handle (total it.entries) handle pieces (sym act_is ∙ e)
    by_decision (Refuse status) handle pieces e = absurd cc

instruction_way : (shape : Shape) (cpu : Cpu) (interrupts : Controller) (ends : List End) (memory : List (List ℕ)) (feed : List ℕ) (it : Copy) (handle : ℕ) (pieces : List Piece) → copy_done shape cpu memory ≡ Some it
    → (instruction shape cpu interrupts ends memory feed).act ≡ CopyTo handle pieces → it.to_managed ≡ true
unfolding instruction
instruction_way shape cpu interrupts ends memory feed it handle pieces asked e =
    let did : core.Stepped = core.stepped (lookup shape.areas cpu.translations) cpu.registers memory in by_ask (asks_copy did.answer did.registers) refl e
  where
    did : core.Stepped
    did = core.stepped (lookup shape.areas cpu.translations) cpu.registers memory

    left : Cpu
    left = with_registers (core.stepped (lookup shape.areas cpu.translations) cpu.registers memory).registers cpu

    by_way : (b : Bool) → (asked_copy shape did.registers did.memory).to_managed ≡ b → it ≡ asked_copy shape did.registers did.memory → (copy shape did.registers did.memory).act ≡ CopyTo handle pieces → it.to_managed ≡ true
    by_way true way is h = ap (λ (c : Copy). c.to_managed) is ∙ way
    by_way false way is h = absurd (copy_else shape did.registers did.memory way handle pieces h)

    by_ask : (a : Bool) → asks_copy did.answer did.registers ≡ a
        → (cond a (copying shape (copy shape did.registers did.memory) (asked_copy shape did.registers did.memory) feed left interrupts did.memory) (answering_to shape did.answer left interrupts ends did.memory)).act ≡ CopyTo handle pieces
        → it.to_managed ≡ true
    by_ask false f h = absurd (let none : None ≡ Some it = sym (done_none shape cpu memory f) ∙ asked in cc)
    by_ask true f h =
        by_way (asked_copy shape did.registers did.memory).to_managed refl (with_total_is (asked_copy shape did.registers did.memory) it (sym (done_copy shape cpu memory f) ∙ asked)) h

acted_way : (shape : Shape) (line : Bool) (cpu : Cpu) (interrupts : Controller) (ends : List End) (memory : List (List ℕ)) (feed : List ℕ) (it : Copy) (handle : ℕ) (pieces : List Piece) → copy_in shape line cpu memory ≡ Some it
    → (acted shape line cpu interrupts ends memory feed).act ≡ CopyTo handle pieces → it.to_managed ≡ true
unfolding acted
acted_way shape line cpu interrupts ends memory feed it handle pieces asked e = by_pending (is_pending line cpu.registers && are_interrupts_enabled cpu.registers) refl cpu.registers.idle refl e
  where
    by_pending : (p : Bool) → (is_pending line cpu.registers && are_interrupts_enabled cpu.registers) ≡ p → (i : Bool) → cpu.registers.idle ≡ i
        → (cond p (still (quiet (entered (pending line) cpu) interrupts) memory) (cond i (still (quiet cpu interrupts) memory) (instruction shape cpu interrupts ends memory feed))).act ≡ CopyTo handle pieces
        → it.to_managed ≡ true
    by_pending true f i g h = absurd (let none : None ≡ Some it = sym (none_entered shape line cpu memory f) ∙ asked in cc)
    by_pending false f true g h = absurd (let none : None ≡ Some it = sym (none_idle shape line cpu memory g) ∙ asked in cc)
    by_pending false f false g h = instruction_way shape cpu interrupts ends memory feed it handle pieces (sym (as_done shape line cpu memory f g) ∙ asked) h

core_way : (shape : Shape) (cpu : Cpu) (interrupts : Controller) (ends : List End) (memory : List (List ℕ)) (feed : List ℕ) (it : Copy) (handle : ℕ) (pieces : List Piece)
    → copy_in shape (is_line_up shape.ports interrupts ends) (begun (is_line_up shape.ports interrupts ends) cpu) memory ≡ Some it
    → (core_step shape cpu interrupts ends memory feed).act ≡ CopyTo handle pieces → it.to_managed ≡ true
unfolding core_step
core_way shape cpu interrupts ends memory feed it handle pieces asked e =
    acted_way shape (is_line_up shape.ports interrupts ends) (begun (is_line_up shape.ports interrupts ends) cpu) interrupts ends memory feed it handle pieces asked e

-- the copy of a step whose act is a copy into a managed partition
pub copy_way : (desc : Desc) (machine : Machine) (core : ℕ) (feed : List ℕ) (it : Copy) (handle : ℕ) (pieces : List Piece) → next_copy desc machine core ≡ Some it
    → (step desc machine core feed).act ≡ CopyTo handle pieces → it.to_managed ≡ true
unfolding step
copy_way desc machine core feed it handle pieces asked e =
    core_way (shape_of desc) (core_at machine.inner.cores core) machine.inner.interrupts machine.ports machine.memory feed it handle pieces asked e
