-- Which copy a step does.
use Rattle.std.proofs.Common.{◌≡◌, ℕ, ◌==◌, ◌&&◌, not, Bool, true, false, cond, List, [], ◌∷◌, None, Some, refl, sym, ap, ◌∙◌, arith}
use Rattle.std.proofs.lemmas.Bool.{cond-true, cond-false, eqb-true}
use Rattle.std.proofs.lemmas.List.Sums.{sum_by-cons}
use Rattle.guest_regs.specs.Registers.{Registers}
use Rattle.core_step.specs.Step as core
use Rattle.trap_emulate.specs.Entry.{are_interrupts_enabled}
use Rattle.machine_desc.specs.declared.desc.Port.{Port}
use Rattle.machine_desc.specs.declared.desc.Span.{Span}
use Rattle.copy_lists.specs.declared.list.SgEntry.{SgEntry}
use Rattle.copy_lists.specs.Lists.{total}
use Rattle.copy_lists.specs.Pieces.{with_bytes, sources_of, pieces_in, shared_out}
use Rattle.partition.specs.Found.{lookup}
use Rattle.partition.specs.Machine.{Cpu, Shape}
use Rattle.partition.specs.Copying.{Copy, asked_copy, copied_in}
use Rattle.partition.specs.Asking.{with_total, asked_by, copy_done, copy_in}
use Rattle.partition.specs.Step.{is_pending, asks_copy}

-- an interrupt is entered
pub none_entered : (shape : Shape) (line : Bool) (cpu : Cpu) (memory : List (List ℕ)) → (is_pending line cpu.registers && are_interrupts_enabled cpu.registers) ≡ true → copy_in shape line cpu memory ≡ None
unfolding copy_in
none_entered shape line cpu memory e = ap (λ (b : Bool). cond (not b && not cpu.registers.idle) (copy_done shape cpu memory) None) e

-- the core waits
pub none_idle : (shape : Shape) (line : Bool) (cpu : Cpu) (memory : List (List ℕ)) → cpu.registers.idle ≡ true → copy_in shape line cpu memory ≡ None
unfolding copy_in
none_idle shape line cpu memory e =
    ap (λ (b : Bool). cond (not (is_pending line cpu.registers && are_interrupts_enabled cpu.registers) && not b) (copy_done shape cpu memory) None) e
    ∙ by_other (not (is_pending line cpu.registers && are_interrupts_enabled cpu.registers))
  where
    by_other : (b : Bool) → cond (b && false) (copy_done shape cpu memory) None ≡ None
    by_other true = refl
    by_other false = refl

-- it does an instruction
pub as_done : (shape : Shape) (line : Bool) (cpu : Cpu) (memory : List (List ℕ)) → (is_pending line cpu.registers && are_interrupts_enabled cpu.registers) ≡ false → cpu.registers.idle ≡ false → copy_in shape line cpu memory ≡ copy_done shape cpu memory
unfolding copy_in
as_done shape line cpu memory e f =
    ap (λ (b : Bool). cond (not b && not cpu.registers.idle) (copy_done shape cpu memory) None) e
    ∙ ap (λ (b : Bool). cond (not b) (copy_done shape cpu memory) None) f

-- by its answer
pub done_none : (shape : Shape) (cpu : Cpu) (memory : List (List ℕ)) → asks_copy (core.stepped (lookup shape.areas cpu.translations) cpu.registers memory).answer (core.stepped (lookup shape.areas cpu.translations) cpu.registers memory).registers ≡ false
    → copy_done shape cpu memory ≡ None
unfolding copy_done
done_none shape cpu memory e =
    let did : core.Stepped = core.stepped (lookup shape.areas cpu.translations) cpu.registers memory in
    cond-false (asks_copy did.answer did.registers) (with_total (asked_copy shape did.registers did.memory)) None e

pub done_copy : (shape : Shape) (cpu : Cpu) (memory : List (List ℕ)) → asks_copy (core.stepped (lookup shape.areas cpu.translations) cpu.registers memory).answer (core.stepped (lookup shape.areas cpu.translations) cpu.registers memory).registers ≡ true
    → copy_done shape cpu memory
    ≡ with_total (asked_copy shape (core.stepped (lookup shape.areas cpu.translations) cpu.registers memory).registers (core.stepped (lookup shape.areas cpu.translations) cpu.registers memory).memory)
unfolding copy_done
done_copy shape cpu memory e =
    let did : core.Stepped = core.stepped (lookup shape.areas cpu.translations) cpu.registers memory in
    cond-true (asks_copy did.answer did.registers) (with_total (asked_copy shape did.registers did.memory)) None e

-- an instruction that asks for a copy is a hypercall, which changes nothing by itself
pub calls_keep : (answer : core.Answer) (old regs : Registers) (before after : List (List ℕ)) → asks_copy answer regs ≡ true → core.KeepsUnlessDone answer old regs before after → after ≡ before
calls_keep core.Hcall old regs before after asks kept = kept.1
calls_keep _ old regs before after asks kept = absurd (cc)

-- ---- what is asked for

-- entries without bytes
none_left : (entries : List SgEntry) → total entries ≡ 0 → with_bytes entries ≡ []
none_left [] e = refl
none_left (entry ∷ entries) e =
    let both = sum_by-cons (λ (it : SgEntry). it.size) entry entries in
    let here : entry.size ≡ 0 = omega (arith, e, both) in
    let rest : total entries ≡ 0 = omega (arith, e, both) in
    ap (λ (n : ℕ). cond (not (n == 0)) (entry ∷ with_bytes entries) (with_bytes entries)) here ∙ none_left entries rest

-- the bytes of what is asked for are the bytes of the copy
alike : (ports : List Port) (handle : ℕ) (to_managed : Bool) (entries : List SgEntry) (feed : ℕ → List Span → List ℕ)
    → let it : Copy = record { handle = handle; to_managed = to_managed; entries = entries } in
    copied_in it (feed handle (sources_of entries)) ≡ copied_in it (feed (asked_by ports (with_total it)).handle (asked_by ports (with_total it)).ranges)
alike ports handle true entries feed = refl
alike ports handle false entries feed =
    let it : Copy = record { handle = handle; to_managed = false; entries = entries } in
    elim (total entries == 0) as (λ b. (total entries == 0) ≡ b → pieces_in entries (feed handle (sources_of entries)) ≡ pieces_in entries (feed (asked_by ports (with_total it)).handle (asked_by ports (with_total it)).ranges)) [
      | true ↦ λ e.
          let left : with_bytes entries ≡ [] = none_left entries (eqb-true (total entries) 0 e) in
          ap (λ (l : List SgEntry). shared_out l (feed handle (sources_of entries))) left
          ∙ sym (ap (λ (l : List SgEntry). shared_out l (feed (asked_by ports (with_total it)).handle (asked_by ports (with_total it)).ranges)) left)
      | false ↦ λ e. ap (λ (b : Bool). pieces_in entries (feed (asked_by ports (cond b None (Some it))).handle (asked_by ports (cond b None (Some it))).ranges)) (sym e)
    ] refl

pub fed_alike : (ports : List Port) (it : Copy) (feed : ℕ → List Span → List ℕ) → copied_in it (feed it.handle (sources_of it.entries)) ≡ copied_in it (feed (asked_by ports (with_total it)).handle (asked_by ports (with_total it)).ranges)
fed_alike ports it feed = alike ports it.handle it.to_managed it.entries feed
