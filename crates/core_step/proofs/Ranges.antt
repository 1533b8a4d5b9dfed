-- The ranges that an instruction writes lie in extents of its pages.
use Rattle.std.proofs.Common.{ℕ, ◌<◌, ◌%◌, ◌==◌, Bool, true, false, not, ◌&&◌, cond, List, [], ◌∷◌, length, Result, Ok, Err, IfOk, IfSome}
use Rattle.insn.specs.declared.instruction.Insn.{Insn}
use Rattle.guest_regs.specs.State.{privileged}
use Rattle.guest_regs.specs.Registers.{Registers, in_problem_state, data_space}
use Rattle.insn_alu.specs.declared.effect.Effect.{Effect}
use Rattle.insn_alu.specs.declared.effect.Effect.TheVariants as effect
use Rattle.insn_alu.specs.declared.effect.Form.{Form}
use Rattle.insn_alu.specs.declared.effect.Form.TheVariants as form
use Rattle.insn_alu.specs.declared.effect.Access.{Access}
use Rattle.core_step.specs.declared.access.Place.{Place}
use Rattle.core_step.specs.declared.access.Fault.{Fault}
use Rattle.core_step.specs.declared.access.Fault.TheVariants.{Missing, Denied, Reversed}
use Rattle.core_step.specs.Pages.{Lookup}
use Rattle.core_step.specs.Access.{ranges_of}
use Rattle.core_step.specs.Step.{Stepped, Program, Priv, load_done, store_done, conditional_done, access_done, done_unless, accessed, performed, instruction_done, fetched, stepped, holds, first_granule, is_aligned, data_fault}
use Rattle.core_step.specs.Laws.{AreBelow, WritesBelow, WritesIntoPages}
use Rattle.core_step.proofs.Alone.{AreKnown, all_known}

-- what was written lies in so many extents
abbrev Lies : List ℕ → Stepped → Type 0
Lies names done = WritesBelow (length names) done.answer

either : (names : List ℕ) (b : Bool) (one other : Stepped) → Lies names one → Lies names other → Lies names (cond b one other)
either names true one other h k = h
either names false one other h k = k

either_form : (names : List ℕ) (f : Form) (one other : Stepped) → Lies names one → Lies names other → Lies names (elim f as (λ _. Stepped) [ form.Conditional ↦ one | _ ↦ other ])
either_form names form.Conditional one other h k = h
either_form names _ one other h k = k

below : (names : List ℕ) (places : List Place) → AreKnown names places → AreBelow (length names) (ranges_of places)
below names [] h = tt
below names (place ∷ places) h = (h.0, below names places h.1)

load : (names : List ℕ) (insn : Insn) (access : Access) (places : List Place) (registers : Registers) (memory : List (List ℕ)) → Lies names (load_done insn access places registers memory)
unfolding load_done
load names insn access places registers memory = tt

store : (names : List ℕ) (insn : Insn) (places : List Place) (registers : Registers) (memory : List (List ℕ)) → AreKnown names places → Lies names (store_done insn places registers memory)
unfolding store_done
store names insn places registers memory h = below names places h

conditional : (names : List ℕ) (insn : Insn) (places : List Place) (registers : Registers) (memory : List (List ℕ)) → AreKnown names places → Lies names (conditional_done insn places registers memory)
unfolding conditional_done
conditional names insn places registers memory h = either names (holds registers (first_granule places)) _ _ (below names places h) tt

access_lies : (names : List ℕ) (insn : Insn) (access : Access) (places : List Place) (registers : Registers) (memory : List (List ℕ)) → AreKnown names places → Lies names (access_done insn access places registers memory)
unfolding access_done
access_lies names insn access places registers memory h =
    either names (not access.store) _ _ (load names insn access places registers memory)
    (either_form names access.form _ _ (conditional names insn places registers memory h) (store names insn places registers memory h))

fault_lies : (count : ℕ) (store : Bool) (fault : Fault) → WritesBelow count (data_fault store fault)
fault_lies count store (Missing ea) = tt
fault_lies count store (Denied ea) = tt
fault_lies count store (Reversed ea) = tt

places_lie : (names : List ℕ) (places : Result (List Place) Fault) (insn : Insn) (access : Access) (registers : Registers) (memory : List (List ℕ)) → IfOk places (AreKnown names)
    → Lies names (done_unless places insn access registers memory)
places_lie names (Err fault) insn access registers memory h = fault_lies (length names) access.store fault
places_lie names (Ok places) insn access registers memory h = access_lies names insn access places registers memory h

abbrev Knows : List ℕ → Lookup → Type 0
Knows names lookup = (space : Bool) (pid ea : ℕ) → IfSome (lookup space pid ea) (λ page. page.extent < length names)

accessed_lies : (names : List ℕ) (lookup : Lookup) (insn : Insn) (access : Access) (registers : Registers) (memory : List (List ℕ)) → Knows names lookup
    → Lies names (accessed lookup insn access registers memory)
unfolding accessed
accessed_lies names lookup insn access registers memory knows =
    either names (is_aligned access.form && not (access.ea % 4 == 0)) _ _ tt
    (places_lie names _ insn access registers memory (all_known names (lookup (data_space registers) registers.pid) (knows (data_space registers) registers.pid) _ _))

privilege : (count : ℕ) (b : Bool) (insn : Insn) → WritesBelow count (cond b (Program privileged) (Priv insn))
privilege count true insn = tt
privilege count false insn = tt

performed_lies : (names : List ℕ) (lookup : Lookup) (insn : Insn) (effect : Effect) (after registers : Registers) (memory : List (List ℕ)) → Knows names lookup
    → Lies names (performed lookup insn effect after registers memory)
unfolding performed
performed_lies names lookup insn effect.Done after registers memory knows = tt
performed_lies names lookup insn (effect.Memory access) after registers memory knows = accessed_lies names lookup insn access registers memory knows
performed_lies names lookup insn effect.Priv after registers memory knows = privilege (length names) (in_problem_state registers) insn
performed_lies names lookup insn effect.Trap after registers memory knows = tt
performed_lies names lookup insn effect.Illegal after registers memory knows = tt
performed_lies names lookup insn effect.NoFloat after registers memory knows = tt
performed_lies names lookup insn effect.Syscall after registers memory knows = tt
performed_lies names lookup insn effect.Hcall after registers memory knows = tt
performed_lies names lookup insn effect.Wait after registers memory knows = tt

instruction_lies : (names : List ℕ) (lookup : Lookup) (insn : Insn) (registers : Registers) (memory : List (List ℕ)) → Knows names lookup
    → Lies names (instruction_done lookup insn registers memory)
unfolding instruction_done
instruction_lies names lookup insn registers memory knows = performed_lies names lookup insn _ _ registers memory knows

fetched_lies : (names : List ℕ) (place : Result Place Fault) (lookup : Lookup) (registers : Registers) (memory : List (List ℕ)) → Knows names lookup
    → Lies names (fetched place lookup registers memory)
fetched_lies names (Err (Missing ea)) lookup registers memory knows = tt
fetched_lies names (Err (Denied ea)) lookup registers memory knows = tt
fetched_lies names (Err (Reversed ea)) lookup registers memory knows = tt
fetched_lies names (Ok place) lookup registers memory knows = instruction_lies names lookup _ registers memory knows

pub writes_into_pages : WritesIntoPages
unfolding stepped
writes_into_pages names lookup registers memory knows = fetched_lies names _ lookup registers memory knows
