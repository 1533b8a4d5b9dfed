-- An instruction that is neither done nor waits has changed nothing.
use Rattle.std.proofs.Common.{◌≡◌, ℕ, ◌%◌, ◌==◌, Bool, true, false, not, ◌&&◌, cond, List, Result, Ok, Err, refl, subst}
use Rattle.insn.specs.declared.instruction.Insn.{Insn}
use Rattle.guest_regs.specs.State.{privileged}
use Rattle.guest_regs.specs.Registers.{Registers, in_problem_state}
use Rattle.insn_alu.specs.declared.effect.Effect.{Effect}
use Rattle.insn_alu.specs.declared.effect.Effect.TheVariants as effect
use Rattle.insn_alu.specs.declared.effect.Form.{Form}
use Rattle.insn_alu.specs.declared.effect.Form.TheVariants as form
use Rattle.insn_alu.specs.declared.effect.Access.{Access}
use Rattle.core_step.specs.declared.access.Place.{Place}
use Rattle.core_step.specs.declared.access.Fault.{Fault}
use Rattle.core_step.specs.declared.access.Fault.TheVariants.{Missing, Denied, Reversed}
use Rattle.core_step.specs.Pages.{Lookup}
use Rattle.core_step.specs.Step.{Answer, Stepped, KeepsUnlessDone, unchanged, load_done, store_done, conditional_done, access_done, done_unless, accessed, performed, instruction_done, fetched, stepped, holds, first_granule, is_aligned, data_fault, Align, Program, Priv}

record Keeps (done : Stepped) (registers : Registers) (memory : List (List ℕ)) : Type 0 where
  kept : KeepsUnlessDone done.answer registers done.registers memory done.memory

by_choice : (b : Bool) (one other : Stepped) (registers : Registers) (memory : List (List ℕ)) → Keeps one registers memory → Keeps other registers memory → Keeps (cond b one other) registers memory
by_choice true one other registers memory h k = h
by_choice false one other registers memory h k = k

by_form : (f : Form) (one other : Stepped) (registers : Registers) (memory : List (List ℕ)) → Keeps one registers memory → Keeps other registers memory
    → Keeps (elim f as (λ _. Stepped) [ form.Conditional ↦ one | _ ↦ other ]) registers memory
by_form form.Conditional one other registers memory h k = h
by_form _ one other registers memory h k = k

conditional_keeps : (insn : Insn) (places : List Place) (registers : Registers) (memory : List (List ℕ)) → Keeps (conditional_done insn places registers memory) registers memory
unfolding conditional_done
conditional_keeps insn places registers memory = by_choice (holds registers (first_granule places)) _ _ registers memory (record { kept = tt }) (record { kept = tt })

load_keeps : (insn : Insn) (access : Access) (places : List Place) (registers : Registers) (memory : List (List ℕ)) → Keeps (load_done insn access places registers memory) registers memory
unfolding load_done
load_keeps insn access places registers memory = record { kept = tt }

store_keeps : (insn : Insn) (places : List Place) (registers : Registers) (memory : List (List ℕ)) → Keeps (store_done insn places registers memory) registers memory
unfolding store_done
store_keeps insn places registers memory = record { kept = tt }

access_keeps : (insn : Insn) (access : Access) (places : List Place) (registers : Registers) (memory : List (List ℕ)) → Keeps (access_done insn access places registers memory) registers memory
unfolding access_done
access_keeps insn access places registers memory =
    by_choice (not access.store) _ _ registers memory (load_keeps insn access places registers memory)
    (by_form access.form _ _ registers memory (conditional_keeps insn places registers memory) (store_keeps insn places registers memory))

fault_keeps : (fault : Fault) (store : Bool) (registers : Registers) (memory : List (List ℕ)) → Keeps (unchanged (data_fault store fault) registers memory) registers memory
fault_keeps (Missing ea) store registers memory = record { kept = (refl, refl) }
fault_keeps (Denied ea) store registers memory = record { kept = (refl, refl) }
fault_keeps (Reversed ea) store registers memory = record { kept = (refl, refl) }

places_keep : (places : Result (List Place) Fault) (insn : Insn) (access : Access) (registers : Registers) (memory : List (List ℕ)) → Keeps (done_unless places insn access registers memory) registers memory
places_keep (Err fault) insn access registers memory = fault_keeps fault access.store registers memory
places_keep (Ok places) insn access registers memory = access_keeps insn access places registers memory

accessed_keeps : (lookup : Lookup) (insn : Insn) (access : Access) (registers : Registers) (memory : List (List ℕ)) → Keeps (accessed lookup insn access registers memory) registers memory
unfolding accessed
accessed_keeps lookup insn access registers memory =
    by_choice (is_aligned access.form && not (access.ea % 4 == 0)) (unchanged (Align access.ea access.store) registers memory) _ registers memory (record { kept = (refl, refl) })
    (places_keep _ insn access registers memory)

by_privilege : (b : Bool) (insn : Insn) (registers : Registers) (memory : List (List ℕ)) → Keeps (unchanged (cond b (Program privileged) (Priv insn)) registers memory) registers memory
by_privilege true insn registers memory = record { kept = (refl, refl) }
by_privilege false insn registers memory = record { kept = (refl, refl) }

performed_keeps : (lookup : Lookup) (insn : Insn) (effect : Effect) (after registers : Registers) (memory : List (List ℕ)) → Keeps (performed lookup insn effect after registers memory) registers memory
unfolding performed
performed_keeps lookup insn effect.Done after registers memory = record { kept = tt }
performed_keeps lookup insn (effect.Memory access) after registers memory = accessed_keeps lookup insn access registers memory
performed_keeps lookup insn effect.Priv after registers memory = by_privilege (in_problem_state registers) insn registers memory
performed_keeps lookup insn effect.Trap after registers memory = record { kept = (refl, refl) }
performed_keeps lookup insn effect.Illegal after registers memory = record { kept = (refl, refl) }
performed_keeps lookup insn effect.NoFloat after registers memory = record { kept = (refl, refl) }
performed_keeps lookup insn effect.Syscall after registers memory = record { kept = (refl, refl) }
performed_keeps lookup insn effect.Hcall after registers memory = record { kept = (refl, refl) }
performed_keeps lookup insn effect.Wait after registers memory = record { kept = tt }

fetched_keeps : (place : Result Place Fault) (lookup : Lookup) (registers : Registers) (memory : List (List ℕ)) → Keeps (fetched place lookup registers memory) registers memory
unfolding instruction_done
fetched_keeps (Err (Missing ea)) lookup registers memory = record { kept = (refl, refl) }
fetched_keeps (Err (Denied ea)) lookup registers memory = record { kept = (refl, refl) }
fetched_keeps (Err (Reversed ea)) lookup registers memory = record { kept = (refl, refl) }
fetched_keeps (Ok place) lookup registers memory = performed_keeps lookup _ _ _ registers memory

step_keeps : (lookup : Lookup) (registers : Registers) (memory : List (List ℕ)) → Keeps (stepped lookup registers memory) registers memory
unfolding stepped
step_keeps lookup registers memory = fetched_keeps _ lookup registers memory

pub kept : (lookup : Lookup) (registers : Registers) (memory : List (List ℕ)) → KeepsUnlessDone (stepped lookup registers memory).answer registers (stepped lookup registers memory).registers memory (stepped lookup registers memory).memory
kept lookup registers memory = (step_keeps lookup registers memory).kept

-- what a step answers and leaves
pub kept_by : (lookup : Lookup) (old new : Registers) (before after : List (List ℕ)) (answer : Answer) → stepped lookup old before ≡ record { answer = answer; registers = new; memory = after }
    → KeepsUnlessDone answer old new before after
kept_by lookup old new before after answer e = subst (λ (s : Stepped). KeepsUnlessDone s.answer old s.registers before s.memory) e (kept lookup old before)
