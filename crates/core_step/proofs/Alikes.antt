-- Steps over lookups that give the same places and faults.
use Rattle.std.proofs.Common.{◌≡◌, ℕ, ◌%◌, ◌==◌, Bool, cond, not, ◌&&◌, List, [], ◌∷◌, Result, Ok, Err, refl, ap, ◌∙◌}
use Rattle.insn.specs.declared.instruction.Insn.{Insn}
use Rattle.guest_regs.specs.Registers.{Registers, data_space, instruction_space, in_problem_state}
use Rattle.insn_alu.specs.declared.effect.Effect.{Effect}
use Rattle.insn_alu.specs.declared.effect.Effect.TheVariants as effect
use Rattle.insn_alu.specs.Exec.{exec_of}
use Rattle.ground.specs.Extents.{number_at}
use Rattle.core_step.specs.declared.access.Part.{Part}
use Rattle.core_step.specs.declared.access.Place.{Place}
use Rattle.core_step.specs.declared.access.Fault.{Fault}
use Rattle.core_step.specs.Pages.{Lookup}
use Rattle.core_step.specs.Access.{parts_of, fetching, place_or_fault, before, places_or_fault}
use Rattle.core_step.specs.Step.{Align, is_aligned, access_permission, decoded, unchanged, done_unless, accessed, performed, instruction_done, fetched, stepped}
use Rattle.core_step.specs.Touches.{touch_at, page_for, touching, parts_touched, access_touched, effect_touched, after_fetch, fetch_touch, fetch_place, touches, Alike, AlikeStepAlike}

parts_alike : (some whole : Lookup) (space : Bool) (pid permission : ℕ) (parts : List Part) → Alike some whole → places_or_fault (some space pid) permission parts ≡ places_or_fault (whole space pid) permission parts
parts_alike some whole space pid permission [] h = refl
parts_alike some whole space pid permission (part ∷ parts) h =
    ap (λ p. before p (places_or_fault (some space pid) permission parts)) (h.same space pid permission part)
    ∙ ap (λ ps. before (place_or_fault permission part (whole space pid part.ea)) ps) (parts_alike some whole space pid permission parts h)

touched_alike : (some whole : Lookup) (space : Bool) (pid permission : ℕ) (parts : List Part) → Alike some whole → parts_touched some space pid permission parts ≡ parts_touched whole space pid permission parts
touched_alike some whole space pid permission [] h = refl
touched_alike some whole space pid permission (part ∷ parts) h =
    ap (λ p. touching (touch_at space pid part.ea) p (parts_touched some space pid permission parts)) (h.same space pid permission part)
    ∙ ap (λ ts. touching (touch_at space pid part.ea) (place_or_fault permission part (whole space pid part.ea)) ts) (touched_alike some whole space pid permission parts h)

performed_alike : (some whole : Lookup) (insn : Insn) (effect : Effect) (after registers : Registers) (memory : List (List ℕ)) → Alike some whole
    → (performed some insn effect after registers memory ≡ performed whole insn effect after registers memory) × (effect_touched some effect registers ≡ effect_touched whole effect registers)
unfolding performed accessed effect_touched access_touched
performed_alike some whole insn (effect.Memory access) after registers memory h = (
  ap (λ ps. cond (is_aligned access.form && not (access.ea % 4 == 0)) (unchanged (Align access.ea access.store) registers memory) (done_unless ps insn access registers memory))
      (parts_alike some whole (data_space registers) registers.pid (access_permission access.store registers) (parts_of access.ea access.len) h),
  ap (λ ts. cond (is_aligned access.form && not (access.ea % 4 == 0)) [] ts)
      (touched_alike some whole (data_space registers) registers.pid (access_permission access.store registers) (parts_of access.ea access.len) h),
)
performed_alike some whole insn effect.Done after registers memory h = (refl, refl)
performed_alike some whole insn effect.Priv after registers memory h = (refl, refl)
performed_alike some whole insn effect.Trap after registers memory h = (refl, refl)
performed_alike some whole insn effect.Illegal after registers memory h = (refl, refl)
performed_alike some whole insn effect.NoFloat after registers memory h = (refl, refl)
performed_alike some whole insn effect.Syscall after registers memory h = (refl, refl)
performed_alike some whole insn effect.Hcall after registers memory h = (refl, refl)
performed_alike some whole insn effect.Wait after registers memory h = (refl, refl)

after_alike : (some whole : Lookup) (place : Result Place Fault) (registers : Registers) (memory : List (List ℕ)) → Alike some whole
    → (fetched place some registers memory ≡ fetched place whole registers memory) × (after_fetch some place registers memory ≡ after_fetch whole place registers memory)
unfolding instruction_done
after_alike some whole (Err fault) registers memory h = (refl, refl)
after_alike some whole (Ok place) registers memory h =
    let insn : Insn = decoded (number_at memory place.extent place.at 4) in
    performed_alike some whole insn (exec_of insn.op insn.word registers).effect (exec_of insn.op insn.word registers).after registers memory h

pub alike_step_alike_all : AlikeStepAlike
unfolding stepped touches
alike_step_alike_all some whole registers memory h =
    let first = fetch_place (page_for some (fetch_touch registers)) registers in
    let e : first ≡ fetch_place (page_for whole (fetch_touch registers)) registers =
    h.same (instruction_space registers) registers.pid (fetching (in_problem_state registers)) (record { ea = registers.pc; len = 4 }) in
    let both = after_alike some whole first registers memory h in (
      both.0 ∙ ap (λ p. fetched p whole registers memory) e,
      ap (λ ts. touching (fetch_touch registers) first ts) both.1 ∙ ap (λ p. touching (fetch_touch registers) p (after_fetch whole p registers memory)) e,
    )
