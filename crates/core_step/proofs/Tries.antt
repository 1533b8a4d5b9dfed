-- A try over some of the pages does the step, or misses the first touch whose page isn't there.
use Rattle.std.proofs.Common.{◌≡◌, ℕ, ◌%◌, ◌==◌, Bool, true, false, cond, not, ◌&&◌, List, [], ◌∷◌, Option, Some, None, Result, Ok, Err, IfSome, IsSome, MatchOption, is_none, is_some, refl, sym, ap, subst}
use Rattle.insn.specs.declared.instruction.Insn.{Insn}
use Rattle.guest_regs.specs.State.{privileged}
use Rattle.guest_regs.specs.Registers.{Registers, data_space, in_problem_state}
use Rattle.insn_alu.specs.declared.effect.Effect.{Effect}
use Rattle.insn_alu.specs.declared.effect.Effect.TheVariants as effect
use Rattle.insn_alu.specs.declared.effect.Form.{Form}
use Rattle.insn_alu.specs.declared.effect.Form.TheVariants as form
use Rattle.insn_alu.specs.declared.effect.Access.{Access}
use Rattle.insn_alu.specs.Exec.{exec_of}
use Rattle.ground.specs.Extents.{number_at}
use Rattle.core_step.specs.declared.look.Page.{Page}
use Rattle.core_step.specs.declared.access.Part.{Part}
use Rattle.core_step.specs.declared.access.Place.{Place}
use Rattle.core_step.specs.declared.access.Fault.{Fault}
use Rattle.core_step.specs.declared.access.Fault.TheVariants.{Missing, Denied, Reversed}
use Rattle.core_step.specs.Pages.{Lookup}
use Rattle.core_step.specs.Access.{parts_of, fetching, allows, place_in, place_or_fault, before, places_or_fault}
use Rattle.core_step.specs.Step.{Answer, Stepped, is_aligned, access_permission, decoded, unchanged, load_done, store_done, conditional_done, access_done, done_unless, accessed, performed, instruction_done, fetched, stepped, holds, first_granule, Align, Program, Priv}
use Rattle.core_step.specs.Touches.{Touch, touch_at, page_for, touching, parts_touched, access_touched, effect_touched, instruction_touched, after_fetch, fetch_touch, fetch_place, touches, Agrees, IsPart, unmet, missing, Settles, TriesSettle}

-- what is to be shown, as a record
record Fine (same : Type 0) (first missed : Option Touch) (whole : Lookup) : Type 0 where
  settles : Settles same first missed whole

-- a fault that misses, as an access
lost : Bool → ℕ → Result (List Place) Fault → Option Touch
lost space pid (Err (Missing ea)) = Some (touch_at space pid ea)
lost space pid _ = None

-- ---- a part

-- the part misses, and the whole lookup has the page, so that it's touched
absent : (same : Type 0) (whole some : Lookup) (t : Touch) (page : Option Page) (rest : List Touch) → page_for whole t ≡ page → page_for some t ≡ None
    → (page ≡ None → same) → (first : Option Touch) → (page ≡ None → first ≡ None) → ((p : Page) → page ≡ Some p → first ≡ Some t) → Fine same first (Some t) whole
absent same whole some t None rest e f s first g h = record { settles = subst (λ (o : Option Page). MatchOption o (same × (first ≡ None)) (λ p. first ≡ Some t)) (sym e) (s refl, g refl) }
absent same whole some t (Some p) rest e f s first g h = record { settles = subst (λ (o : Option Page). MatchOption o (same × (first ≡ None)) (λ p. first ≡ Some t)) (sym e) (h p refl) }

none_touched : (some : Lookup) (permission : ℕ) (part : Part) (t : Touch) (page : Option Page) (later : List Touch) → page ≡ None → unmet some (touching t (place_or_fault permission part page) later) ≡ None
unfolding place_or_fault
none_touched some permission part t None later e = refl
none_touched some permission part t (Some p) later e = absurd (let f : Some p ≡ None = e in cc)

-- the first of some touches isn't there
head_unmet : (some : Lookup) (t : Touch) (rest : List Touch) → page_for some t ≡ None → unmet some (t ∷ rest) ≡ Some t
head_unmet some t rest e = ap (λ (o : Option Page). cond (is_none o) (Some t) (unmet some rest)) e

first_met : (some : Lookup) (t : Touch) (rest : List Touch) (p : Page) → page_for some t ≡ Some p → unmet some (t ∷ rest) ≡ unmet some rest
first_met some t rest p e = ap (λ (o : Option Page). cond (is_none o) (Some t) (unmet some rest)) e

choice_touched : (some : Lookup) (t : Touch) (denied little : Bool) (place : Place) (ea : ℕ) (later : List Touch) → page_for some t ≡ None
    → unmet some (touching t (cond denied (Err (Denied ea)) (cond little (Err (Reversed ea)) (Ok place))) later) ≡ Some t
choice_touched some t true little place ea later e = head_unmet some t [] e
choice_touched some t false true place ea later e = head_unmet some t [] e
choice_touched some t false false place ea later e = head_unmet some t later e

some_touched : (some : Lookup) (permission : ℕ) (part : Part) (t : Touch) (page : Option Page) (later : List Touch) → page_for some t ≡ None → (p : Page) → page ≡ Some p
    → unmet some (touching t (place_or_fault permission part page) later) ≡ Some t
unfolding place_or_fault
some_touched some permission part t None later e p f = absurd (let g : None ≡ Some p = f in cc)
some_touched some permission part t (Some q) later e p f = choice_touched some t (not (allows q permission)) q.little (place_in q part) part.ea later e

-- ---- the parts of an access

before_lost : (space : Bool) (pid : ℕ) (place : Place) (later : Result (List Place) Fault) → lost space pid (before (Ok place) later) ≡ lost space pid later
unfolding lost
before_lost space pid place (Ok places) = refl
before_lost space pid place (Err (Missing ea)) = refl
before_lost space pid place (Err (Denied ea)) = refl
before_lost space pid place (Err (Reversed ea)) = refl

-- the same with other words for it
either_way : (o : Option Page) (A B : Type 0) (C : Page → Type 0) → (A → B) → MatchOption o A C → MatchOption o B C
either_way None A B C f h = f h
either_way (Some p) A B C f h = h

refine_at : (same other : Type 0) (first missed : Option Touch) (whole : Lookup) → (same → other) → Settles same first missed whole → Settles other first missed whole
refine_at same other first None whole f h = (f h.0, h.1)
refine_at same other first (Some t) whole f h =
    either_way (page_for whole t) (same × (first ≡ None)) (other × (first ≡ None)) (λ p. first ≡ Some t) (λ k. (f k.0, k.1)) h

refine : (same other : Type 0) (first first_too missed missed_too : Option Touch) (whole : Lookup) → (same → other) → first_too ≡ first → missed_too ≡ missed
    → Fine same first missed whole → Fine other first_too missed_too whole
refine same other first first_too missed missed_too whole f e g h =
    subst (λ (o : Option Touch). Fine other o missed_too whole) (sym e)
    (subst (λ (o : Option Touch). Fine other first o whole) (sym g) (record { settles = refine_at same other first missed whole f h.settles }))

none_is_some : is_some (let o : Option Page = None in o) ≡ true → ⊥
none_is_some h = cc

at_part : (whole : Lookup) (t : Touch) (permission len : ℕ) (s : Option Page) → IfSome s (Agrees whole t)
    → IfSome s (λ p. IsSome (page_for whole t) × (place_or_fault permission (record { ea = t.ea; len = len }) (Some p) ≡ place_or_fault permission (record { ea = t.ea; len = len }) (page_for whole t)))
at_part whole t permission len None h = tt
at_part whole t permission len (Some p) h = (h.found, h.same permission len)

choice_met : (some whole : Lookup) (space : Bool) (pid : ℕ) (t : Touch) (p : Page) (denied little : Bool) (place : Place) (ea : ℕ) (x y : Result (List Place) Fault) (later : List Touch)
    → page_for some t ≡ Some p → Fine (x ≡ y) (unmet some later) (lost space pid x) whole
    → Fine (before (cond denied (Err (Denied ea)) (cond little (Err (Reversed ea)) (Ok place))) x ≡ before (cond denied (Err (Denied ea)) (cond little (Err (Reversed ea)) (Ok place))) y)
    (unmet some (touching t (cond denied (Err (Denied ea)) (cond little (Err (Reversed ea)) (Ok place))) later))
    (lost space pid (before (cond denied (Err (Denied ea)) (cond little (Err (Reversed ea)) (Ok place))) x)) whole
unfolding lost
choice_met some whole space pid t p true little place ea x y later e h = record { settles = (refl, first_met some t [] p e) }
choice_met some whole space pid t p false true place ea x y later e h = record { settles = (refl, first_met some t [] p e) }
choice_met some whole space pid t p false false place ea x y later e h =
    refine (x ≡ y) _ _ _ _ _ whole (λ k. ap (before (Ok place)) k) (first_met some t later p e) (before_lost space pid place x) h

part_fine : (some whole : Lookup) (space : Bool) (pid permission : ℕ) (part : Part) (s w : Option Page) (x y : Result (List Place) Fault) (later : List Touch)
    → page_for some (touch_at space pid part.ea) ≡ s → page_for whole (touch_at space pid part.ea) ≡ w → IfSome s (λ p. IsSome w × (place_or_fault permission part (Some p) ≡ place_or_fault permission part w))
    → Fine (x ≡ y) (unmet some later) (lost space pid x) whole
    → Fine (before (place_or_fault permission part s) x ≡ before (place_or_fault permission part w) y)
    (unmet some (touching (touch_at space pid part.ea) (place_or_fault permission part w) later))
    (lost space pid (before (place_or_fault permission part s) x)) whole
unfolding place_or_fault lost
part_fine some whole space pid permission part None w x y later es ew is_part h =
    let t = touch_at space pid part.ea in
    absent _ whole some t w later ew es
    (λ e. subst (λ (o : Option Page). before (place_or_fault permission part None) x ≡ before (place_or_fault permission part o) y) (sym e) refl)
    _ (λ e. none_touched some permission part t w later e) (λ p e. some_touched some permission part t w later es p e)
part_fine some whole space pid permission part (Some p) (Some q) x y later es ew is_part h =
    let t = touch_at space pid part.ea in
    subst (λ (place : Result Place Fault). Fine (before place x ≡ before (place_or_fault permission part (Some q)) y)
    (unmet some (touching t (place_or_fault permission part (Some q)) later)) (lost space pid (before place x)) whole) (sym is_part.1)
    (choice_met some whole space pid t p (not (allows q permission)) q.little (place_in q part) part.ea x y later es h)
part_fine some whole space pid permission part (Some p) None x y later es ew is_part h = absurd (none_is_some is_part.0)

parts_fine : (some whole : Lookup) (space : Bool) (pid permission : ℕ) (parts : List Part) → IsPart some whole
    → Fine (places_or_fault (some space pid) permission parts ≡ places_or_fault (whole space pid) permission parts)
    (unmet some (parts_touched whole space pid permission parts))
    (lost space pid (places_or_fault (some space pid) permission parts)) whole
unfolding lost
parts_fine some whole space pid permission [] is_part = record { settles = (refl, refl) }
parts_fine some whole space pid permission (part ∷ parts) is_part =
    part_fine some whole space pid permission part (some space pid part.ea) (whole space pid part.ea) _ _ _ refl refl (at_part whole (touch_at space pid part.ea) permission part.len (some space pid part.ea) (is_part.agrees (touch_at space pid part.ea)))
    (parts_fine some whole space pid permission parts is_part)

-- ---- the access

record Answers (done : Stepped) (registers : Registers) : Type 0 where
  no_miss : missing done.answer registers ≡ None

by_choice : (b : Bool) (one other : Stepped) (registers : Registers) → Answers one registers → Answers other registers → Answers (cond b one other) registers
by_choice true one other registers h k = h
by_choice false one other registers h k = k

by_form : (f : Form) (one other : Stepped) (registers : Registers) → Answers one registers → Answers other registers
    → Answers (elim f as (λ _. Stepped) [ form.Conditional ↦ one | _ ↦ other ]) registers
by_form form.Conditional one other registers h k = h
by_form _ one other registers h k = k

access_answers : (insn : Insn) (access : Access) (places : List Place) (registers : Registers) (memory : List (List ℕ)) → Answers (access_done insn access places registers memory) registers
unfolding access_done conditional_done load_done store_done
access_answers insn access places registers memory =
    by_choice (not access.store) _ _ registers (record { no_miss = refl })
    (by_form access.form _ _ registers (by_choice (holds registers (first_granule places)) _ _ registers (record { no_miss = refl }) (record { no_miss = refl })) (record { no_miss = refl }))

done_missing : (x : Result (List Place) Fault) (insn : Insn) (access : Access) (registers : Registers) (memory : List (List ℕ))
    → missing (done_unless x insn access registers memory).answer registers ≡ lost (data_space registers) registers.pid x
unfolding lost
done_missing (Ok places) insn access registers memory = (access_answers insn access places registers memory).no_miss
done_missing (Err (Missing ea)) insn access registers memory = refl
done_missing (Err (Denied ea)) insn access registers memory = refl
done_missing (Err (Reversed ea)) insn access registers memory = refl

aligned_fine : (b : Bool) (some whole : Lookup) (answer : Answer) (insn : Insn) (access : Access) (registers : Registers) (memory : List (List ℕ)) (x y : Result (List Place) Fault) (touched : List Touch)
    → missing answer registers ≡ None
    → Fine (x ≡ y) (unmet some touched) (lost (data_space registers) registers.pid x) whole
    → Fine (cond b (unchanged answer registers memory) (done_unless x insn access registers memory) ≡ cond b (unchanged answer registers memory) (done_unless y insn access registers memory))
    (unmet some (cond b [] touched))
    (missing (cond b (unchanged answer registers memory) (done_unless x insn access registers memory)).answer registers) whole
aligned_fine true some whole answer insn access registers memory x y touched e h =
    refine (unchanged answer registers memory ≡ unchanged answer registers memory) _ None _ None _ whole (λ k. k) refl e (record { settles = (refl, refl) })
aligned_fine false some whole answer insn access registers memory x y touched e h =
    refine (x ≡ y) _ _ _ _ _ whole (λ k. ap (λ r. done_unless r insn access registers memory) k) refl (done_missing x insn access registers memory) h

access_fine : (some whole : Lookup) (insn : Insn) (access : Access) (registers : Registers) (memory : List (List ℕ)) → IsPart some whole
    → Fine (accessed some insn access registers memory ≡ accessed whole insn access registers memory)
    (unmet some (access_touched whole access registers)) (missing (accessed some insn access registers memory).answer registers) whole
unfolding accessed access_touched
access_fine some whole insn access registers memory is_part =
    aligned_fine (is_aligned access.form && not (access.ea % 4 == 0)) some whole (Align access.ea access.store) insn access registers memory _ _ _ refl
    (parts_fine some whole (data_space registers) registers.pid (access_permission access.store registers) (parts_of access.ea access.len) is_part)

-- ---- the instruction

privilege_answers : (b : Bool) (insn : Insn) (registers : Registers) (memory : List (List ℕ)) → missing (unchanged (cond b (Program privileged) (Priv insn)) registers memory).answer registers ≡ None
privilege_answers true insn registers memory = refl
privilege_answers false insn registers memory = refl

still : (some whole : Lookup) (done : Stepped) (registers : Registers) → missing done.answer registers ≡ None → Fine (done ≡ done) (unmet some []) (missing done.answer registers) whole
still some whole done registers e = refine (done ≡ done) _ None _ None _ whole (λ k. k) refl e (record { settles = (refl, refl) })

performed_fine : (some whole : Lookup) (insn : Insn) (effect : Effect) (after registers : Registers) (memory : List (List ℕ)) → IsPart some whole
    → Fine (performed some insn effect after registers memory ≡ performed whole insn effect after registers memory)
    (unmet some (effect_touched whole effect registers)) (missing (performed some insn effect after registers memory).answer registers) whole
unfolding performed effect_touched
performed_fine some whole insn (effect.Memory access) after registers memory is_part = access_fine some whole insn access registers memory is_part
performed_fine some whole insn effect.Done after registers memory is_part = still some whole _ registers refl
performed_fine some whole insn effect.Priv after registers memory is_part = still some whole _ registers (privilege_answers (in_problem_state registers) insn registers memory)
performed_fine some whole insn effect.Trap after registers memory is_part = still some whole _ registers refl
performed_fine some whole insn effect.Illegal after registers memory is_part = still some whole _ registers refl
performed_fine some whole insn effect.NoFloat after registers memory is_part = still some whole _ registers refl
performed_fine some whole insn effect.Syscall after registers memory is_part = still some whole _ registers refl
performed_fine some whole insn effect.Hcall after registers memory is_part = still some whole _ registers refl
performed_fine some whole insn effect.Wait after registers memory is_part = record { settles = (refl, refl) }

instruction_fine : (some whole : Lookup) (insn : Insn) (registers : Registers) (memory : List (List ℕ)) → IsPart some whole
    → Fine (instruction_done some insn registers memory ≡ instruction_done whole insn registers memory)
    (unmet some (instruction_touched whole insn registers)) (missing (instruction_done some insn registers memory).answer registers) whole
unfolding instruction_done
instruction_fine some whole insn registers memory is_part =
    performed_fine some whole insn (exec_of insn.op insn.word registers).effect (exec_of insn.op insn.word registers).after registers memory is_part

choice_fetched : (some whole : Lookup) (registers : Registers) (memory : List (List ℕ)) (p : Page) (denied little : Bool) (place : Place) (ea : ℕ)
    → page_for some (fetch_touch registers) ≡ Some p → IsPart some whole
    → Fine (fetched (cond denied (Err (Denied ea)) (cond little (Err (Reversed ea)) (Ok place))) some registers memory ≡ fetched (cond denied (Err (Denied ea)) (cond little (Err (Reversed ea)) (Ok place))) whole registers memory)
    (unmet some (touching (fetch_touch registers) (cond denied (Err (Denied ea)) (cond little (Err (Reversed ea)) (Ok place)))
    (after_fetch whole (cond denied (Err (Denied ea)) (cond little (Err (Reversed ea)) (Ok place))) registers memory)))
    (missing (fetched (cond denied (Err (Denied ea)) (cond little (Err (Reversed ea)) (Ok place))) some registers memory).answer registers) whole
choice_fetched some whole registers memory p true little place ea e is_part = record { settles = (refl, first_met some (fetch_touch registers) [] p e) }
choice_fetched some whole registers memory p false true place ea e is_part = record { settles = (refl, first_met some (fetch_touch registers) [] p e) }
choice_fetched some whole registers memory p false false place ea e is_part =
    let insn : Insn = decoded (number_at memory place.extent place.at 4) in
    refine (instruction_done some insn registers memory ≡ instruction_done whole insn registers memory) _ _ _ _ _ whole (λ k. k)
    (first_met some (fetch_touch registers) (instruction_touched whole insn registers) p e) refl
    (instruction_fine some whole insn registers memory is_part)

fetched_fine : (some whole : Lookup) (registers : Registers) (memory : List (List ℕ)) (s w : Option Page)
    → page_for some (fetch_touch registers) ≡ s → page_for whole (fetch_touch registers) ≡ w → IfSome s (λ p. IsSome w × (fetch_place (Some p) registers ≡ fetch_place w registers)) → IsPart some whole
    → Fine (fetched (fetch_place s registers) some registers memory ≡ fetched (fetch_place w registers) whole registers memory)
    (unmet some (touching (fetch_touch registers) (fetch_place w registers) (after_fetch whole (fetch_place w registers) registers memory)))
    (missing (fetched (fetch_place s registers) some registers memory).answer registers) whole
unfolding place_or_fault
fetched_fine some whole registers memory None w es ew same is_part =
    let t = fetch_touch registers in
    let part : Part = record { ea = registers.pc; len = 4 } in
    let permission = fetching (in_problem_state registers) in
    absent _ whole some t w [] ew es
    (λ e. subst (λ (o : Option Page). fetched (fetch_place None registers) some registers memory ≡ fetched (fetch_place o registers) whole registers memory) (sym e) refl)
    _ (λ e. none_touched some permission part t w _ e) (λ p e. some_touched some permission part t w _ es p e)
fetched_fine some whole registers memory (Some p) (Some q) es ew same is_part =
    let part : Part = record { ea = registers.pc; len = 4 } in
    let permission = fetching (in_problem_state registers) in
    subst (λ (place : Result Place Fault). Fine (fetched place some registers memory ≡ fetched (fetch_place (Some q) registers) whole registers memory)
    (unmet some (touching (fetch_touch registers) (fetch_place (Some q) registers) (after_fetch whole (fetch_place (Some q) registers) registers memory)))
    (missing (fetched place some registers memory).answer registers) whole) (sym same.1)
    (choice_fetched some whole registers memory p (not (allows q permission)) q.little (place_in q part) registers.pc es is_part)
fetched_fine some whole registers memory (Some p) None es ew same is_part = absurd (none_is_some same.0)

step_fine : (some whole : Lookup) (registers : Registers) (memory : List (List ℕ)) → IsPart some whole
    → Fine (stepped some registers memory ≡ stepped whole registers memory) (unmet some (touches whole registers memory)) (missing (stepped some registers memory).answer registers) whole
unfolding stepped touches
step_fine some whole registers memory is_part =
    fetched_fine some whole registers memory (page_for some (fetch_touch registers)) (page_for whole (fetch_touch registers)) refl refl
    (at_part whole (fetch_touch registers) (fetching (in_problem_state registers)) 4 (page_for some (fetch_touch registers)) (is_part.agrees (fetch_touch registers))) is_part

pub tries_settle_all : TriesSettle
tries_settle_all some whole registers memory is_part = (step_fine some whole registers memory is_part).settles
