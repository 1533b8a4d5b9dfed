-- An instruction over extents of a larger memory does to them what it does to them alone.
use Rattle.std.proofs.Common.{◌≡◌, ℕ, ◌<◌, ◌%◌, ◌==◌, Bool, true, false, not, ◌&&◌, cond, List, [], ◌∷◌, map, length, take, drop, slice_set, Option, Some, None, Result, Ok, Err, IfSome, IfOk, refl, sym, ap, subst, ◌∙◌, get_or-set_other}
use Rattle.insn.specs.declared.instruction.Insn.{Insn}
use Rattle.guest_regs.specs.State.{privileged}
use Rattle.guest_regs.specs.Registers.{Registers, in_problem_state, instruction_space, data_space}
use Rattle.insn_alu.specs.declared.effect.Effect.{Effect}
use Rattle.insn_alu.specs.declared.effect.Effect.TheVariants as effect
use Rattle.insn_alu.specs.declared.effect.Form.{Form}
use Rattle.insn_alu.specs.declared.effect.Form.TheVariants as form
use Rattle.insn_alu.specs.declared.effect.Access.{Access}
use Rattle.insn_alu.specs.Transfers.{transfer_of, finished_by}
use Rattle.ground.specs.Extents.{extent_at, written, number_at}
use Rattle.core_step.specs.declared.look.Page.{Page}
use Rattle.core_step.specs.declared.access.Part.{Part}
use Rattle.core_step.specs.declared.access.Place.{Place}
use Rattle.core_step.specs.declared.access.Fault.{Fault}
use Rattle.core_step.specs.declared.access.Fault.TheVariants.{Missing, Denied, Reversed}
use Rattle.core_step.specs.Pages.{Lookup}
use Rattle.core_step.specs.Access.{place_in, place_or_fault, places_or_fault, before, parts_of, fetching, allows, loaded_from, stored_to, ranges_of}
use Rattle.core_step.specs.Step.{Answer, Stepped, unchanged, load_done, store_done, conditional_done, access_done, done_unless, accessed, access_permission, performed, with_reserved, instruction_done, decoded, fetched, stepped, holds, first_granule, is_aligned, data_fault, Align, Program, Priv}
use Rattle.ground.specs.Own.{name_of, AreExtents, IsForeign, own_of}
use Rattle.core_step.specs.Laws.{page_in, range_in, answer_in, IsNamed, IsSame, StepsAlone}
use Rattle.ground.proofs.Theirs.{own_extent, own_written, still_extents}

-- ---- places

abbrev pub place_to : List ℕ → Place → Place
place_to names place = record place { extent = name_of names place.extent }

abbrev pub places_to : List ℕ → List Place → List Place
places_to names places = map (place_to names) places

abbrev pub found_to : List ℕ → Result Place Fault → Result Place Fault
found_to names (Ok place) = Ok (place_to names place)
found_to names (Err fault) = Err fault

abbrev pub all_to : List ℕ → Result (List Place) Fault → Result (List Place) Fault
all_to names (Ok places) = Ok (places_to names places)
all_to names (Err fault) = Err fault

abbrev pub IsKnown : List ℕ → Place → Type 0
IsKnown names place = place.extent < length names

abbrev pub AreKnown : List ℕ → List Place → Type 0
AreKnown names [] = Unit {0}
AreKnown names (place ∷ places) = IsKnown names place × AreKnown names places

pub by_fault : (names : List ℕ) (b : Bool) (fault : Fault) (own whole : Result Place Fault) → whole ≡ found_to names own → cond b (Err fault) whole ≡ found_to names (cond b (Err fault) own)
by_fault names true fault own whole e = refl
by_fault names false fault own whole e = e

found : (names : List ℕ) (permission : ℕ) (part : Part) (page : Option Page) → place_or_fault permission part (page_in names page) ≡ found_to names (place_or_fault permission part page)
unfolding place_or_fault place_in
found names permission part None = refl
found names permission part (Some page) = by_fault names (not (allows page permission)) _ _ _ (by_fault names page.little _ _ _ refl)

pub or_fault : (P : Place → Type 0) (b : Bool) (fault : Fault) (r : Result Place Fault) → IfOk r P → IfOk (cond b (Err fault) r) P
or_fault P true fault r h = tt
or_fault P false fault r h = h

pub known : (names : List ℕ) (permission : ℕ) (part : Part) (page : Option Page) → IfSome page (λ page. page.extent < length names) → IfOk (place_or_fault permission part page) (IsKnown names)
unfolding place_or_fault place_in
known names permission part None h = tt
known names permission part (Some page) h = or_fault _ (not (allows page permission)) _ _ (or_fault _ page.little _ _ h)

pub before_to : (names : List ℕ) (place : Result Place Fault) (places : Result (List Place) Fault) → before (found_to names place) (all_to names places) ≡ all_to names (before place places)
before_to names (Err fault) places = refl
before_to names (Ok place) (Err fault) = refl
before_to names (Ok place) (Ok places) = refl

pub known_before : (names : List ℕ) (place : Result Place Fault) (places : Result (List Place) Fault) → IfOk place (IsKnown names) → IfOk places (AreKnown names) → IfOk (before place places) (AreKnown names)
known_before names (Err fault) places h hs = tt
known_before names (Ok place) (Err fault) h hs = tt
known_before names (Ok place) (Ok places) h hs = (h, hs)

all_found : (names : List ℕ) (regions extents : ℕ → Option Page) → ((ea : ℕ) → extents ea ≡ page_in names (regions ea)) → (permission : ℕ) (parts : List Part)
    → places_or_fault extents permission parts ≡ all_to names (places_or_fault regions permission parts)
all_found names regions extents same permission [] = refl
all_found names regions extents same permission (part ∷ parts) =
    let head : place_or_fault permission part (extents part.ea) ≡ found_to names (place_or_fault permission part (regions part.ea)) =
    ap (place_or_fault permission part) (same part.ea) ∙ found names permission part (regions part.ea) in
    let tail : places_or_fault extents permission parts ≡ all_to names (places_or_fault regions permission parts) = all_found names regions extents same permission parts in
    ap (λ (r : Result Place Fault). before r (places_or_fault extents permission parts)) head
    ∙ ap (λ (r : Result (List Place) Fault). before (found_to names (place_or_fault permission part (regions part.ea))) r) tail
    ∙ before_to names (place_or_fault permission part (regions part.ea)) (places_or_fault regions permission parts)

pub all_known : (names : List ℕ) (regions : ℕ → Option Page) → ((ea : ℕ) → IfSome (regions ea) (λ page. page.extent < length names)) → (permission : ℕ) (parts : List Part)
    → IfOk (places_or_fault regions permission parts) (AreKnown names)
all_known names regions h permission [] = tt
all_known names regions h permission (part ∷ parts) =
    known_before names _ _ (known names permission part (regions part.ea) (h part.ea)) (all_known names regions h permission parts)

same_granule : (names : List ℕ) (places : List Place) → first_granule (places_to names places) ≡ first_granule places
same_granule names [] = refl
same_granule names (place ∷ places) = refl

same_ranges : (names : List ℕ) (places : List Place) → ranges_of (places_to names places) ≡ map (range_in names) (ranges_of places)
same_ranges names [] = refl
same_ranges names (place ∷ places) = ap (λ ranges. range_in names (record { extent = place.extent; at = place.at; len = place.len }) ∷ ranges) (same_ranges names places)

-- ---- what they hold

same_loaded : (names : List ℕ) (memory : List (List ℕ)) (places : List Place) → AreKnown names places → loaded_from memory (places_to names places) ≡ loaded_from (own_of names memory) places
same_loaded names memory [] h = refl
same_loaded names memory (place ∷ places) h =
    let head : extent_at (own_of names memory) place.extent ≡ extent_at memory (name_of names place.extent) = own_extent names memory place.extent h.0 in
    let tail : loaded_from memory (places_to names places) ≡ loaded_from (own_of names memory) places = same_loaded names memory places h.1 in
    cc

same_stored : (names : List ℕ) (memory : List (List ℕ)) (places : List Place) (bytes : List ℕ) → AreExtents names memory → AreKnown names places
    → own_of names (stored_to memory (places_to names places) bytes) ≡ stored_to (own_of names memory) places bytes
same_stored names memory [] bytes are h = refl
same_stored names memory (place ∷ places) bytes are h =
    let new = written place.at (take place.len bytes) (extent_at memory (name_of names place.extent)) in
    let after = slice_set memory (name_of names place.extent) new in
    let here : own_of names after ≡ slice_set (own_of names memory) place.extent new = own_written names memory place.extent new are h.0 in
    let old : extent_at (own_of names memory) place.extent ≡ extent_at memory (name_of names place.extent) = own_extent names memory place.extent h.0 in
    same_stored names after places (drop place.len bytes) (still_extents names memory _ new are) h.1
    ∙ ap (λ (m : List (List ℕ)). stored_to m places (drop place.len bytes)) (
    here ∙ ap (λ (bs : List ℕ). slice_set (own_of names memory) place.extent (written place.at (take place.len bytes) bs)) (sym old)
    )

foreign_stored : (names : List ℕ) (memory : List (List ℕ)) (places : List Place) (bytes : List ℕ) (extent : ℕ) → AreKnown names places → IsForeign names extent
    → extent_at (stored_to memory (places_to names places) bytes) extent ≡ extent_at memory extent
foreign_stored names memory [] bytes extent h foreign = refl
foreign_stored names memory (place ∷ places) bytes extent h foreign =
    let new = written place.at (take place.len bytes) (extent_at memory (name_of names place.extent)) in
    foreign_stored names (slice_set memory (name_of names place.extent) new) places (drop place.len bytes) extent h.1 foreign
    ∙ get_or-set_other memory (name_of names place.extent) extent new [] (λ same. foreign place.extent h.0 (sym same))

-- ---- the instruction

pub still : (names : List ℕ) (memory : List (List ℕ)) (registers : Registers) (answer : Answer) → answer ≡ answer_in names answer
    → IsSame names memory (unchanged answer registers (own_of names memory)) (unchanged answer registers memory)
still names memory registers answer e = record { answer = e; registers = refl; own_memory = refl; other_memory = λ extent foreign. refl }

pub by_choice : (names : List ℕ) (memory : List (List ℕ)) (b : Bool) (own own' whole whole' : Stepped) → IsSame names memory own whole → IsSame names memory own' whole'
    → IsSame names memory (cond b own own') (cond b whole whole')
by_choice names memory true own own' whole whole' h k = h
by_choice names memory false own own' whole whole' h k = k

by_form : (names : List ℕ) (memory : List (List ℕ)) (f : Form) (own own' whole whole' : Stepped) → IsSame names memory own whole → IsSame names memory own' whole'
    → IsSame names memory (elim f as (λ _. Stepped) [ form.Conditional ↦ own | _ ↦ own' ]) (elim f as (λ _. Stepped) [ form.Conditional ↦ whole | _ ↦ whole' ])
by_form names memory form.Conditional own own' whole whole' h k = h
by_form names memory _ own own' whole whole' h k = k

-- the registers after a load of these bytes
abbrev after_load : Insn → Access → Registers → List ℕ → ℕ → Registers
after_load insn access registers bytes granule =
    let loaded = finished_by (transfer_of insn.op) insn.word bytes registers in
    elim access.form as (λ _. Registers) [ form.Reserve ↦ with_reserved (Some granule) loaded | _ ↦ loaded ]

load_same : (names : List ℕ) (memory : List (List ℕ)) (insn : Insn) (access : Access) (places : List Place) (registers : Registers) → AreKnown names places
    → IsSame names memory (load_done insn access places registers (own_of names memory)) (load_done insn access (places_to names places) registers memory)
unfolding load_done
load_same names memory insn access places registers h =
    let bytes : loaded_from memory (places_to names places) ≡ loaded_from (own_of names memory) places = same_loaded names memory places h in
    let granule : first_granule (places_to names places) ≡ first_granule places = same_granule names places in
    record { answer = refl; registers = ap (λ bs. after_load insn access registers bs (first_granule (places_to names places))) bytes ∙ ap (after_load insn access registers (loaded_from (own_of names memory) places)) granule; own_memory = refl; other_memory = λ extent foreign. refl }

store_same : (names : List ℕ) (memory : List (List ℕ)) (insn : Insn) (places : List Place) (registers : Registers) → AreExtents names memory → AreKnown names places
    → IsSame names memory (store_done insn places registers (own_of names memory)) (store_done insn (places_to names places) registers memory)
unfolding store_done
store_same names memory insn places registers are h = record {
  answer = ap Answer.Retired (same_ranges names places);
  registers = refl;
  own_memory = same_stored names memory places _ are h;
  other_memory = λ extent foreign. foreign_stored names memory places _ extent h foreign;
}

conditional_same : (names : List ℕ) (memory : List (List ℕ)) (insn : Insn) (places : List Place) (registers : Registers) → AreExtents names memory → AreKnown names places
    → IsSame names memory (conditional_done insn places registers (own_of names memory)) (conditional_done insn (places_to names places) registers memory)
unfolding conditional_done
conditional_same names memory insn places registers are h =
    let granule : first_granule (places_to names places) ≡ first_granule places = same_granule names places in
    rw granule (by_choice names memory (holds registers (first_granule places)) _ _ _ _
    (record {
      answer = ap Answer.Retired (same_ranges names places);
      registers = refl;
      own_memory = same_stored names memory places _ are h;
      other_memory = λ extent foreign. foreign_stored names memory places _ extent h foreign;
    })
    (record { answer = refl; registers = refl; own_memory = refl; other_memory = λ extent foreign. refl }))

pub access_same : (names : List ℕ) (memory : List (List ℕ)) (insn : Insn) (access : Access) (places : List Place) (registers : Registers) → AreExtents names memory → AreKnown names places
    → IsSame names memory (access_done insn access places registers (own_of names memory)) (access_done insn access (places_to names places) registers memory)
unfolding access_done
access_same names memory insn access places registers are h =
    by_choice names memory (not access.store) _ _ _ _ (load_same names memory insn access places registers h)
    (by_form names memory access.form _ _ _ _ (conditional_same names memory insn places registers are h) (store_same names memory insn places registers are h))

pub fault_answer : (names : List ℕ) (store : Bool) (fault : Fault) → data_fault store fault ≡ answer_in names (data_fault store fault)
fault_answer names store (Missing ea) = refl
fault_answer names store (Denied ea) = refl
fault_answer names store (Reversed ea) = refl

places_same : (names : List ℕ) (memory : List (List ℕ)) (places : Result (List Place) Fault) (insn : Insn) (access : Access) (registers : Registers) → AreExtents names memory → IfOk places (AreKnown names)
    → IsSame names memory (done_unless places insn access registers (own_of names memory)) (done_unless (all_to names places) insn access registers memory)
places_same names memory (Err fault) insn access registers are h = still names memory registers _ (fault_answer names access.store fault)
places_same names memory (Ok places) insn access registers are h = access_same names memory insn access places registers are h

accessed_same : (names : List ℕ) (memory : List (List ℕ)) (regions extents : Lookup) (insn : Insn) (access : Access) (registers : Registers) → AreExtents names memory → IsNamed names regions extents
    → IsSame names memory (accessed regions insn access registers (own_of names memory)) (accessed extents insn access registers memory)
unfolding accessed
accessed_same names memory regions extents insn access registers are named =
    let space = data_space registers in
    let found_all : places_or_fault (extents space registers.pid) (access_permission access.store registers) (parts_of access.ea access.len)
    ≡ all_to names (places_or_fault (regions space registers.pid) (access_permission access.store registers) (parts_of access.ea access.len)) =
    all_found names (regions space registers.pid) (extents space registers.pid) (named.same space registers.pid) _ _ in
    by_choice names memory (is_aligned access.form && not (access.ea % 4 == 0)) _ _ _ _ (still names memory registers (Align access.ea access.store) refl)
    (subst (λ (r : Result (List Place) Fault). IsSame names memory (done_unless (places_or_fault (regions space registers.pid) (access_permission access.store registers) (parts_of access.ea access.len)) insn access registers (own_of names memory)) (done_unless r insn access registers memory)) (sym found_all)
    (places_same names memory _ insn access registers are (all_known names (regions space registers.pid) (named.known space registers.pid) _ _)))

pub privilege_answer : (names : List ℕ) (b : Bool) (insn : Insn) → cond b (Program privileged) (Priv insn) ≡ answer_in names (cond b (Program privileged) (Priv insn))
privilege_answer names true insn = refl
privilege_answer names false insn = refl

performed_same : (names : List ℕ) (memory : List (List ℕ)) (regions extents : Lookup) (insn : Insn) (effect : Effect) (after registers : Registers) → AreExtents names memory → IsNamed names regions extents
    → IsSame names memory (performed regions insn effect after registers (own_of names memory)) (performed extents insn effect after registers memory)
unfolding performed
performed_same names memory regions extents insn effect.Done after registers are named = still names memory after _ refl
performed_same names memory regions extents insn (effect.Memory access) after registers are named = accessed_same names memory regions extents insn access registers are named
performed_same names memory regions extents insn effect.Priv after registers are named = still names memory registers _ (privilege_answer names (in_problem_state registers) insn)
performed_same names memory regions extents insn effect.Trap after registers are named = still names memory registers _ refl
performed_same names memory regions extents insn effect.Illegal after registers are named = still names memory registers _ refl
performed_same names memory regions extents insn effect.NoFloat after registers are named = still names memory registers _ refl
performed_same names memory regions extents insn effect.Syscall after registers are named = still names memory registers _ refl
performed_same names memory regions extents insn effect.Hcall after registers are named = still names memory registers _ refl
performed_same names memory regions extents insn effect.Wait after registers are named = still names memory _ _ refl

instruction_same : (names : List ℕ) (memory : List (List ℕ)) (regions extents : Lookup) (insn : Insn) (registers : Registers) → AreExtents names memory → IsNamed names regions extents
    → IsSame names memory (instruction_done regions insn registers (own_of names memory)) (instruction_done extents insn registers memory)
unfolding instruction_done
instruction_same names memory regions extents insn registers are named = performed_same names memory regions extents insn _ _ registers are named

fetched_same : (names : List ℕ) (memory : List (List ℕ)) (place : Result Place Fault) (regions extents : Lookup) (registers : Registers) → AreExtents names memory → IsNamed names regions extents → IfOk place (IsKnown names)
    → IsSame names memory (fetched place regions registers (own_of names memory)) (fetched (found_to names place) extents registers memory)
fetched_same names memory (Err (Missing ea)) regions extents registers are named h = still names memory registers _ refl
fetched_same names memory (Err (Denied ea)) regions extents registers are named h = still names memory registers _ refl
fetched_same names memory (Err (Reversed ea)) regions extents registers are named h = still names memory registers _ refl
fetched_same names memory (Ok place) regions extents registers are named h =
    let word : number_at (own_of names memory) place.extent place.at 4 ≡ number_at memory (name_of names place.extent) place.at 4 =
    ap (λ (bytes : List ℕ). number_at (bytes ∷ []) 0 place.at 4) (own_extent names memory place.extent h) in
    subst (λ (w : ℕ). IsSame names memory (instruction_done regions (decoded w) registers (own_of names memory)) (instruction_done extents (decoded (number_at memory (name_of names place.extent) place.at 4)) registers memory)) (sym word)
    (instruction_same names memory regions extents _ registers are named)

pub steps_alone : StepsAlone
unfolding stepped
steps_alone names memory regions extents registers are named =
    let space = instruction_space registers in
    let part : Part = record { ea = registers.pc; len = 4 } in
    let place : place_or_fault (fetching (in_problem_state registers)) part (extents space registers.pid registers.pc)
    ≡ found_to names (place_or_fault (fetching (in_problem_state registers)) part (regions space registers.pid registers.pc)) =
    ap (place_or_fault (fetching (in_problem_state registers)) part) (named.same space registers.pid registers.pc) ∙ found names _ part (regions space registers.pid registers.pc) in
    subst (λ (r : Result Place Fault). IsSame names memory (fetched (place_or_fault (fetching (in_problem_state registers)) part (regions space registers.pid registers.pc)) regions registers (own_of names memory)) (fetched r extents registers memory)) (sym place)
    (fetched_same names memory _ regions extents registers are named (known names _ part _ (named.known space registers.pid registers.pc)))
