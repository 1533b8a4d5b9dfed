-- How many touches there are, and that each has a page.
use Rattle.std.proofs.Common.{◌≡◌, ℕ, ◌+◌, ◌≤◌, ◌%◌, ◌==◌, Bool, true, false, cond, not, ◌&&◌, nat_le, List, [], ◌∷◌, length, Option, Some, None, Result, Ok, Err, IsSome, is_some, refl, ap, arith}
use Rattle.guest_regs.specs.Registers.{Registers, data_space, in_problem_state}
use Rattle.insn_alu.specs.declared.effect.Effect.{Effect}
use Rattle.insn_alu.specs.declared.effect.Effect.TheVariants as effect
use Rattle.insn_alu.specs.declared.effect.Access.{Access}
use Rattle.insn_alu.specs.Exec.{exec_of}
use Rattle.ground.specs.Extents.{number_at}
use Rattle.core_step.specs.declared.look.Page.{Page}
use Rattle.core_step.specs.declared.access.Part.{Part}
use Rattle.core_step.specs.declared.access.Place.{Place}
use Rattle.core_step.specs.declared.access.Fault.{Fault}
use Rattle.core_step.specs.declared.access.Fault.TheVariants.{Denied, Reversed}
use Rattle.core_step.specs.Pages.{Lookup}
use Rattle.core_step.specs.Access.{parts_of, room_from, fetching, allows, place_in, place_or_fault}
use Rattle.core_step.specs.Step.{is_aligned, access_permission, decoded}
use Rattle.core_step.specs.Touches.{Touch, touch_at, page_for, touching, parts_touched, access_touched, effect_touched, after_fetch, fetch_touch, touches, AreFound, TouchesAreFew, TouchesAreFound}

-- touches of which there are so few, and that all have pages
record Good (lookup : Lookup) (most : ℕ) (all : List Touch) : Type 0 where
  few : length all ≤ most
  found : AreFound lookup all

none_good : (lookup : Lookup) (most : ℕ) → Good lookup most []
none_good lookup most = record { few = omega arith; found = tt }

one_more : (lookup : Lookup) (most : ℕ) (t : Touch) (all : List Touch) → IsSome (page_for lookup t) → Good lookup most all → Good lookup (most + 1) (t ∷ all)
one_more lookup most t all h k = record { few = omega (arith, k.few); found = (h, k.found) }

choice_good : (lookup : Lookup) (most : ℕ) (t : Touch) (denied little : Bool) (place : Place) (ea : ℕ) (later : List Touch) → IsSome (page_for lookup t) → Good lookup most later
    → Good lookup (most + 1) (touching t (cond denied (Err (Denied ea)) (cond little (Err (Reversed ea)) (Ok place))) later)
choice_good lookup most t true little place ea later h k = one_more lookup most t [] h (none_good lookup most)
choice_good lookup most t false true place ea later h k = one_more lookup most t [] h (none_good lookup most)
choice_good lookup most t false false place ea later h k = one_more lookup most t later h k

touching_good : (lookup : Lookup) (most permission : ℕ) (part : Part) (t : Touch) (page : Option Page) (later : List Touch) → page_for lookup t ≡ page → Good lookup most later
    → Good lookup (most + 1) (touching t (place_or_fault permission part page) later)
unfolding place_or_fault
touching_good lookup most permission part t None later e k = none_good lookup (most + 1)
touching_good lookup most permission part t (Some p) later e k =
    choice_good lookup most t (not (allows p permission)) p.little (place_in p part) part.ea later (ap (λ (o : Option Page). is_some o) e) k

parts_good : (lookup : Lookup) (space : Bool) (pid permission : ℕ) (parts : List Part) → Good lookup (length parts) (parts_touched lookup space pid permission parts)
parts_good lookup space pid permission [] = none_good lookup 0
parts_good lookup space pid permission (part ∷ parts) =
    let h = touching_good lookup (length parts) permission part (touch_at space pid part.ea) (lookup space pid part.ea) _ refl (parts_good lookup space pid permission parts) in
    record { few = omega (arith, h.few); found = h.found }

two_by : (b : Bool) (one first second : Part) → length (cond b (one ∷ []) (first ∷ second ∷ [])) ≤ 2
two_by true one first second = omega arith
two_by false one first second = omega arith

two_parts : (ea len : ℕ) → length (parts_of ea len) ≤ 2
unfolding parts_of
two_parts ea len = two_by (nat_le len (room_from ea)) _ _ _

more : (lookup : Lookup) (few most : ℕ) (all : List Touch) → few ≤ most → Good lookup few all → Good lookup most all
more lookup few most all le h = record { few = omega (arith, h.few); found = h.found }

aligned_good : (b : Bool) (lookup : Lookup) (most : ℕ) (all : List Touch) → Good lookup most all → Good lookup most (cond b [] all)
aligned_good true lookup most all h = none_good lookup most
aligned_good false lookup most all h = h

access_good : (lookup : Lookup) (access : Access) (registers : Registers) → Good lookup 2 (access_touched lookup access registers)
unfolding access_touched
access_good lookup access registers =
    aligned_good (is_aligned access.form && not (access.ea % 4 == 0)) lookup 2 _
    (more lookup (length (parts_of access.ea access.len)) 2 _ (two_parts access.ea access.len)
    (parts_good lookup (data_space registers) registers.pid (access_permission access.store registers) (parts_of access.ea access.len)))

effect_good : (lookup : Lookup) (effect : Effect) (registers : Registers) → Good lookup 2 (effect_touched lookup effect registers)
unfolding effect_touched
effect_good lookup (effect.Memory access) registers = access_good lookup access registers
effect_good lookup _ registers = none_good lookup 2

after_good : (lookup : Lookup) (place : Result Place Fault) (registers : Registers) (memory : List (List ℕ)) → Good lookup 2 (after_fetch lookup place registers memory)
after_good lookup (Err fault) registers memory = none_good lookup 2
after_good lookup (Ok place) registers memory =
    let insn = decoded (number_at memory place.extent place.at 4) in effect_good lookup (exec_of insn.op insn.word registers).effect registers

all_good : (lookup : Lookup) (registers : Registers) (memory : List (List ℕ)) → Good lookup 3 (touches lookup registers memory)
unfolding touches
all_good lookup registers memory =
    let part : Part = record { ea = registers.pc; len = 4 } in
    touching_good lookup 2 (fetching (in_problem_state registers)) part (fetch_touch registers) (page_for lookup (fetch_touch registers)) _ refl (after_good lookup _ registers memory)

pub touches_are_few_all : TouchesAreFew
touches_are_few_all lookup registers memory = (all_good lookup registers memory).few

pub touches_are_found_all : TouchesAreFound
touches_are_found_all lookup registers memory = (all_good lookup registers memory).found
