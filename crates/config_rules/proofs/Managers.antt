-- Managers of a configuration that breaks no rule.
use Rattle.std.proofs.Common.{◌≡◌, ℕ, suc, ◌+◌, ◌≤◌, Bool, true, false, ◌&&◌, ◌||◌, cond, ◌==◌, List, [], ◌∷◌, ◌++◌, map, length, Some, None, refl, ap, subst, ◌∙◌, sum_by, arith}
use Rattle.std.specs.Prelude.{slice_get, count_by, position}
use Rattle.std.specs.List.{list_all, list_any}
use Rattle.std.specs.Option.{option_map_or}
use Rattle.std.specs.Str.{bytes_eq}
use Rattle.std.proofs.lemmas.Bool.{and_parts, and_from}
use Rattle.std.proofs.lemmas.List.Sums.{sum_by-cons}
use Rattle.std.proofs.lemmas.Iterator.Adapters.{position_from-zero}
use Rattle.hv_config.specs.declared.form.Kind.{Kind}
use Rattle.hv_config.specs.declared.form.Kind.TheVariants as kind
use Rattle.hv_config.specs.declared.config.HandleDef.{HandleDef}
use Rattle.hv_config.specs.declared.config.PartDef.{PartDef}
use Rattle.hv_config.specs.declared.config.Config.{Config}
use Rattle.hv_config.specs.Plain.{part_names, IsPlain}
use Rattle.dt_model.specs.Kept.{are_apart}
use Rattle.machine_desc.specs.declared.wiring.PortRef.{PortRef}
use Rattle.machine_desc.specs.Joined.{names_port, is_manager, is_manager_right, are_managers_right, are_managers_joined}
use Rattle.config_checks.specs.First.{first_from}
use Rattle.config_checks.specs.Found.{is_part}
use Rattle.config_checks.specs.Managers.{is_manage, manages, has_manager, is_second, second_at, second_in}
use Rattle.config_descs.specs.Numbered.{number_of}
use Rattle.config_descs.specs.Desc.{desc_of, descs_of}
use Rattle.config_descs.specs.Wired.{same_kind, is_on, refs_of, first_ref, manager_of, wiring_of}
use Rattle.config_rules.proofs.Lists.{option_or-none, found_if-none, length-map, count-cons, count-equal, sum-equal, any-push, count-none}
use Rattle.config_rules.proofs.Names.{same_name, number-itself}
use Rattle.config_rules.proofs.Unique.{number-from}
use Rattle.config_rules.proofs.Refs.{refs-length}
use Rattle.config_rules.proofs.Handles.{managers-named}
use Rattle.config_rules.proofs.Kept.{Kept}
use Rattle.config_rules.proofs.Numbers.{none-and, or-none}

-- ---- each partition's

-- a partition's name has the partition's number
pub number-at : (parts : List PartDef) (i : ℕ) (part : PartDef) → are_apart [] (part_names parts) ≡ true → slice_get parts i ≡ Some part → number_of parts part.name ≡ i
number-at parts i part apart at =
    let there = (number-from (λ (part : PartDef). part.name) [] 0 i parts part apart at).0 in
    let same : 0 + i ≡ i = omega arith in
    let place : position (is_part part.name) parts ≡ Some i = position_from-zero (is_part part.name) parts ∙ there ∙ ap (λ (n : ℕ). Some n) same in
    rw place refl

first-passes : (p : PortRef → Bool) (refs : List PortRef) → list_all p refs ≡ true → option_map_or p (first_ref refs) true ≡ true
first-passes p [] e = refl
first-passes p (ref ∷ refs) e = (and_parts (p ref) (list_all p refs) e).0

manager-right : (config : Config) → IsPlain config → (i : ℕ) (part : PartDef) → slice_get config.parts i ≡ Some part
    → is_manager_right (descs_of config) i (manager_of config.parts part) ≡ true
unfolding manager_of
manager-right config plain i part at =
    first-passes (names_port (is_manager i) (descs_of config)) (refs_of config.parts kind.Manage part.name) (managers-named config part.name i (number-at config.parts i part plain.parts at))

managers-right-from : (config : Config) (number : ℕ) (parts : List PartDef)
    → ((i : ℕ) (part : PartDef) → slice_get parts i ≡ Some part → is_manager_right (descs_of config) (number + i) (manager_of config.parts part) ≡ true)
    → are_managers_right (descs_of config) number (map (manager_of config.parts) parts) ≡ true
managers-right-from config number [] at = refl
managers-right-from config number (part ∷ parts) at =
    let first : number + 0 ≡ number = omega arith in
    let below = managers-right-from config (number + 1) parts (λ i other e.
    let same : number + suc i ≡ (number + 1) + i = omega arith in
    subst (λ (n : ℕ). is_manager_right (descs_of config) n (manager_of config.parts other) ≡ true) same (at (suc i) other e)) in
    and_from _ _ (subst (λ (n : ℕ). is_manager_right (descs_of config) n (manager_of config.parts part) ≡ true) first (at 0 part refl)) below

as-many : (config : Config) → (length (map (manager_of config.parts) config.parts) == length (descs_of config)) ≡ true
as-many config = rw (length-map (manager_of config.parts) config.parts, length-map (desc_of config) config.parts) (number-itself (length config.parts))

pub managers-joined : (config : Config) → IsPlain config → are_managers_joined (descs_of config) (wiring_of config) ≡ true
unfolding are_managers_joined wiring_of
managers-joined config plain =
    and_from _ _ (as-many config) (managers-right-from config 0 config.parts (λ i part at.
    let same : i ≡ 0 + i = omega arith in
    subst (λ (n : ℕ). is_manager_right (descs_of config) n (manager_of config.parts part) ≡ true) same (manager-right config plain i part at)))

-- ---- at most one

same-kinds : (k : Kind) → same_kind k kind.Manage ≡ is_manage k
same-kinds kind.Channel = refl
same-kinds kind.Send = refl
same-kinds kind.Receive = refl
same-kinds kind.Manage = refl

same-handles : (name : List ℕ) (handle : HandleDef) → is_on kind.Manage name handle ≡ manages name handle
same-handles name handle = rw (same-kinds handle.kind) refl

-- what is left for later handles
abbrev left : Bool → ℕ
left seen = cond seen 0 1

second-none : (parts : List PartDef) (part : PartDef) (before : List HandleDef) (handle : HandleDef) (name : List ℕ) → second_at parts part before handle ≡ None → manages name handle ≡ true
    → (list_any (manages name) before || list_any (has_manager name) parts) ≡ false
second-none parts part before handle name e m =
    let both = and_parts (is_manage handle.kind) (bytes_eq handle.target name) m in
    let same : handle.target ≡ name = same_name handle.target name both.1 in
    let none : is_second parts before handle ≡ false = found_if-none _ _ e in
    let rest : (is_manage handle.kind && (list_any (manages name) before || list_any (has_manager name) parts)) ≡ false =
    subst (λ (t : List ℕ). (is_manage handle.kind && (list_any (manages t) before || list_any (has_manager t) parts)) ≡ false) same none in
    subst (λ (b : Bool). (b && (list_any (manages name) before || list_any (has_manager name) parts)) ≡ false) both.0 rest

or-true : (b : Bool) → (b || true) ≡ true
or-true true = refl
or-true false = refl

in-limit : (name : List ℕ) (parts : List PartDef) (part : PartDef) (before handles : List HandleDef) → first_from (second_at parts part) before handles ≡ None
    → count_by (manages name) handles ≤ left (list_any (manages name) before || list_any (has_manager name) parts)
in-limit name parts part before [] e = omega arith
in-limit name parts part before (handle ∷ handles) e =
    let both = option_or-none (second_at parts part before handle) (first_from (second_at parts part) (before ++ handle ∷ []) handles) e in
    let below = in-limit name parts part (before ++ handle ∷ []) handles both.1 in
    let pushed : list_any (manages name) (before ++ handle ∷ []) ≡ (list_any (manages name) before || manages name handle) = any-push (manages name) before handle in
    let count = count-cons (manages name) handle handles in
    let others = list_any (has_manager name) parts in
    let seen = list_any (manages name) before in
    let later : count_by (manages name) handles ≤ left ((seen || manages name handle) || others) =
    subst (λ (b : Bool). count_by (manages name) handles ≤ left (b || others)) pushed below in
    elim (manages name handle) as (λ b. manages name handle ≡ b → count_by (manages name) handles ≤ left ((seen || b) || others) → count_by (manages name) (handle ∷ handles) ≤ left (seen || others)) [
      | true ↦ λ m later.
          let none : (seen || others) ≡ false = second-none parts part before handle name both.0 m in
          let few : count_by (manages name) handles ≤ 0 = subst (λ (b : Bool). count_by (manages name) handles ≤ left (b || others)) (or-true seen) later in
          rw (count, m, none) (omega (arith, few))
      | false ↦ λ m later.
          let few : count_by (manages name) handles ≤ left (seen || others) = subst (λ (b : Bool). count_by (manages name) handles ≤ left (b || others)) (or-none seen) later in
          rw (count, m, none-and (count_by (manages name) handles)) few
    ] refl later

combine : (seen here : Bool) (m n : ℕ) → m ≤ left seen → (here ≡ false → m ≡ 0) → n ≤ left (seen || here) → m + n ≤ left seen
combine true here m n a b c = omega (arith, a, c)
combine false true m n a b c = omega (arith, a, c)
combine false false m n a b c = let none = b refl in omega (arith, none, c)

-- how many handles of the partition manage it
abbrev managing : List ℕ → PartDef → ℕ
managing name part = count_by (manages name) part.handles

from-limit : (name : List ℕ) (before parts : List PartDef) → first_from second_in before parts ≡ None → sum_by (managing name) parts ≤ left (list_any (has_manager name) before)
from-limit name before [] e = omega arith
from-limit name before (part ∷ parts) e =
    let both = option_or-none (second_in before part) (first_from second_in (before ++ part ∷ []) parts) e in
    let here = in-limit name before part [] part.handles both.0 in
    let below = subst (λ (b : Bool). sum_by (managing name) parts ≤ left b) (any-push (has_manager name) before part) (from-limit name (before ++ part ∷ []) parts both.1) in
    rw (sum_by-cons (managing name) part parts)
    (combine (list_any (has_manager name) before) (has_manager name part) (managing name part) (sum_by (managing name) parts) here (count-none (manages name) part.handles) below)

pub managed-once : (config : Config) → Kept config → (name : List ℕ) → length (refs_of config.parts kind.Manage name) ≤ 1
managed-once config kept name =
    rw (
      refs-length kind.Manage name config.parts,
      sum-equal (λ (part : PartDef). count_by (is_on kind.Manage name) part.handles) (managing name) (λ part. count-equal (is_on kind.Manage name) (manages name) (same-handles name) part.handles) config.parts,
    )
    (from-limit name [] config.parts kept.managed_once)
