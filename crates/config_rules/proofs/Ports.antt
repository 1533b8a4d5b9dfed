-- Each handle of a configuration that breaks no rule is joined.
use Rattle.std.proofs.Common.{◌≡◌, ℕ, suc, ◌+◌, ◌≤◌, Bool, true, false, not, cond, ◌==◌, List, [], ◌∷◌, map, length, filter, Some, refl, sym, ap, subst, ◌∙◌, sum_by, arith}
use Rattle.std.specs.Prelude.{slice_get, count_by}
use Rattle.std.specs.List.{list_any}
use Rattle.std.specs.Option.{option_map_or}
use Rattle.std.specs.Str.{bytes_eq}
use Rattle.std.proofs.lemmas.Bool.{and_from, false_from_ne_true}
use Rattle.std.proofs.lemmas.Bool.Decides.{Decides-eqb}
use Rattle.std.proofs.lemmas.Option.{slice_get-map}
use Rattle.std.proofs.lemmas.List.Folds.{list_all-map}
use Rattle.hv_config.specs.declared.form.Kind.{Kind}
use Rattle.hv_config.specs.declared.form.Kind.TheVariants as kind
use Rattle.hv_config.specs.declared.config.ChannelDef.{ChannelDef}
use Rattle.hv_config.specs.declared.config.BellDef.{BellDef}
use Rattle.hv_config.specs.declared.config.GuestAreaDef.{GuestAreaDef}
use Rattle.hv_config.specs.declared.config.HandleDef.{HandleDef}
use Rattle.hv_config.specs.declared.config.PartDef.{PartDef}
use Rattle.hv_config.specs.declared.config.Config.{Config}
use Rattle.hv_config.specs.Plain.{IsPlain}
use Rattle.dt_model.specs.Kept.{are_apart}
use Rattle.machine_desc.specs.declared.wiring.PortRef.{PortRef}
use Rattle.machine_desc.specs.declared.wiring.Bell.{Bell}
use Rattle.machine_desc.specs.declared.desc.Region.{Region}
use Rattle.machine_desc.specs.declared.desc.Port.TheVariants as port
use Rattle.machine_desc.specs.Joined.{same_ref, ends_at, senders_at, receivers_at, is_bell_joined, are_bells_joined, same_spans, span_of as region_span, private_spans_of, are_private_spans, is_managed_as, is_part_managed_as, is_manager_of, is_manage_joined, is_port_joined, are_handles_joined, are_handles_joined_from, are_ports_joined}
use Rattle.config_checks.specs.Found.{is_part, has_target, is_private}
use Rattle.config_checks.specs.Managers.{manages}
use Rattle.config_descs.specs.Desc.{region_of, span_of, private_spans, manage_port, interrupts_of, kind_port, port_of, ports_from, desc_of, descs_of}
use Rattle.config_descs.specs.Wired.{same_kind, refs_of, bell_of, first_ref, manager_of, wiring_of}
use Rattle.config_rules.proofs.Lists.{count-cons, sum-equal, sum-of-map, all-at, all-true}
use Rattle.config_rules.proofs.Names.{found, Found, same_name, number-itself}
use Rattle.config_rules.proofs.Unique.{is_called, called-once, same-way}
use Rattle.config_rules.proofs.Refs.{ref_at, bit, refs-at, on_at}
use Rattle.config_rules.proofs.Handles.{sends-named, receives-named}
use Rattle.config_rules.proofs.Links.{links-ends}
use Rattle.config_rules.proofs.Managers.{managed-once}
use Rattle.config_rules.proofs.Kept.{Kept, handles_named, manages_others}
use Rattle.config_rules.proofs.Numbers.{same-bool}

-- ---- doorbells

bell-joined : (config : Config) (bell : BellDef) → is_bell_joined (descs_of config) (bell_of config.parts bell) ≡ true
unfolding bell_of
bell-joined config bell = and_from _ _ (sends-named config bell.name) (receives-named config bell.name)

pub bells-joined : (config : Config) → are_bells_joined (descs_of config) (wiring_of config) ≡ true
unfolding are_bells_joined wiring_of
bells-joined config =
    list_all-map (is_bell_joined (descs_of config)) (bell_of config.parts) config.bells
    ∙ all-true (λ (bell : BellDef). is_bell_joined (descs_of config) (bell_of config.parts bell)) (bell-joined config) config.bells

-- ---- counted once

-- a handle of a configuration, by its place
record At (config : Config) (k j : ℕ) (part : PartDef) (handle : HandleDef) : Type 0 where
  part_at : slice_get config.parts k ≡ Some part
  handle_at : slice_get part.handles j ≡ Some handle

same-itself : (kind : Kind) → same_kind kind kind ≡ true
same-itself kind.Channel = refl
same-itself kind.Send = refl
same-itself kind.Receive = refl
same-itself kind.Manage = refl

on-target : (config : Config) (k j : ℕ) (part : PartDef) (handle : HandleDef) → At config k j part handle → (kind : Kind) → handle.kind ≡ kind → (name : List ℕ)
    → on_at kind name config.parts k j ≡ bytes_eq name handle.target
on-target config k j part handle at kind same name =
    rw (at.part_at, at.handle_at, same, same-itself kind) (same-way handle.target name)

-- among what differs by name a handle is counted once, at what it stands for
sum-once : {X : Type 0} (config : Config) (k j : ℕ) (part : PartDef) (handle : HandleDef) → At config k j part handle → (kind : Kind) → handle.kind ≡ kind
    → (called : X → List ℕ) (xs : List X) → are_apart [] (map called xs) ≡ true → list_any (is_called called handle.target) xs ≡ true
    → sum_by (λ (x : X). count_by (same_ref (ref_at k (1 + j))) (refs_of config.parts kind (called x))) xs ≡ 1
sum-once {X} config k j part handle at kind same called xs apart any =
    sum-equal (λ (x : X). count_by (same_ref (ref_at k (1 + j))) (refs_of config.parts kind (called x))) (λ (x : X). bit (is_called called handle.target x))
    (λ x. refs-at kind (called x) config.parts k j ∙ ap bit (on-target config k j part handle at kind same (called x))) xs
    ∙ called-once called handle.target xs apart any

-- ---- each kind

equal-one : (n : ℕ) → n ≡ 1 → (n == 1) ≡ true
equal-one n e = (Decides-eqb n 1).1 e

target-named : (config : Config) → Kept config → (k j : ℕ) (part : PartDef) (handle : HandleDef) → At config k j part handle → has_target config handle.kind handle.target ≡ true
target-named config kept k j part handle at =
    all-at (λ (handle : HandleDef). has_target config handle.kind handle.target) part.handles j handle (all-at (handles_named config) config.parts k part kept.handles_named at.part_at) at.handle_at

channel-joined : (config : Config) → Kept config → IsPlain config → (k j : ℕ) (part : PartDef) (handle : HandleDef) → At config k j part handle → handle.kind ≡ kind.Channel
    → ends_at (ref_at k (1 + j)) (wiring_of config).links ≡ 1
unfolding wiring_of
channel-joined config kept plain k j part handle at same =
    let named = subst (λ (kind : Kind). has_target config kind handle.target ≡ true) same (target-named config kept k j part handle at) in
    links-ends config.parts (ref_at k (1 + j)) 0 config.channels kept.tight
    ∙ sum-once config k j part handle at kind.Channel same (λ (channel : ChannelDef). channel.name) config.channels plain.channels named

sender-joined : (config : Config) → Kept config → IsPlain config → (k j : ℕ) (part : PartDef) (handle : HandleDef) → At config k j part handle → handle.kind ≡ kind.Send
    → senders_at (ref_at k (1 + j)) (wiring_of config).bells ≡ 1
unfolding wiring_of bell_of senders_at
sender-joined config kept plain k j part handle at same =
    let named = subst (λ (kind : Kind). has_target config kind handle.target ≡ true) same (target-named config kept k j part handle at) in
    sum-of-map (λ (bell : Bell). count_by (same_ref (ref_at k (1 + j))) bell.senders) (bell_of config.parts) config.bells
    ∙ sum-once config k j part handle at kind.Send same (λ (bell : BellDef). bell.name) config.bells plain.bells named

receiver-joined : (config : Config) → Kept config → IsPlain config → (k j : ℕ) (part : PartDef) (handle : HandleDef) → At config k j part handle → handle.kind ≡ kind.Receive
    → receivers_at (ref_at k (1 + j)) (wiring_of config).bells ≡ 1
unfolding wiring_of bell_of receivers_at
receiver-joined config kept plain k j part handle at same =
    let named = subst (λ (kind : Kind). has_target config kind handle.target ≡ true) same (target-named config kept k j part handle at) in
    sum-of-map (λ (bell : Bell). count_by (same_ref (ref_at k (1 + j))) bell.receivers) (bell_of config.parts) config.bells
    ∙ sum-once config k j part handle at kind.Receive same (λ (bell : BellDef). bell.name) config.bells plain.bells named

-- ---- managers

spans-private : (config : Config) (guests : List GuestAreaDef)
    → same_spans (map (span_of config) (filter (λ (guest : GuestAreaDef). is_private config.parts guest.area) guests))
    (map region_span (filter (λ (region : Region). region.private) (map (region_of config) guests))) ≡ true
unfolding region_of span_of
spans-private config [] = refl
spans-private config (guest ∷ guests) =
    let below = spans-private config guests in
    elim (is_private config.parts guest.area) as (λ b.
    same_spans (map (span_of config) (cond b (guest ∷ filter (λ (guest : GuestAreaDef). is_private config.parts guest.area) guests) (filter (λ (guest : GuestAreaDef). is_private config.parts guest.area) guests)))
    (map region_span (cond b (region_of config guest ∷ filter (λ (region : Region). region.private) (map (region_of config) guests)) (filter (λ (region : Region). region.private) (map (region_of config) guests)))) ≡ true)
    [ true ↦ and_from _ _ (and_from _ _ (number-itself (span_of config guest).at) (number-itself (span_of config guest).size)) below | false ↦ below ]

managed-as : (config : Config) (part : PartDef) → is_managed_as part.held (private_spans config part) (desc_of config part) ≡ true
unfolding desc_of private_spans are_private_spans private_spans_of
managed-as config part = and_from _ _ (same-bool part.held) (spans-private config part.areas)

only-one : (p : PortRef → Bool) (refs : List PortRef) → length refs ≤ 1 → count_by p refs ≡ 1 → option_map_or p (first_ref refs) false ≡ true
only-one p [] few one = absurd (omega (arith, one))
only-one p (ref ∷ []) few one =
    let counted : bit (p ref) + count_by p [] ≡ 1 = sym (count-cons p ref []) ∙ one in
    elim (p ref) as (λ b. bit b + count_by p [] ≡ 1 → b ≡ true) [ true ↦ λ e. refl | false ↦ λ e. absurd (omega (arith, e)) ] counted
only-one p (ref ∷ other ∷ refs) few one = absurd (omega (arith, few))

abbrev FoundPart : Config → List ℕ → Type 0
FoundPart config name = Found PartDef (is_part name) config.parts

manage-port : (config : Config) (name : List ℕ) (f : FoundPart config name) → manage_port config name ≡ port.Manage f.place f.element.held (private_spans config f.element)
unfolding manage_port
manage-port config name f = rw (f.number, f.first) refl

other-part : (config : Config) → Kept config → (k j : ℕ) (part : PartDef) (handle : HandleDef) → At config k j part handle → handle.kind ≡ kind.Manage → (f : FoundPart config handle.target)
    → (f.place == k) ≡ false
other-part config kept k j part handle at same f = false_from_ne_true (f.place == k) (λ e.
    let place : f.place ≡ k = (Decides-eqb f.place k).0 e in
    let there : slice_get config.parts k ≡ Some f.element = subst (λ (n : ℕ). slice_get config.parts n ≡ Some f.element) place f.at in
    let element : f.element ≡ part = let here = at.part_at in cc in
    let own : bytes_eq handle.target part.name ≡ true = same-way handle.target part.name ∙ subst (λ (p : PartDef). bytes_eq p.name handle.target ≡ true) element f.passes in
    let none = all-at (λ (handle : HandleDef). not (manages part.name handle)) part.handles j handle (all-at manages_others config.parts k part kept.others at.part_at) at.handle_at in
    let yes : manages part.name handle ≡ true = rw (same, own) refl in
    cc)

manager-is : (config : Config) → Kept config → (k j : ℕ) (part : PartDef) (handle : HandleDef) → At config k j part handle → handle.kind ≡ kind.Manage → (f : FoundPart config handle.target)
    → is_manager_of (wiring_of config).managers (ref_at k (1 + j)) f.place ≡ true
unfolding wiring_of manager_of
manager-is config kept k j part handle at same f =
    let name : f.element.name ≡ handle.target = same_name f.element.name handle.target f.passes in
    let counted : count_by (same_ref (ref_at k (1 + j))) (refs_of config.parts kind.Manage f.element.name) ≡ 1 =
    refs-at kind.Manage f.element.name config.parts k j ∙ ap bit (on-target config k j part handle at kind.Manage same f.element.name ∙ f.passes) in
    rw (slice_get-map (manager_of config.parts) config.parts f.place, f.at)
    (only-one (same_ref (ref_at k (1 + j))) (refs_of config.parts kind.Manage f.element.name) (managed-once config kept f.element.name) counted)

managed-there : (config : Config) (name : List ℕ) (f : FoundPart config name) → is_part_managed_as (descs_of config) f.place f.element.held (private_spans config f.element) ≡ true
managed-there config name f = rw (slice_get-map (desc_of config) config.parts f.place, f.at) (managed-as config f.element)

manage-joined : (config : Config) → Kept config → (k j : ℕ) (part : PartDef) (handle : HandleDef) → At config k j part handle → handle.kind ≡ kind.Manage
    → is_port_joined (descs_of config) (wiring_of config) (ref_at k (1 + j)) (manage_port config handle.target) ≡ true
unfolding is_port_joined is_manage_joined
manage-joined config kept k j part handle at same =
    let named = subst (λ (kind : Kind). has_target config kind handle.target ≡ true) same (target-named config kept k j part handle at) in
    let f = found (is_part handle.target) config.parts named in
    rw (manage-port config handle.target f)
    (and_from _ _ (and_from _ _ (rw (other-part config kept k j part handle at same f) refl) (managed-there config handle.target f)) (manager-is config kept k j part handle at same f))

-- ---- all handles

port-joined : (config : Config) → Kept config → IsPlain config → (k j n : ℕ) (part : PartDef) (handle : HandleDef) → At config k j part handle
    → is_port_joined (descs_of config) (wiring_of config) (ref_at k (1 + j)) (port_of config n handle) ≡ true
unfolding is_port_joined
port-joined config kept plain k j n part handle at =
    let cases : (sort : Kind) → handle.kind ≡ sort → is_port_joined (descs_of config) (wiring_of config) (ref_at k (1 + j)) (kind_port config n sort handle.target) ≡ true =
    λ sort. elim sort as (λ sort. handle.kind ≡ sort → is_port_joined (descs_of config) (wiring_of config) (ref_at k (1 + j)) (kind_port config n sort handle.target) ≡ true) [
      | kind.Channel ↦ λ same. equal-one _ (channel-joined config kept plain k j part handle at same)
      | kind.Send ↦ λ same. equal-one _ (sender-joined config kept plain k j part handle at same)
      | kind.Receive ↦ λ same. equal-one _ (receiver-joined config kept plain k j part handle at same)
      | kind.Manage ↦ λ same. manage-joined config kept k j part handle at same
    ] in
    cases handle.kind refl

in-joined : (config : Config) (k number next : ℕ) (handles : List HandleDef)
    → ((j n : ℕ) (handle : HandleDef) → slice_get handles j ≡ Some handle → is_port_joined (descs_of config) (wiring_of config) (ref_at k (number + j)) (port_of config n handle) ≡ true)
    → are_handles_joined (descs_of config) (wiring_of config) k number (ports_from config next handles) ≡ true
in-joined config k number next [] at = refl
in-joined config k number next (handle ∷ handles) at =
    let first : number + 0 ≡ number = omega arith in
    let below = in-joined config k (number + 1) (next + interrupts_of handle.kind) handles (λ j n other e.
    let same : number + suc j ≡ (number + 1) + j = omega arith in
    subst (λ (m : ℕ). is_port_joined (descs_of config) (wiring_of config) (ref_at k m) (port_of config n other) ≡ true) same (at (suc j) n other e)) in
    and_from _ _ (subst (λ (m : ℕ). is_port_joined (descs_of config) (wiring_of config) (ref_at k m) (port_of config next handle) ≡ true) first (at 0 next handle refl)) below

from-joined : (config : Config) (number : ℕ) (parts : List PartDef)
    → ((k : ℕ) (part : PartDef) → slice_get parts k ≡ Some part → are_handles_joined (descs_of config) (wiring_of config) (number + k) 1 (ports_from config 0 part.handles) ≡ true)
    → are_handles_joined_from (descs_of config) (wiring_of config) number (map (desc_of config) parts) ≡ true
unfolding desc_of
from-joined config number [] at = refl
from-joined config number (part ∷ parts) at =
    let first : number + 0 ≡ number = omega arith in
    let below = from-joined config (number + 1) parts (λ k other e.
    let same : number + suc k ≡ (number + 1) + k = omega arith in
    subst (λ (m : ℕ). are_handles_joined (descs_of config) (wiring_of config) m 1 (ports_from config 0 other.handles) ≡ true) same (at (suc k) other e)) in
    and_from _ _ (subst (λ (m : ℕ). are_handles_joined (descs_of config) (wiring_of config) m 1 (ports_from config 0 part.handles) ≡ true) first (at 0 part refl)) below

pub ports-joined : (config : Config) → Kept config → IsPlain config → are_ports_joined (descs_of config) (wiring_of config) ≡ true
unfolding are_ports_joined
ports-joined config kept plain =
    from-joined config 0 config.parts (λ k part e.
    let same : k ≡ 0 + k = omega arith in
    subst (λ (m : ℕ). are_handles_joined (descs_of config) (wiring_of config) m 1 (ports_from config 0 part.handles) ≡ true) same
    (in-joined config k 1 0 part.handles (λ j n handle f. port-joined config kept plain k j n part handle (record { part_at = e; handle_at = f }))))
