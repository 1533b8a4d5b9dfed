-- Descriptions are joined exactly as they are without entries and pieces, where they can be started from.
use Rattle.std.proofs.Common.{◌≡◌, ℕ, ◌+◌, ◌-◌, ◌%◌, Bool, true, false, ◌&&◌, ◌==◌, List, [], ◌∷◌, map, length, Option, Some, None, refl, sym, ap, subst, ◌∙◌}
use Rattle.std.specs.Prelude.{slice_get, count_by, nat_le, nat_lt}
use Rattle.std.specs.List.{list_all}
use Rattle.std.specs.Option.{option_map, option_map_or}
use Rattle.std.proofs.lemmas.Bool.{and_parts, and_from}
use Rattle.std.proofs.lemmas.Option.{slice_get-map}
use Rattle.std.proofs.lemmas.List.Folds.{list_all-map}
use Rattle.machine_desc.specs.declared.desc.Region.{Region}
use Rattle.machine_desc.specs.declared.desc.Span.{Span}
use Rattle.machine_desc.specs.declared.desc.Port.{Port}
use Rattle.machine_desc.specs.declared.desc.Port.TheVariants as port
use Rattle.machine_desc.specs.declared.desc.Desc.{Desc}
use Rattle.machine_desc.specs.declared.wiring.PortRef.{PortRef}
use Rattle.machine_desc.specs.declared.wiring.End.{End}
use Rattle.machine_desc.specs.declared.wiring.End.TheVariants as end
use Rattle.machine_desc.specs.declared.wiring.Link.{Link}
use Rattle.machine_desc.specs.declared.wiring.Bell.{Bell}
use Rattle.machine_desc.specs.declared.wiring.Wiring.{Wiring}
use Rattle.machine_desc.specs.Limits.{most_partitions, mapped_end}
use Rattle.machine_desc.specs.Ranges.{none_meets}
use Rattle.machine_desc.specs.Sound.{are_regions_sound, are_counts_kept, are_numbered, is_start_mapped, has_private_spin_entry, are_spin_entries_private, is_private_piece, is_sound}
use Rattle.machine_desc.specs.Joined.{same_number, share_core, are_cores_apart, names_extent, is_region_joined, are_regions_joined, port_at, is_channel, is_send, is_receive, is_manager, names_port, is_end, is_link_joined, are_links_joined, is_bell_joined, are_bells_joined, is_managed_as, is_part_managed_as, is_manage_joined, is_manager_right, are_managers_right, are_managers_joined, is_port_joined, are_handles_joined, are_handles_joined_from, are_ports_joined, are_joined}
use Rattle.config_rules.specs.Completed.{stripped, is_startable}
use Rattle.config_rules.proofs.Lists.{all-both, all-equal, none_meets-map, count-map, length-map}

-- ---- soundness

start-stripped : (desc : Desc) → is_startable desc ≡ true → is_start_mapped (stripped desc) ≡ true → is_start_mapped desc ≡ true
unfolding stripped is_startable is_start_mapped
start-stripped desc starts mapped =
    let start = and_parts (nat_lt desc.entry mapped_end && desc.entry % 4 == 0) (list_all (is_private_piece desc.regions) desc.pieces) starts in
    let entry = and_parts (nat_lt desc.entry mapped_end) (desc.entry % 4 == 0) start.0 in
    let tree = and_parts (nat_lt desc.tree_at mapped_end && nat_lt 0 mapped_end) (0 % 4 == 0) mapped in
    and_from _ _ (and_from _ _ (and_parts (nat_lt desc.tree_at mapped_end) (nat_lt 0 mapped_end) tree.0).0 entry.0) entry.1

spins-stripped : (desc : Desc) → are_spin_entries_private (stripped desc) ≡ true → are_spin_entries_private desc ≡ true
unfolding stripped are_spin_entries_private has_private_spin_entry
spins-stripped desc e = e

counts-stripped : (desc : Desc) → are_counts_kept (stripped desc) ≡ true → are_counts_kept desc ≡ true
unfolding stripped are_counts_kept
counts-stripped desc e = e

pieces-startable : (desc : Desc) → is_startable desc ≡ true → list_all (is_private_piece desc.regions) desc.pieces ≡ true
unfolding is_startable
pieces-startable desc e = (and_parts (nat_lt desc.entry mapped_end && desc.entry % 4 == 0) (list_all (is_private_piece desc.regions) desc.pieces) e).1

same-regions : (desc : Desc) → (stripped desc).regions ≡ desc.regions
unfolding stripped
same-regions desc = refl

same-ports : (desc : Desc) → (stripped desc).ports ≡ desc.ports
unfolding stripped
same-ports desc = refl

sound-stripped : (desc : Desc) → is_sound (stripped desc) ≡ true → is_startable desc ≡ true → is_sound desc ≡ true
unfolding is_sound
sound-stripped desc sound starts =
    let a = and_parts _ _ sound in
    let b = and_parts _ _ a.0 in
    let c = and_parts _ _ b.0 in
    let d = and_parts _ _ c.0 in
    let e = and_parts _ _ d.0 in
    let regions : are_regions_sound desc.regions ≡ true = subst (λ (regions : List Region). are_regions_sound regions ≡ true) (same-regions desc) e.0 in
    let numbers : are_numbered desc.ports ≡ true = subst (λ (ports : List Port). are_numbered ports ≡ true) (same-ports desc) d.1 in
    and_from _ _ (and_from _ _ (and_from _ _ (and_from _ _ (and_from _ _ regions (counts-stripped desc e.1)) numbers) (start-stripped desc starts c.1)) (spins-stripped desc b.1)) (pieces-startable desc starts)

-- ---- cores and regions

cores-stripped : (descs : List Desc) → are_cores_apart (map stripped descs) ≡ are_cores_apart descs
unfolding are_cores_apart stripped
cores-stripped descs =
    rw (list_all-map (λ (desc : Desc). none_meets same_number [] desc.cores) stripped descs, none_meets-map stripped share_core [] descs) refl

names-stripped : (descs : List Desc) (extent : ℕ) → count_by (names_extent extent) (map stripped descs) ≡ count_by (names_extent extent) descs
unfolding stripped
names-stripped descs extent = count-map stripped (names_extent extent) descs

region-stripped : (descs : List Desc) (wiring : Wiring) (region : Region) → is_region_joined (map stripped descs) wiring region ≡ is_region_joined descs wiring region
unfolding is_region_joined
region-stripped descs wiring region = rw (names-stripped descs region.extent) refl

regions-stripped : (descs : List Desc) (wiring : Wiring) → are_regions_joined (map stripped descs) wiring ≡ are_regions_joined descs wiring
unfolding are_regions_joined stripped
regions-stripped descs wiring =
    list_all-map (λ (desc : Desc). list_all (is_region_joined (map stripped descs) wiring) desc.regions) stripped descs
    ∙ all-equal (λ (desc : Desc). list_all (is_region_joined (map stripped descs) wiring) desc.regions) (λ (desc : Desc). list_all (is_region_joined descs wiring) desc.regions)
    (λ desc. all-equal (is_region_joined (map stripped descs) wiring) (is_region_joined descs wiring) (region-stripped descs wiring) desc.regions) descs

-- ---- handles

port-stripped : (descs : List Desc) (ref : PortRef) → port_at (map stripped descs) ref ≡ port_at descs ref
unfolding stripped
port-stripped descs ref =
    let cases : (o : Option Desc) → option_map_or (λ (desc : Desc). slice_get desc.ports (ref.handle - 1)) (option_map stripped o) None ≡ option_map_or (λ (desc : Desc). slice_get desc.ports (ref.handle - 1)) o None =
    λ o. elim o as (λ o. option_map_or (λ (desc : Desc). slice_get desc.ports (ref.handle - 1)) (option_map stripped o) None ≡ option_map_or (λ (desc : Desc). slice_get desc.ports (ref.handle - 1)) o None)
    [ None ↦ refl | Some desc ↦ refl ] in
    rw (slice_get-map stripped descs ref.part, cases (slice_get descs ref.part)) refl

port-named : (descs : List Desc) (sort : Port → Bool) (ref : PortRef) → names_port sort (map stripped descs) ref ≡ names_port sort descs ref
port-named descs sort ref = ap (λ (o : Option Port). option_map_or sort o false) (port-stripped descs ref)

end-stripped : (descs : List Desc) (wiring : Wiring) (e : End) → is_end (map stripped descs) wiring e ≡ is_end descs wiring e
end-stripped descs wiring (end.Part ref) = port-named descs is_channel ref
end-stripped descs wiring (end.Console number) = refl

link-stripped : (descs : List Desc) (wiring : Wiring) (link : Link) → is_link_joined (map stripped descs) wiring link ≡ is_link_joined descs wiring link
link-stripped descs wiring link = rw (end-stripped descs wiring link.a, end-stripped descs wiring link.b) refl

links-stripped : (descs : List Desc) (wiring : Wiring) → are_links_joined (map stripped descs) wiring ≡ are_links_joined descs wiring
unfolding are_links_joined
links-stripped descs wiring = rw (all-equal (is_link_joined (map stripped descs) wiring) (is_link_joined descs wiring) (link-stripped descs wiring) wiring.links) refl

bell-stripped : (descs : List Desc) (bell : Bell) → is_bell_joined (map stripped descs) bell ≡ is_bell_joined descs bell
bell-stripped descs bell =
    rw (
      all-equal (names_port is_send (map stripped descs)) (names_port is_send descs) (port-named descs is_send) bell.senders,
      all-equal (names_port is_receive (map stripped descs)) (names_port is_receive descs) (port-named descs is_receive) bell.receivers,
    ) refl

bells-stripped : (descs : List Desc) (wiring : Wiring) → are_bells_joined (map stripped descs) wiring ≡ are_bells_joined descs wiring
unfolding are_bells_joined
bells-stripped descs wiring = all-equal (is_bell_joined (map stripped descs)) (is_bell_joined descs) (bell-stripped descs) wiring.bells

-- ---- managers

right-stripped : (descs : List Desc) (part : ℕ) (manager : Option PortRef) → is_manager_right (map stripped descs) part manager ≡ is_manager_right descs part manager
right-stripped descs part None = refl
right-stripped descs part (Some ref) = port-named descs (is_manager part) ref

rights-stripped : (descs : List Desc) (part : ℕ) (managers : List (Option PortRef)) → are_managers_right (map stripped descs) part managers ≡ are_managers_right descs part managers
rights-stripped descs part [] = refl
rights-stripped descs part (manager ∷ managers) = rw (right-stripped descs part manager, rights-stripped descs (part + 1) managers) refl

managers-stripped : (descs : List Desc) (wiring : Wiring) → are_managers_joined (map stripped descs) wiring ≡ are_managers_joined descs wiring
unfolding are_managers_joined
managers-stripped descs wiring = rw (length-map stripped descs, rights-stripped descs 0 wiring.managers) refl

managed-stripped : (descs : List Desc) (number : ℕ) (held : Bool) (private : List Span) → is_part_managed_as (map stripped descs) number held private ≡ is_part_managed_as descs number held private
unfolding stripped
managed-stripped descs number held private =
    let cases : (o : Option Desc) → option_map_or (is_managed_as held private) (option_map stripped o) false ≡ option_map_or (is_managed_as held private) o false =
    λ o. elim o as (λ o. option_map_or (is_managed_as held private) (option_map stripped o) false ≡ option_map_or (is_managed_as held private) o false) [ None ↦ refl | Some desc ↦ refl ] in
    rw (slice_get-map stripped descs number) (cases (slice_get descs number))

manage-stripped : (descs : List Desc) (wiring : Wiring) (ref : PortRef) (part : ℕ) (held : Bool) (private : List Span)
    → is_manage_joined (map stripped descs) wiring ref part held private ≡ is_manage_joined descs wiring ref part held private
unfolding is_manage_joined
manage-stripped descs wiring ref part held private = rw (managed-stripped descs part held private) refl

-- ---- all handles

joined-stripped : (descs : List Desc) (wiring : Wiring) (ref : PortRef) (p : Port) → is_port_joined (map stripped descs) wiring ref p ≡ is_port_joined descs wiring ref p
unfolding is_port_joined
joined-stripped descs wiring ref (port.Channel rx tx) = refl
joined-stripped descs wiring ref port.Send = refl
joined-stripped descs wiring ref (port.Receive irq) = refl
joined-stripped descs wiring ref (port.Manage part held private) = manage-stripped descs wiring ref part held private

handles-stripped : (descs : List Desc) (wiring : Wiring) (part handle : ℕ) (ports : List Port) → are_handles_joined (map stripped descs) wiring part handle ports ≡ are_handles_joined descs wiring part handle ports
handles-stripped descs wiring part handle [] = refl
handles-stripped descs wiring part handle (p ∷ ports) =
    rw (joined-stripped descs wiring (record { part = part; handle = handle }) p, handles-stripped descs wiring part (handle + 1) ports) refl

from-stripped : (descs : List Desc) (wiring : Wiring) (part : ℕ) (rest : List Desc) → are_handles_joined_from (map stripped descs) wiring part (map stripped rest) ≡ are_handles_joined_from descs wiring part rest
from-stripped descs wiring part [] = refl
from-stripped descs wiring part (desc ∷ rest) =
    rw (same-ports desc, handles-stripped descs wiring part 1 desc.ports, from-stripped descs wiring (part + 1) rest) refl

ports-stripped : (descs : List Desc) (wiring : Wiring) → are_ports_joined (map stripped descs) wiring ≡ are_ports_joined descs wiring
unfolding are_ports_joined
ports-stripped descs wiring = from-stripped descs wiring 0 descs

-- ---- all of it

all-sound : (descs : List Desc) → list_all is_startable descs ≡ true → list_all is_sound (map stripped descs) ≡ true → list_all is_sound descs ≡ true
all-sound descs starts sound =
    all-both (λ (desc : Desc). is_sound (stripped desc)) is_startable is_sound sound-stripped descs (sym (list_all-map is_sound stripped descs) ∙ sound) starts

pub completed-joined : (descs : List Desc) (wiring : Wiring) → list_all is_startable descs ≡ true → are_joined (map stripped descs) wiring ≡ true → are_joined descs wiring ≡ true
unfolding are_joined
completed-joined descs wiring starts joined =
    let ports = and_parts _ _ joined in
    let managers = and_parts _ _ ports.0 in
    let bells = and_parts _ _ managers.0 in
    let links = and_parts _ _ bells.0 in
    let regions = and_parts _ _ links.0 in
    let extents = and_parts _ _ regions.0 in
    let cores = and_parts _ _ extents.0 in
    let sounds = and_parts _ _ cores.0 in
    let few : nat_le (length descs) most_partitions ≡ true = subst (λ (n : ℕ). nat_le n most_partitions ≡ true) (length-map stripped descs) sounds.0 in
    and_from _ _ (and_from _ _ (and_from _ _ (and_from _ _ (and_from _ _ (and_from _ _ (and_from _ _ (and_from _ _ few
    (all-sound descs starts sounds.1)) (sym (cores-stripped descs) ∙ cores.1)) extents.1) (sym (regions-stripped descs wiring) ∙ regions.1))
    (sym (links-stripped descs wiring) ∙ links.1)) (sym (bells-stripped descs wiring) ∙ bells.1)) (sym (managers-stripped descs wiring) ∙ managers.1))
    (sym (ports-stripped descs wiring) ∙ ports.1)
