-- What the board tells of the memory of a managed partition is what that partition's machine has.
use Rattle.std.proofs.Common.{◌≡◌, ℕ, zero, suc, ◌+◌, ◌-◌, ◌<◌, ◌==◌, Bool, true, false, cond, List, [], ◌∷◌, length, map, slice_index_or, Option, Some, None, refl, sym, ap, subst, ◌∙◌, arith}
use Rattle.std.specs.Prelude.{nat_lt, flat_map, slice_get}
use Rattle.std.specs.List.{list_any, range_with_len}
use Rattle.std.specs.Option.{option_map_or}
use Rattle.std.proofs.lemmas.Bool.{or_parts, eqb-false, ltb-true, ltb-false}
use Rattle.std.proofs.lemmas.List.{length-map, get_or-map, get_or_past}
use Rattle.ground.specs.Own.{own_of, IsForeign}
use Rattle.machine_desc.specs.declared.desc.Desc.{Desc}
use Rattle.machine_desc.specs.declared.desc.Region.{Region}
use Rattle.machine_desc.specs.declared.desc.Span.{Span}
use Rattle.machine_desc.specs.declared.desc.Port.{Port}
use Rattle.machine_desc.specs.declared.desc.Port.TheVariants as described
use Rattle.machine_desc.specs.declared.wiring.PortRef.{PortRef}
use Rattle.machine_desc.specs.declared.wiring.Wiring.{Wiring}
use Rattle.fresh_load.specs.Placed.{extents_of}
use Rattle.copy_lists.specs.Moving.{bytes_in}
use Rattle.copy_lists.specs.Pieces.{sources_of}
use Rattle.partition.specs.Regions.{areas_of}
use Rattle.partition.specs.Machine.{Machine, fresh}
use Rattle.partition.specs.Copying.{Copy, own_bytes}
use Rattle.partition.specs.Asking.{Asked, nothing_asked, managed_part, asked_by, next_copy, asks}
use Rattle.partition.specs.Lending.{Part}
use Rattle.partition.proofs.OwnBytes.{own_byte_so}
use Rattle.network.specs.Network.{no_desc, desc_at, ref_to}
use Rattle.network.specs.World.{machine_at}
use Rattle.network.specs.Turn.{bytes_of, fed}
use Rattle.system.specs.declared.wire.Wire.{Wire}
use Rattle.system.specs.declared.wire.Wire.TheVariants.{Channel, Send, Receive, Manage}
use Rattle.system.specs.Board.{fed_by, handle_wire, is_tied, managed_by, no_wire, own_wire, own_wires, regions_at, wires_at}
use Rattle.system.specs.Wired.{regions_of, wire_of, wires_from}
use Rattle.system.specs.System.{Held, no_part, part_at, descs_of, network_of, machines_of, IsSystem}
use Rattle.system.proofs.Tied.{wires_there}
use Rattle.system.proofs.Far.{part_wires}
use Rattle.system.proofs.Opened.{machine_there}

pub desc_there : (held : Held) (part : ℕ) → part < length held.parts → desc_at (network_of held) part ≡ (part_at held.parts part).desc
desc_there held part there = get_or-map (λ (p : Part). p.desc) held.parts part no_part no_desc there

pub descs_long : (held : Held) → length (descs_of held.parts) ≡ length held.parts
descs_long held = length-map held.parts (λ (p : Part). p.desc)

-- ---- the partition that a handle manages

port_wire : (wiring : Wiring) (ref : PortRef) (port : Port) → managed_part port ≡ managed_by (wire_of wiring ref port)
port_wire wiring ref (described.Channel rx tx) = refl
port_wire wiring ref described.Send = refl
port_wire wiring ref (described.Receive irq) = refl
port_wire wiring ref (described.Manage part held private) = refl

ports_wires : (wiring : Wiring) (part first : ℕ) (ports : List Port) (k : ℕ) → option_map_or managed_part (slice_get ports k) 0 ≡ managed_by (slice_index_or (wires_from wiring part first ports) k no_wire)
ports_wires wiring part first [] k = refl
ports_wires wiring part first (port ∷ ports) zero = port_wire wiring (ref_to part first) port
ports_wires wiring part first (port ∷ ports) (suc k) = ports_wires wiring part (first + 1) ports k

-- its wires are those of its description
pub own_from : (held : Held) → IsSystem held → held.lines.who < length held.parts → own_wires held.lines ≡ wires_from held.wiring held.lines.who 1 (part_at held.parts held.lines.who).desc.ports
own_from held kept here =
    let long = descs_long held in
    ap (λ (ws : List (List Wire)). wires_at ws held.lines.who) kept.wires
    ∙ (wires_there held.wiring 0 (descs_of held.parts) held.lines.who held.lines.who (omega (arith, here, long)) (omega arith)
    ∙ ap (λ (d : Desc). wires_from held.wiring held.lines.who 1 d.ports) (desc_there held held.lines.who here))

pub names_same : (held : Held) (handle : ℕ) → IsSystem held → held.lines.who < length held.parts
    → option_map_or managed_part (cond (handle == 0) None (slice_get (part_at held.parts held.lines.who).desc.ports (handle - 1))) 0 ≡ managed_by (handle_wire held.lines handle)
names_same held handle kept here = by_zero (handle == 0)
  where
    ports : List Port
    ports = (part_at held.parts held.lines.who).desc.ports

    by_zero : (b : Bool) → option_map_or managed_part (cond b None (slice_get (part_at held.parts held.lines.who).desc.ports (handle - 1))) 0 ≡ managed_by (cond b no_wire (own_wire held.lines handle))
    by_zero true = refl
    by_zero false =
        ports_wires held.wiring held.lines.who 1 ports (handle - 1)
        ∙ ap (λ (ws : List Wire). managed_by (slice_index_or ws (handle - 1) no_wire)) (sym (own_from held kept here))

tied_below : (channels parts : ℕ) (wire : Wire) → is_tied channels parts wire ≡ true → 0 < parts → managed_by wire < parts
tied_below channels parts (Channel link side) h some = some
tied_below channels parts (Send bell) h some = some
tied_below channels parts (Receive bell) h some = some
tied_below channels parts (Manage part) h some = ltb-true part parts h

-- it is one of them
pub managed_below : (held : Held) (handle : ℕ) → IsSystem held → held.lines.who < length held.parts → managed_by (handle_wire held.lines handle) < length held.parts
managed_below held handle kept here = by_zero (handle == 0)
  where
    wires : List Wire
    wires = own_wires held.lines

    some : 0 < length held.parts
    some = omega (arith, here)

    tied : (k : ℕ) → k < length (own_wires held.lines) → is_tied (length held.wiring.links) (length (descs_of held.parts)) (slice_index_or (own_wires held.lines) k no_wire) ≡ true
    tied =
        let long = descs_long held in
        subst (λ (ws : List (List Wire)). (k : ℕ) → k < length (wires_at ws held.lines.who) → is_tied (length held.wiring.links) (length (descs_of held.parts)) (slice_index_or (wires_at ws held.lines.who) k no_wire) ≡ true) (sym kept.wires)
        (part_wires (network_of held) held.lines.who kept.joined (omega (arith, here, long))).tied

    by_place : (b : Bool) → nat_lt (handle - 1) (length (own_wires held.lines)) ≡ b → managed_by (own_wire held.lines handle) < length held.parts
    by_place true e =
        let long = descs_long held in
        subst (λ (n : ℕ). managed_by (own_wire held.lines handle) < n) long
        (tied_below (length held.wiring.links) (length (descs_of held.parts)) (own_wire held.lines handle) (tied (handle - 1) (ltb-true (handle - 1) (length wires) e)) (omega (arith, here, long)))
    by_place false e =
        let past = ltb-false (handle - 1) (length wires) e in
        subst (λ (w : Wire). managed_by w < length held.parts) (sym (get_or_past wires (handle - 1) no_wire (omega (arith, past)))) some

    by_zero : (b : Bool) → managed_by (cond b no_wire (own_wire held.lines handle)) < length held.parts
    by_zero true = some
    by_zero false = by_place (nat_lt (handle - 1) (length wires)) refl

-- ---- its memory

pub regions_so : (held : Held) (part : ℕ) → IsSystem held → part < length held.parts → regions_at held.lines.maps part ≡ (part_at held.parts part).desc.regions
regions_so held part kept there =
    let long = descs_long held in
    ap (λ (maps : List (List Region)). regions_at maps part) kept.maps
    ∙ (get_or-map regions_of (descs_of held.parts) part no_desc [] (omega (arith, there, long)) ∙ ap regions_of (desc_there held part there))

abbrev bytes_at : List Region → List (List ℕ) → Span → List ℕ
bytes_at regions memory range = bytes_in regions memory range.at range.size

fed_at : (held : Held) (part : ℕ) (ranges : List Span) → IsSystem held → part < length held.parts
    → flat_map (bytes_of (network_of held) (machines_of held) part) ranges ≡ flat_map (bytes_at (regions_at held.lines.maps part) held.memory) ranges
fed_at held part ranges kept there =
    let regions : List Region = (part_at held.parts part).desc.regions in
    ap (λ (d : Desc). flat_map (λ (range : Span). own_bytes (areas_of d.regions) (machine_at (machines_of held) part).memory range.at range.size) ranges) (desc_there held part there)
    ∙ (ap (λ (m : Machine). flat_map (λ (range : Span). own_bytes (areas_of regions) m.memory range.at range.size) ranges) (machine_there held part (fresh no_desc) there)
    ∙ (each regions
    ∙ ap (λ (r : List Region). flat_map (bytes_at r held.memory) ranges) (sym (regions_so held part kept there))))
  where
    each : (regions : List Region) → flat_map (λ (range : Span). own_bytes (areas_of regions) (own_of (extents_of regions) held.memory) range.at range.size) ranges ≡ flat_map (bytes_at regions held.memory) ranges
    each regions = λ i. flat_map (λ (range : Span). map (λ (at : ℕ). own_byte_so regions held.memory at i) (range_with_len range.at range.size)) ranges

abbrev IsFed : Held → Asked → Type 0
IsFed held asked = fed (network_of held) (machines_of held) asked ≡ fed_by held.lines held.memory asked.handle asked.ranges

-- what a step asks for is fed
pub fed_so : (held : Held) (machine : Machine) (core : ℕ) → IsSystem held → held.lines.who < length held.parts
    → fed (network_of held) (machines_of held) (asks (part_at held.parts held.lines.who).desc machine core)
    ≡ fed_by held.lines held.memory (asks (part_at held.parts held.lines.who).desc machine core).handle (asks (part_at held.parts held.lines.who).desc machine core).ranges
unfolding asks
fed_so held machine core kept here = by_copy (next_copy (part_at held.parts held.lines.who).desc machine core)
  where
    by_way : (it : Copy) (b : Bool)
        → IsFed held (cond b nothing_asked (record { handle = it.handle; part = option_map_or managed_part (cond (it.handle == 0) None (slice_get (part_at held.parts held.lines.who).desc.ports (it.handle - 1))) 0; ranges = sources_of it.entries }))
    by_way it true = refl
    by_way it false =
        ap (λ (n : ℕ). flat_map (bytes_of (network_of held) (machines_of held) n) (sources_of it.entries)) (names_same held it.handle kept here)
        ∙ fed_at held (managed_by (handle_wire held.lines it.handle)) (sources_of it.entries) kept (managed_below held it.handle kept here)

    by_copy : (copy : Option Copy) → IsFed held (asked_by (part_at held.parts held.lines.who).desc.ports copy)
    by_copy None = refl
    by_copy (Some it) = by_way it it.to_managed

-- ---- what is foreign

pub unnamed_foreign : (regions : List Region) (extent : ℕ) → list_any (λ (region : Region). region.extent == extent) regions ≡ false → IsForeign (extents_of regions) extent
unnamed_foreign [] extent h place there q = absurd (omega arith)
unnamed_foreign (region ∷ regions) extent h zero there q =
    let two = or_parts (region.extent == extent) (list_any (λ (it : Region). it.extent == extent) regions) h in
    eqb-false region.extent extent two.0 q
unnamed_foreign (region ∷ regions) extent h (suc place) there q =
    let two = or_parts (region.extent == extent) (list_any (λ (it : Region). it.extent == extent) regions) h in
    unnamed_foreign regions extent two.1 place (omega (arith, there)) q
