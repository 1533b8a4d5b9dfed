-- What the board tells a partition of those that it manages is true.
use Rattle.std.proofs.Common.{◌≡◌, ℕ, zero, suc, ◌+◌, ◌-◌, ◌<◌, ◌==◌, Bool, true, false, not, ◌&&◌, cond, List, [], ◌∷◌, length, map, slice_index_or, Some, None, refl, sym, ap, subst, ◌∙◌, arith}
use Rattle.std.specs.Prelude.{nat_lt, slice_get}
use Rattle.std.specs.List.{list_any}
use Rattle.std.specs.Option.{option_map_or}
use Rattle.std.proofs.lemmas.Bool.{and_parts, false≢true, ltb-true, ltb-false}
use Rattle.std.proofs.lemmas.List.{get_or_past}
use Rattle.machine_desc.specs.declared.desc.Desc.{Desc}
use Rattle.machine_desc.specs.declared.desc.Region.{Region}
use Rattle.machine_desc.specs.declared.desc.Span.{Span}
use Rattle.machine_desc.specs.declared.desc.Port.{Port}
use Rattle.machine_desc.specs.declared.desc.Port.TheVariants as described
use Rattle.machine_desc.specs.declared.wiring.PortRef.{PortRef}
use Rattle.machine_desc.specs.Sound.{is_sound, are_regions_sound}
use Rattle.machine_desc.specs.Joined.{are_private_spans, is_managed_as, is_part_managed_as, is_manager_of, is_manage_joined, is_port_joined, are_handles_joined}
use Rattle.machine_desc.proofs.Parts.{sound_regions}
use Rattle.fresh_load.specs.Placed.{is_private_extent}
use Rattle.copy_lists.specs.Lists.{managed_spans, spans_of_port}
use Rattle.copy_lists.proofs.Meaning.{spans_are_private}
use Rattle.partition.specs.declared.kind.Kind.TheVariants as kind
use Rattle.partition.specs.Port.{kind_at, kinds_of as described_kinds}
use Rattle.partition.specs.Lending.{AreManaged, AreTold, Tells}
use Rattle.network.specs.Network.{Network, no_desc, ref_to}
use Rattle.system.specs.declared.wire.Wire.{Wire}
use Rattle.system.specs.declared.wire.Wire.TheVariants.{Channel, Send, Receive, Manage}
use Rattle.system.specs.Board.{kinds_of, kind_of, managed_by, no_wire, own_wire, own_wires, regions_at, regions_by, told_by, wires_at}
use Rattle.system.specs.Wired.{wire_of}
use Rattle.system.specs.System.{Held, part_at, descs_of, network_of, IsSystem}
use Rattle.system.proofs.Tied.{joined_parts, all_at, handle_joined, wires_length, wire_there, ports_joined}
use Rattle.system.proofs.Loaded.{private_names}
use Rattle.system.proofs.Fed.{desc_there, descs_long, own_from, regions_so, unnamed_foreign}
use Rattle.system.proofs.Acts.{kinds_are}
use Rattle.system.proofs.Commanded.{IsCommand, is_command}
use Rattle.system.proofs.Copies.{NamesNone, names_none}

at_some : {X : Type 0} (test : X → Bool) (xs : List X) (k : ℕ) (d : X) → option_map_or test (slice_get xs k) false ≡ true → test (slice_index_or xs k d) ≡ true
at_some test [] k d h = absurd (false≢true h)
at_some test (x ∷ xs) zero d h = h
at_some test (x ∷ xs) (suc k) d h = at_some test xs k d h

spans_at : (ports : List Port) (k : ℕ) (d : Port) → k < length ports → option_map_or spans_of_port (slice_get ports k) [] ≡ spans_of_port (slice_index_or ports k d)
spans_at [] k d there = absurd (omega arith)
spans_at (port ∷ ports) zero d there = refl
spans_at (port ∷ ports) (suc k) d there = spans_at ports k d (omega arith)

-- the ranges that a handle names are those of its partition's private regions
port_spans : (network : Network) (ref : PortRef) (managed : ℕ) (port : Port) → is_port_joined network.descs network.wiring ref port ≡ true → wire_of network.wiring ref port ≡ Manage managed
    → are_private_spans (spans_of_port port) (slice_index_or network.descs managed no_desc).regions ≡ true
unfolding is_port_joined is_manage_joined
port_spans network ref managed (described.Channel rx tx) h e = absurd cc
port_spans network ref managed described.Send h e = absurd cc
port_spans network ref managed (described.Receive irq) h e = absurd cc
port_spans network ref managed (described.Manage part held private) h e =
    let same : part ≡ managed = cc in
    let one = and_parts (not (part == ref.part) && is_part_managed_as network.descs part held private) (is_manager_of network.wiring.managers ref part) h in
    let two = and_parts (not (part == ref.part)) (is_part_managed_as network.descs part held private) one.0 in
    let managed_so = at_some (is_managed_as held private) network.descs part no_desc two.1 in
    subst (λ (n : ℕ). are_private_spans private (slice_index_or network.descs n no_desc).regions ≡ true) same
    (and_parts _ (are_private_spans private (slice_index_or network.descs part no_desc).regions) managed_so).1

-- a handle whose wire manages is one that manages, by its description
sort_there : (held : Held) (handle managed : ℕ) → IsSystem held → held.lines.who < length held.parts → (handle == 0) ≡ false → own_wire held.lines handle ≡ Manage managed
    → kind_at (described_kinds (part_at held.parts held.lines.who).desc.ports) handle ≡ Some kind.Manage
sort_there held handle managed kept here some e = ap (λ (ks : List _). kind_at ks handle) (sym (kinds_are held held.lines.who kept here)) ∙ by_place (nat_lt (handle - 1) (length (own_wires held.lines))) refl
  where
    found : (wires : List Wire) (k : ℕ) → k < length wires → slice_get (map kind_of wires) k ≡ Some (kind_of (slice_index_or wires k no_wire))
    found [] k there = absurd (omega arith)
    found (wire ∷ wires) zero there = refl
    found (wire ∷ wires) (suc k) there = found wires k (omega arith)

    by_place : (b : Bool) → nat_lt (handle - 1) (length (own_wires held.lines)) ≡ b → kind_at (kinds_of (wires_at held.lines.wires held.lines.who)) handle ≡ Some kind.Manage
    by_place true f =
        ap (λ (b : Bool). cond b None (slice_get (kinds_of (own_wires held.lines)) (handle - 1))) some
        ∙ (found (own_wires held.lines) (handle - 1) (ltb-true (handle - 1) (length (own_wires held.lines)) f) ∙ ap (λ (w : Wire). Some (kind_of w)) e)
    by_place false f =
        let past = ltb-false (handle - 1) (length (own_wires held.lines)) f in
        absurd (let none : no_wire ≡ Manage managed = sym (get_or_past (own_wires held.lines) (handle - 1) no_wire (omega (arith, past))) ∙ e in cc)

-- the handle is one of the list
place_there : (held : Held) (handle managed : ℕ) → own_wire held.lines handle ≡ Manage managed → handle - 1 < length (own_wires held.lines)
place_there held handle managed e = by_place (nat_lt (handle - 1) (length (own_wires held.lines))) refl
  where
    by_place : (b : Bool) → nat_lt (handle - 1) (length (own_wires held.lines)) ≡ b → handle - 1 < length (own_wires held.lines)
    by_place true f = ltb-true (handle - 1) (length (own_wires held.lines)) f
    by_place false f =
        let past = ltb-false (handle - 1) (length (own_wires held.lines)) f in
        absurd (let none : no_wire ≡ Manage managed = sym (get_or_past (own_wires held.lines) (handle - 1) no_wire (omega (arith, past))) ∙ e in cc)

-- the ranges that it names are those of its partition's private regions
spans_so : (held : Held) (handle : ℕ) → IsSystem held → held.lines.who < length held.parts → (handle == 0) ≡ false → (it : IsCommand held handle)
    → are_private_spans (managed_spans (part_at held.parts held.lines.who).desc.ports handle) (part_at held.parts it.managed).desc.regions ≡ true
spans_so held handle kept here some it =
    let who : ℕ = held.lines.who in
    let k : ℕ = handle - 1 in
    let ports : List Port = (part_at held.parts who).desc.ports in
    let long = descs_long held in
    let joins = joined_parts (descs_of held.parts) held.wiring kept.joined in
    let there = place_there held handle it.managed it.wire in
    let own = own_from held kept here in
    let within : k < length ports = let count = ap length own ∙ wires_length held.wiring who 1 ports in omega (arith, there, count) in
    let all = subst (λ (d : Desc). are_handles_joined (descs_of held.parts) held.wiring who 1 d.ports ≡ true) (desc_there held who here) (ports_joined (descs_of held.parts) held.wiring who joins.ports (omega (arith, here, long))) in
    let port = handle_joined (descs_of held.parts) held.wiring who 1 ports k (1 + k) described.Send all within refl in
    let wire : wire_of held.wiring (ref_to who (1 + k)) (slice_index_or ports k described.Send) ≡ Manage it.managed =
    sym (wire_there held.wiring who 1 ports k (1 + k) described.Send within refl) ∙ (ap (λ (ws : List Wire). slice_index_or ws k no_wire) (sym own) ∙ it.wire) in
    let private = port_spans (network_of held) (ref_to who (1 + k)) it.managed (slice_index_or ports k described.Send) port wire in
    let spans : managed_spans ports handle ≡ spans_of_port (slice_index_or ports k described.Send) =
    ap (λ (b : Bool). option_map_or spans_of_port (cond b None (slice_get ports k)) []) some ∙ spans_at ports k described.Send within in
    subst (λ (sp : List Span). are_private_spans sp (part_at held.parts it.managed).desc.regions ≡ true) (sym spans)
    (subst (λ (d : Desc). are_private_spans (spans_of_port (slice_index_or ports k described.Send)) d.regions ≡ true) (desc_there held it.managed it.below) private)

sound_at : (held : Held) (part : ℕ) → IsSystem held → part < length held.parts → are_regions_sound (part_at held.parts part).desc.regions ≡ true
sound_at held part kept there =
    let long = descs_long held in
    let joins = joined_parts (descs_of held.parts) held.wiring kept.joined in
    subst (λ (d : Desc). are_regions_sound d.regions ≡ true) (desc_there held part there) (sound_regions _ (all_at is_sound (descs_of held.parts) part no_desc joins.sound (omega (arith, there, long))))

managed_told : (held : Held) (handle : ℕ) → IsSystem held → held.lines.who < length held.parts → (handle == 0) ≡ false → (it : IsCommand held handle)
    → AreManaged (part_at held.parts it.managed).desc.regions (part_at held.parts held.lines.who).desc.regions (managed_spans (part_at held.parts held.lines.who).desc.ports handle) held.memory
managed_told held handle kept here some it = record {
  fit = record {
    from_sound = sound_at held held.lines.who kept here;
    to_sound = sound_at held it.managed kept it.below;
    from_placed = kept.placed held.lines.who here;
    to_placed = kept.placed it.managed it.below;
    apart = λ extent h. apart extent (private_names own extent h);
  };
  foreign = λ extent h. unnamed_foreign own extent (unnamed extent h (list_any (λ (region : Region). region.extent == extent) own) refl);
  spanned = λ at size h. sym (spans_are_private (managed_spans (part_at held.parts held.lines.who).desc.ports handle) regions at size (spans_so held handle kept here some it)) ∙ h;
}
  where
    own : List Region
    own = (part_at held.parts held.lines.who).desc.regions

    regions : List Region
    regions = (part_at held.parts it.managed).desc.regions

    apart : NamesNone (part_at held.parts held.lines.who).desc.regions (part_at held.parts it.managed).desc.regions
    apart = names_none held it.managed held.lines.who kept it.below here (λ e. it.apart (sym e))

    unnamed : (extent : ℕ) → is_private_extent regions extent ≡ true → (b : Bool) → list_any (λ (region : Region). region.extent == extent) own ≡ b → list_any (λ (region : Region). region.extent == extent) own ≡ false
    unnamed extent h false e = e
    unnamed extent h true e = absurd (false≢true (sym (apart extent e) ∙ h))

-- of every handle
pub told_so : (held : Held) → IsSystem held → held.lines.who < length held.parts → AreTold (told_by held.lines) (part_at held.parts held.lines.who).desc held.memory
told_so held kept here handle = by_zero (handle == 0) refl
  where
    own : List Region
    own = (part_at held.parts held.lines.who).desc.regions

    spans : List Span
    spans = managed_spans (part_at held.parts held.lines.who).desc.ports handle

    by_wire : (w : Wire) → own_wire held.lines handle ≡ w → (handle == 0) ≡ false → Tells (regions_by held.lines.maps w) (part_at held.parts held.lines.who).desc.regions (managed_spans (part_at held.parts held.lines.who).desc.ports handle) held.memory
    by_wire (Channel link side) e some = tt
    by_wire (Send bell) e some = tt
    by_wire (Receive bell) e some = tt
    by_wire (Manage managed) e some =
        let it = is_command held handle kept here (sort_there held handle managed kept here some e) in
        let same : it.managed ≡ managed = ap managed_by (sym it.wire ∙ e) in
        subst (λ (regions : List Region). AreManaged regions own spans held.memory) (sym (regions_so held it.managed kept it.below) ∙ ap (regions_at held.lines.maps) same) (managed_told held handle kept here some it)

    by_zero : (b : Bool) → (handle == 0) ≡ b → Tells (told_by held.lines handle) (part_at held.parts held.lines.who).desc.regions (managed_spans (part_at held.parts held.lines.who).desc.ports handle) held.memory
    by_zero true z =
        subst (λ (b : Bool). Tells (regions_by held.lines.maps (cond b no_wire (own_wire held.lines handle))) own spans held.memory) (sym z) tt
    by_zero false z =
        subst (λ (b : Bool). Tells (regions_by held.lines.maps (cond b no_wire (own_wire held.lines handle))) own spans held.memory) (sym z) (by_wire (own_wire held.lines handle) refl z)
