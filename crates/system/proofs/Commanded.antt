-- A manager's own machine after its command, and that of a partition that restarts itself.
use Rattle.std.proofs.Common.{◌≡◌, ℕ, ◌+◌, ◌-◌, ◌<◌, ◌==◌, Bool, true, false, not, ◌&&◌, List, [], length, slice_index_or, Option, Some, None, refl, sym, ap, subst, ◌∙◌, arith}
use Rattle.std.specs.Option.{option_map_or, option_and_then}
use Rattle.std.proofs.lemmas.Bool.{and_parts, false≢true, eqb-true, eq-eqb, ltb-true}
use Rattle.std.proofs.lemmas.List.{length-map}
use Rattle.machine_desc.specs.declared.act.Act.{Act as Told}
use Rattle.machine_desc.specs.declared.act.Act.TheVariants as told
use Rattle.machine_desc.specs.declared.desc.Port.{Port}
use Rattle.machine_desc.specs.declared.desc.Port.TheVariants as described
use Rattle.machine_desc.specs.declared.wiring.PortRef.{PortRef}
use Rattle.machine_desc.specs.Joined.{same_ref, is_manager, port_at, are_managers_right, are_managers_joined, is_manager_of, is_part_managed_as, is_manage_joined, is_port_joined, AreJoined}
use Rattle.partition.specs.declared.kind.Kind.{Kind}
use Rattle.partition.specs.declared.kind.Kind.TheVariants as kind
use Rattle.partition.specs.Port.{End, kind_at, told_on, emptied, kinds_of as described_kinds}
use Rattle.partition.specs.Act.{act_of, settled}
use Rattle.partition.specs.Lending.{Part as Member, machine_of, HasHandle}
use Rattle.network.specs.Network.{Network, no_desc, ref_to, manager_of, managed as managed_of, managed_by as managed_by_network}
use Rattle.system.specs.declared.wire.Wire.{Wire}
use Rattle.system.specs.declared.wire.Wire.TheVariants.{Channel, Send, Receive, Manage}
use Rattle.system.specs.Board.{Lines, kind_of, kinds_of, no_wire, own_ends, own_wire, ends_of, wire_at, wires_at, is_tied, AreWires, all_cleared, emptied_lines, managed_by}
use Rattle.system.specs.Wired.{wire_of}
use Rattle.system.specs.Channels.{wires_of}
use Rattle.system.specs.System.{Held, part_at, descs_of, network_of, machine_by, IsSystem}
use Rattle.system.specs.Turning.{marked_lines}
use Rattle.system.proofs.Handles.{IsThere, is_there}
use Rattle.system.proofs.Given.{Gives}
use Rattle.system.proofs.Tied.{joined_parts, handle_joined, wires_length, wire_there, wires_there, ports_joined}
use Rattle.system.proofs.Far.{part_wires}
use Rattle.system.proofs.Delivered.{given_if}
use Rattle.system.proofs.Managers.{wire_named, right_at, told_machine}
use Rattle.system.proofs.Acts.{kinds_are}
use Rattle.system.proofs.Emptied.{own_emptied}

-- ---- a handle that manages

-- no partition manages itself
port_apart : (network : Network) (ref : PortRef) (managed : ℕ) (port : Port) → is_port_joined network.descs network.wiring ref port ≡ true → wire_of network.wiring ref port ≡ Manage managed → managed ≡ ref.part → ⊥
unfolding is_port_joined is_manage_joined
port_apart network ref managed (described.Channel rx tx) h e = absurd cc
port_apart network ref managed described.Send h e = absurd cc
port_apart network ref managed (described.Receive irq) h e = absurd cc
port_apart network ref managed (described.Manage part held private) h e = λ own.
    let same : part ≡ managed = cc in
    let one = and_parts (not (part == ref.part) && is_part_managed_as network.descs part held private) (is_manager_of network.wiring.managers ref part) h in
    let two = and_parts (not (part == ref.part)) (is_part_managed_as network.descs part held private) one.0 in
    false≢true (sym (ap not (eq-eqb part ref.part (same ∙ own))) ∙ two.0)

wire_apart : (network : Network) (part k managed : ℕ) → AreJoined network.descs network.wiring → part < length network.descs → k < length (wires_at (wires_of network) part)
    → slice_index_or (wires_at (wires_of network) part) k no_wire ≡ Manage managed → managed ≡ part → ⊥
wire_apart network part k managed joined here there e =
    let ports : List Port = (slice_index_or network.descs part no_desc).ports in
    let own = wires_there network.wiring 0 network.descs part part here (omega arith) in
    let long = ap length own ∙ wires_length network.wiring part 1 ports in
    let within : k < length ports = omega (arith, long, there) in
    let joins = joined_parts network.descs network.wiring joined in
    let port = handle_joined network.descs network.wiring part 1 ports k (1 + k) described.Send (ports_joined network.descs network.wiring part joins.ports here) within refl in
    port_apart network (ref_to part (1 + k)) managed (slice_index_or ports k described.Send) port
    (sym (ap (λ (ws : List Wire). slice_index_or ws k no_wire) own ∙ wire_there network.wiring part 1 ports k (1 + k) described.Send within refl) ∙ e)

managed_port : (managed : ℕ) (port : Port) → is_manager managed port ≡ true → managed_of port ≡ Some managed
managed_port managed (described.Channel rx tx) h = absurd (false≢true h)
managed_port managed described.Send h = absurd (false≢true h)
managed_port managed (described.Receive irq) h = absurd (false≢true h)
managed_port managed (described.Manage part held private) h = ap Some (eqb-true part managed h)

managed_found : (managed : ℕ) (found : Option Port) → option_map_or (is_manager managed) found false ≡ true → option_and_then managed_of found ≡ Some managed
managed_found managed None h = absurd (false≢true h)
managed_found managed (Some port) h = managed_port managed port h

-- the handle that the wiring names for a partition manages it
names_managed : (network : Network) (managed : ℕ) (ref : PortRef) → AreJoined network.descs network.wiring → manager_of network managed ≡ Some ref → managed_by_network network ref.part ref.handle ≡ Some managed
unfolding are_managers_joined
names_managed network managed ref joined e =
    let joins = joined_parts network.descs network.wiring joined in
    let right = (and_parts (length network.wiring.managers == length network.descs) (are_managers_right network.descs 0 network.wiring.managers) joins.managers).1 in
    managed_found managed (port_at network.descs ref) (right_at network.descs 0 managed managed network.wiring.managers ref right e (omega arith))

-- what a command of the stepping partition by a handle is about
pub record IsCommand (held : Held) (handle : ℕ) : Type 0 where
  pub managed : ℕ
  pub wire : own_wire held.lines handle ≡ Manage managed
  pub below : managed < length held.parts
  pub apart : managed ≡ held.lines.who → ⊥
  pub manager : manager_of (network_of held) managed ≡ Some (ref_to held.lines.who handle)
  pub names : managed_by_network (network_of held) held.lines.who handle ≡ Some managed

refs_same : (one other : PortRef) → same_ref one other ≡ true → other ≡ one
refs_same one other h =
    let both = and_parts (one.part == other.part) (one.handle == other.handle) h in
    let part = eqb-true one.part other.part both.0 in
    let handle = eqb-true one.handle other.handle both.1 in
    λ i. record { part = sym part i; handle = sym handle i }

pub is_command : (held : Held) (handle : ℕ) → IsSystem held → held.lines.who < length held.parts → kind_at (described_kinds (part_at held.parts held.lines.who).desc.ports) handle ≡ Some kind.Manage
    → IsCommand held handle
is_command held handle kept here sort = by_wire (wire_at wires handle) refl it.is
  where
    network : Network
    network = network_of held

    who : ℕ
    who = held.lines.who

    wires : List Wire
    wires = wires_at (wires_of network) who

    long : length (descs_of held.parts) ≡ length held.parts
    long = length-map held.parts (λ (p : Member). p.desc)

    within : who < length network.descs
    within = omega (arith, here, long)

    it : IsThere wires handle kind.Manage
    it = is_there wires handle kind.Manage (subst (λ (ws : List (List Wire)). kind_at (kinds_of (wires_at ws who)) handle ≡ Some kind.Manage) kept.wires (ap (λ (ks : List Kind). kind_at ks handle) (kinds_are held who kept here) ∙ sort))

    by_wire : (w : Wire) → wire_at wires handle ≡ w → kind_of w ≡ kind.Manage → IsCommand held handle
    by_wire (Channel link side) e is = absurd cc
    by_wire (Send bell) e is = absurd cc
    by_wire (Receive bell) e is = absurd cc
    by_wire (Manage managed) e is =
        let some = it.some in
        let same : 1 + (handle - 1) ≡ handle = omega (arith, some) in
        let named = wire_named network who (handle - 1) managed kept.joined within it.there e in
        let tied = (part_wires network who kept.joined within).tied (handle - 1) it.there in
        let manager : manager_of network managed ≡ Some (ref_to who handle) = named.is ∙ ap Some (refs_same (ref_to who (1 + (handle - 1))) named.other named.same ∙ ap (ref_to who) same) in
        let below : managed < length network.descs = ltb-true managed (length network.descs) (sym (ap (is_tied (length network.wiring.links) (length network.descs)) e) ∙ tied) in
        record {
          managed = managed;
          wire = ap (λ (ws : List (List Wire)). wire_at (wires_at ws who) handle) kept.wires ∙ e;
          below = omega (arith, below, long);
          apart = wire_apart network who (handle - 1) managed kept.joined within it.there e;
          manager = manager;
          names = names_managed network managed (ref_to who handle) kept.joined manager;
        }

-- ---- what is marked

-- of another partition than the manager nothing is seen of a mark
pub marked_other : (held : Held) (handle : ℕ) (own : Member) (memory : List (List ℕ)) (part : ℕ) (runs : Bool) → IsSystem held → (it : IsCommand held handle) → part < length held.parts → (held.lines.who ≡ part → ⊥)
    → machine_by own (marked_lines held.lines it.managed runs) memory part ≡ machine_by own held.lines memory part
marked_other held handle own memory part runs kept it here ne =
    let long = kept.running in
    let below = it.below in
    told_machine held own memory it.managed part runs (ref_to held.lines.who handle) kept (omega (arith, below, long)) here it.manager
    ∙ by_part (held.lines.who == part) refl
  where
    by_part : (b : Bool) → (held.lines.who == part) ≡ b → given_if (held.lines.who == part) (λ (l : List End). told_on l handle runs) (machine_by own held.lines memory part) ≡ machine_by own held.lines memory part
    by_part false e = ap (λ (b : Bool). given_if b (λ (l : List End). told_on l handle runs) (machine_by own held.lines memory part)) e
    by_part true e = absurd (ne (eqb-true held.lines.who part e))

-- the manager sees it at its handle
pub marked_own : (held : Held) (handle : ℕ) (own : Member) (memory : List (List ℕ)) (runs : Bool) → IsSystem held → (it : IsCommand held handle) → held.lines.who < length held.parts
    → machine_of own (told_on (own_ends held.lines) handle runs) memory ≡ machine_by own (marked_lines held.lines it.managed runs) memory held.lines.who
marked_own held handle own memory runs kept it here =
    let who : ℕ = held.lines.who in
    let long = kept.running in
    let below = it.below in
    sym
    (told_machine held own memory it.managed who runs (ref_to who handle) kept (omega (arith, below, long)) here it.manager
    ∙ ap (λ (b : Bool). given_if b (λ (l : List End). told_on l handle runs) (machine_by own held.lines memory who)) (eq-eqb who who refl))

-- the same by what the wire says
pub commanded : (held : Held) (handle : ℕ) (own : Member) (memory : List (List ℕ)) (runs : Bool) → IsSystem held → held.lines.who < length held.parts → kind_at (described_kinds (part_at held.parts held.lines.who).desc.ports) handle ≡ Some kind.Manage
    → machine_of own (told_on (own_ends held.lines) handle runs) memory ≡ machine_by own (marked_lines held.lines (managed_by (own_wire held.lines handle)) runs) memory held.lines.who
commanded held handle own memory runs kept here sort =
    let it = is_command held handle kept here sort in
    marked_own held handle own memory runs kept it here
    ∙ ap (λ (w : Wire). machine_by own (marked_lines held.lines (managed_by w) runs) memory held.lines.who) (sym it.wire)

-- ---- what is dropped

pub emptied_own : (held : Held) (own : Member) (memory : List (List ℕ)) (part : ℕ) → IsSystem held → part < length held.parts
    → machine_of own (emptied (ends_of held.lines.channels held.lines.running (wires_at held.lines.wires part))) memory ≡ machine_by own (emptied_lines held.lines part) memory part
emptied_own held own memory part kept here =
    let long : length (descs_of held.parts) ≡ length held.parts = length-map held.parts (λ (p : Member). p.desc) in
    subst
    (λ (ws : List (List Wire)).
    machine_of own (emptied (ends_of held.lines.channels held.lines.running (wires_at ws part))) memory
    ≡ machine_of own (ends_of (all_cleared (wires_at ws part) held.lines.channels) held.lines.running (wires_at ws part)) memory) (sym kept.wires)
    (
    ap (λ (l : List End). machine_of own l memory)
    (sym
    (own_emptied (wires_at (wires_of (network_of held)) part) held.lines.channels held.lines.running (length (descs_of held.parts))
    (subst (λ (n : ℕ). AreWires n (length (descs_of held.parts)) (wires_at (wires_of (network_of held)) part)) (sym kept.channels) (part_wires (network_of held) part kept.joined (omega (arith, here, long))))))
    )

-- ---- what an act leaves to the board

-- the board once that is done
abbrev pub settled_lines : Told → Lines → Lines
settled_lines (told.Start handle entry load) lines = marked_lines lines (managed_by (own_wire lines handle)) true
settled_lines (told.Stop handle) lines = marked_lines lines (managed_by (own_wire lines handle)) false
settled_lines (told.Restart handle) lines = marked_lines lines (managed_by (own_wire lines handle)) true
settled_lines told.SelfRestart lines = emptied_lines lines lines.who
settled_lines _ lines = lines

own_lent : (held : Held) (lent : Lines) (own : Member) (memory : List (List ℕ)) → lent.who ≡ held.lines.who → machine_of own (own_ends lent) memory ≡ machine_by own lent memory held.lines.who
own_lent held lent own memory e = ap (λ (n : ℕ). machine_of own (ends_of lent.channels lent.running (wires_at lent.wires n)) memory) e

-- then the machine of the partition that stepped is that of the definition
pub lent_machine : (held : Held) (lent : Lines) (own : Member) (memory : List (List ℕ)) (act : Told) → IsSystem held → held.lines.who < length held.parts → Gives act held.lines lent
    → HasHandle (described_kinds (part_at held.parts held.lines.who).desc.ports) act
    → machine_of own (settled (act_of [] act) (own_ends lent)) memory ≡ machine_by own (settled_lines act lent) memory held.lines.who
lent_machine held lent own memory (told.Start handle entry load) kept here did sort =
    subst (λ (ls : Lines). machine_of own (told_on (own_ends ls) handle true) memory ≡ machine_by own (marked_lines ls (managed_by (own_wire ls handle)) true) memory held.lines.who) (sym did)
    (commanded held handle own memory true kept here sort)
lent_machine held lent own memory (told.Restart handle) kept here did sort =
    subst (λ (ls : Lines). machine_of own (told_on (own_ends ls) handle true) memory ≡ machine_by own (marked_lines ls (managed_by (own_wire ls handle)) true) memory held.lines.who) (sym did)
    (commanded held handle own memory true kept here sort)
lent_machine held lent own memory (told.Stop handle) kept here did sort =
    subst (λ (ls : Lines). machine_of own (told_on (own_ends ls) handle false) memory ≡ machine_by own (marked_lines ls (managed_by (own_wire ls handle)) false) memory held.lines.who) (sym did)
    (commanded held handle own memory false kept here sort)
lent_machine held lent own memory told.SelfRestart kept here did sort =
    subst (λ (ls : Lines). machine_of own (emptied (own_ends ls)) memory ≡ machine_by own (emptied_lines ls ls.who) memory held.lines.who) (sym did) (emptied_own held own memory held.lines.who kept here)
lent_machine held lent own memory (told.Sent handle bytes) kept here did sort = own_lent held lent own memory (ap (λ (ls : Lines). ls.who) did)
lent_machine held lent own memory (told.Took handle count) kept here did sort = own_lent held lent own memory (ap (λ (ls : Lines). ls.who) did)
lent_machine held lent own memory (told.CopyTo handle count) kept here did sort = own_lent held lent own memory (ap (λ (ls : Lines). ls.who) did)
lent_machine held lent own memory (told.CopyFrom handle count) kept here did sort = own_lent held lent own memory (ap (λ (ls : Lines). ls.who) did)
lent_machine held lent own memory _ kept here did sort = own_lent held lent own memory (ap (λ (ls : Lines). ls.who) did)
