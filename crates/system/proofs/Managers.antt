-- Which handle manages a partition, and what it sees of it.
use Rattle.std.proofs.Common.{◌≡◌, ℕ, zero, suc, ◌+◌, ◌-◌, ◌<◌, ◌==◌, Bool, true, false, not, ◌&&◌, if◌then◌else◌, List, [], ◌∷◌, length, map, slice_index_or, slice_set, Option, Some, None, refl, sym, ap, subst, ◌∙◌, arith}
use Rattle.std.specs.Prelude.{slice_get}
use Rattle.std.specs.Option.{option_map_or}
use Rattle.std.proofs.lemmas.Bool.{and_parts, false≢true, eqb-true, eqb-false}
use Rattle.std.proofs.lemmas.List.{length-map, get_or-set_same, get_or-set_other}
use Rattle.byte_channel.specs.Waiting.{Waiting}
use Rattle.core_step.specs.declared.answer.Wrote.{Wrote}
use Rattle.machine_desc.specs.declared.act.Act.{Act as Told}
use Rattle.machine_desc.specs.declared.desc.Desc.{Desc}
use Rattle.machine_desc.specs.declared.desc.Port.{Port}
use Rattle.machine_desc.specs.declared.desc.Port.TheVariants as described
use Rattle.machine_desc.specs.declared.wiring.PortRef.{PortRef}
use Rattle.machine_desc.specs.declared.wiring.Wiring.{Wiring}
use Rattle.machine_desc.specs.Joined.{same_ref, is_manager, names_port, is_manager_of, is_part_managed_as, is_manager_right, are_managers_right, are_managers_joined, is_manage_joined, is_port_joined, AreJoined}
use Rattle.partition.specs.Port.{End, empty_end, told_on}
use Rattle.partition.specs.Event.{Tells}
use Rattle.partition.specs.Lending.{Part, machine_of}
use Rattle.network.specs.Network.{Network, no_desc, ref_to, manager_of}
use Rattle.network.specs.World.{Counts, delivered, after_log}
use Rattle.network.specs.Effects.{tell_manager}
use Rattle.system.specs.declared.wire.Wire.{Wire}
use Rattle.system.specs.declared.wire.Wire.TheVariants.{Channel, Send, Receive, Manage}
use Rattle.system.specs.Board.{Lines, no_wire, end_of, ends_of, wire_at, wires_at}
use Rattle.system.specs.Wired.{wire_of}
use Rattle.system.specs.Channels.{wires_of}
use Rattle.system.specs.System.{Held, part_at, descs_of, network_of, machine_by, machines_of, IsSystem}
use Rattle.system.specs.Turning.{marked_lines}
use Rattle.system.proofs.Seen.{map_same, map_but, end_here}
use Rattle.system.proofs.Tied.{joined_parts, handle_joined, wires_length, wire_there, wires_there, ports_joined}
use Rattle.system.proofs.Delivered.{given_if, is_told}
use Rattle.system.proofs.Shown.{after_shown}
use Rattle.system.proofs.Told.{IsHeard}
use Rattle.system.proofs.Acts.{left_by, none_machines, event_machines}

-- ---- a handle that manages is the one that the wiring names

managed_named : (network : Network) (ref : PortRef) (managed : ℕ) (port : Port) → is_port_joined network.descs network.wiring ref port ≡ true → wire_of network.wiring ref port ≡ Manage managed
    → is_manager_of network.wiring.managers ref managed ≡ true
unfolding is_port_joined is_manage_joined
managed_named network ref managed (described.Channel rx tx) h e = absurd cc
managed_named network ref managed described.Send h e = absurd cc
managed_named network ref managed (described.Receive irq) h e = absurd cc
managed_named network ref managed (described.Manage part held private) h e =
    let same : part ≡ managed = cc in
    subst (λ (n : ℕ). is_manager_of network.wiring.managers ref n ≡ true) same
    (and_parts (not (part == ref.part) && is_part_managed_as network.descs part held private) (is_manager_of network.wiring.managers ref part) h).1

pub record IsNamed (managers : List (Option PortRef)) (managed : ℕ) (ref : PortRef) : Type 0 where
  pub other : PortRef
  pub is : slice_index_or managers managed None ≡ Some other
  pub same : same_ref ref other ≡ true

named_at : (managers : List (Option PortRef)) (managed : ℕ) (ref : PortRef) → is_manager_of managers ref managed ≡ true → IsNamed managers managed ref
named_at [] managed ref h = absurd (false≢true h)
named_at (None ∷ managers) zero ref h = absurd (false≢true h)
named_at (Some other ∷ managers) zero ref h = record { other = other; is = refl; same = h }
named_at (manager ∷ managers) (suc managed) ref h = let rest = named_at managers managed ref h in record { other = rest.other; is = rest.is; same = rest.same }

pub wire_named : (network : Network) (part k managed : ℕ) → AreJoined network.descs network.wiring → part < length network.descs → k < length (wires_at (wires_of network) part)
    → slice_index_or (wires_at (wires_of network) part) k no_wire ≡ Manage managed → IsNamed network.wiring.managers managed (ref_to part (1 + k))
wire_named network part k managed joined here there e =
    let ports : List Port = (slice_index_or network.descs part no_desc).ports in
    let own = wires_there network.wiring 0 network.descs part part here (omega arith) in
    let long = ap length own ∙ wires_length network.wiring part 1 ports in
    let within : k < length ports = omega (arith, long, there) in
    let joins = joined_parts network.descs network.wiring joined in
    let port = handle_joined network.descs network.wiring part 1 ports k (1 + k) described.Send (ports_joined network.descs network.wiring part joins.ports here) within refl in
    named_at network.wiring.managers managed (ref_to part (1 + k))
    (managed_named network (ref_to part (1 + k)) managed (slice_index_or ports k described.Send) port
    (sym (ap (λ (ws : List Wire). slice_index_or ws k no_wire) own ∙ wire_there network.wiring part 1 ports k (1 + k) described.Send within refl) ∙ e))

-- ---- the handle that the wiring names manages

pub right_at : (descs : List Desc) (first place at : ℕ) (managers : List (Option PortRef)) (ref : PortRef) → are_managers_right descs first managers ≡ true → slice_index_or managers place None ≡ Some ref → at ≡ first + place
    → names_port (is_manager at) descs ref ≡ true
right_at descs first place at [] ref h e is = absurd cc
right_at descs first zero at (manager ∷ managers) ref h e is =
    let same : first ≡ at = omega (arith, is) in
    subst (λ (n : ℕ). names_port (is_manager n) descs ref ≡ true) same
    (subst (λ (m : Option PortRef). is_manager_right descs first m ≡ true) e (and_parts (is_manager_right descs first manager) (are_managers_right descs (first + 1) managers) h).0)
right_at descs first (suc place) at (manager ∷ managers) ref h e is =
    right_at descs (first + 1) place at managers ref (and_parts (is_manager_right descs first manager) (are_managers_right descs (first + 1) managers) h).1 e (omega (arith, is))

record IsManageAt (descs : List Desc) (managed part place : ℕ) : Type 0 where
  here : part < length descs
  there : place < length (slice_index_or descs part no_desc).ports
  sort : is_manager managed (slice_index_or (slice_index_or descs part no_desc).ports place described.Send) ≡ true

manage_among : (managed : ℕ) (ports : List Port) (place : ℕ) → option_map_or (is_manager managed) (slice_get ports place) false ≡ true
    → (place < length ports) × (is_manager managed (slice_index_or ports place described.Send) ≡ true)
manage_among managed [] place h = absurd (false≢true h)
manage_among managed (port ∷ ports) zero h = (let some : 0 < length (port ∷ ports) = omega arith in some, h)
manage_among managed (port ∷ ports) (suc place) h =
    let rest = manage_among managed ports place h in let below = rest.0 in (let some : suc place < length (port ∷ ports) = omega (arith, below) in some, rest.1)

manage_in : (managed : ℕ) (descs : List Desc) (part place : ℕ) → option_map_or (is_manager managed) (option_map_or (λ (desc : Desc). slice_get desc.ports place) (slice_get descs part) None) false ≡ true
    → IsManageAt descs managed part place
manage_in managed [] part place h = absurd (false≢true h)
manage_in managed (desc ∷ descs) zero place h = let found = manage_among managed desc.ports place h in record { here = omega arith; there = found.0; sort = found.1 }
manage_in managed (desc ∷ descs) (suc part) place h = let rest = manage_in managed descs part place h in record { here = let below = rest.here in omega (arith, below); there = rest.there; sort = rest.sort }

record IsManager (descs : List Desc) (managed : ℕ) (ref : PortRef) : Type 0 where
  some : 0 < ref.handle
  is : IsManageAt descs managed ref.part (ref.handle - 1)

manager_by : (managed : ℕ) (descs : List Desc) (ref : PortRef) (b : Bool) → (ref.handle == 0) ≡ b
    → option_map_or (is_manager managed) (if b then None else option_map_or (λ (desc : Desc). slice_get desc.ports (ref.handle - 1)) (slice_get descs ref.part) None) false ≡ true → IsManager descs managed ref
manager_by managed descs ref true e h = absurd (false≢true h)
manager_by managed descs ref false e h = record { some = let apart = eqb-false ref.handle 0 e in omega (arith, apart); is = manage_in managed descs ref.part (ref.handle - 1) h }

manager_wire : (wiring : Wiring) (ref : PortRef) (managed : ℕ) (port : Port) → is_manager managed port ≡ true → wire_of wiring ref port ≡ Manage managed
manager_wire wiring ref managed (described.Channel rx tx) h = absurd (false≢true h)
manager_wire wiring ref managed described.Send h = absurd (false≢true h)
manager_wire wiring ref managed (described.Receive irq) h = absurd (false≢true h)
manager_wire wiring ref managed (described.Manage part held private) h = ap Manage (eqb-true part managed h)

pub record Manages (network : Network) (managed : ℕ) (ref : PortRef) : Type 0 where
  pub some : 0 < ref.handle
  pub there : ref.handle - 1 < length (wires_at (wires_of network) ref.part)
  pub wire : wire_at (wires_at (wires_of network) ref.part) ref.handle ≡ Manage managed

pub manages : (network : Network) (managed : ℕ) (ref : PortRef) → AreJoined network.descs network.wiring → manager_of network managed ≡ Some ref → Manages network managed ref
unfolding are_managers_joined
manages network managed ref joined e =
    let joins = joined_parts network.descs network.wiring joined in
    let right = (and_parts (length network.wiring.managers == length network.descs) (are_managers_right network.descs 0 network.wiring.managers) joins.managers).1 in
    let by = manager_by managed network.descs ref (ref.handle == 0) refl (right_at network.descs 0 managed managed network.wiring.managers ref right e (omega arith)) in
    let is = by.is in
    let some = by.some in
    let ports : List Port = (slice_index_or network.descs ref.part no_desc).ports in
    let own = wires_there network.wiring 0 network.descs ref.part ref.part is.here (omega arith) in
    let long = ap length own ∙ wires_length network.wiring ref.part 1 ports in
    record {
      some = some;
      there = let below = is.there in omega (arith, long, below);
      wire = ap (λ (ws : List Wire). slice_index_or ws (ref.handle - 1) no_wire) own
          ∙ (wire_there network.wiring ref.part 1 ports (ref.handle - 1) ref.handle described.Send is.there (omega (arith, some))
          ∙ manager_wire network.wiring ref managed (slice_index_or ports (ref.handle - 1) described.Send) is.sort);
    }

-- ---- what handles see

wire_same : (channels : List Waiting) (running : List Bool) (managed : ℕ) (runs : Bool) (wire : Wire) → (wire ≡ Manage managed → ⊥) → end_of channels (slice_set running managed runs) wire ≡ end_of channels running wire
wire_same channels running managed runs (Channel link side) ne = refl
wire_same channels running managed runs (Send bell) ne = refl
wire_same channels running managed runs (Receive bell) ne = refl
wire_same channels running managed runs (Manage part) ne =
    ap (λ (b : Bool). let it : End = record empty_end { runs = b } in it) (get_or-set_other running managed part runs false (λ (q : part ≡ managed). ne (ap Manage q)))

-- of a partition that doesn't manage it
pub marked_elsewhere : (channels : List Waiting) (running : List Bool) (managed : ℕ) (runs : Bool) (wires : List Wire) → ((k : ℕ) → k < length wires → slice_index_or wires k no_wire ≡ Manage managed → ⊥)
    → ends_of channels (slice_set running managed runs) wires ≡ ends_of channels running wires
marked_elsewhere channels running managed runs wires ne =
    map_same (end_of channels (slice_set running managed runs)) (end_of channels running) wires no_wire (λ k there. wire_same channels running managed runs (slice_index_or wires k no_wire) (ne k there))

-- of its manager
pub marked_there : (channels : List Waiting) (running : List Bool) (managed : ℕ) (runs : Bool) (wires : List Wire) (handle : ℕ) → managed < length running → handle - 1 < length wires → wire_at wires handle ≡ Manage managed
    → ((k : ℕ) → k < length wires → slice_index_or wires k no_wire ≡ Manage managed → k ≡ handle - 1)
    → ends_of channels (slice_set running managed runs) wires ≡ told_on (ends_of channels running wires) handle runs
marked_there channels running managed runs wires handle below there e only =
    map_but (end_of channels (slice_set running managed runs)) (end_of channels running) wires no_wire (handle - 1) there
    (λ k within ne. wire_same channels running managed runs (slice_index_or wires k no_wire) (λ q. ne (only k within q)))
    ∙ ap (slice_set (ends_of channels running wires) (handle - 1))
    (ap (end_of channels (slice_set running managed runs)) e
    ∙ (ap (λ (b : Bool). let it : End = record empty_end { runs = b } in it) (get_or-set_same running managed runs false below)
    ∙ ap (λ (end : End). let it : End = record end { runs = runs } in it) (sym (end_here channels running wires handle there ∙ ap (end_of channels running) e))))

-- ---- the machines

some_is : {X : Type 0} (x y : X) → Some x ≡ Some y → x ≡ y
some_is x y e = cc

-- the ends of a partition where the manager is told
told_ends : (held : Held) (managed part : ℕ) (runs : Bool) (ref : PortRef) → IsSystem held → managed < length held.lines.running → part < length held.parts → manager_of (network_of held) managed ≡ Some ref
    → (b : Bool) → (ref.part == part) ≡ b
    → ends_of held.lines.channels (slice_set held.lines.running managed runs) (wires_at (wires_of (network_of held)) part)
    ≡ (if b then told_on (ends_of held.lines.channels held.lines.running (wires_at (wires_of (network_of held)) part)) ref.handle runs
    else ends_of held.lines.channels held.lines.running (wires_at (wires_of (network_of held)) part))
told_ends held managed part runs ref kept below here e b f = by_case b f
  where
    network : Network
    network = network_of held

    within : part < length network.descs
    within = let long : length (descs_of held.parts) ≡ length held.parts = length-map held.parts (λ (p : Part). p.desc) in omega (arith, here, long)

    named : (k : ℕ) → k < length (wires_at (wires_of network) part) → slice_index_or (wires_at (wires_of network) part) k no_wire ≡ Manage managed → same_ref (ref_to part (1 + k)) ref ≡ true
    named k there q =
        let it = wire_named network part k managed kept.joined within there q in
        subst (λ (x : PortRef). same_ref (ref_to part (1 + k)) x ≡ true) (some_is it.other ref (sym it.is ∙ e)) it.same

    by_case : (c : Bool) → (ref.part == part) ≡ c
        → ends_of held.lines.channels (slice_set held.lines.running managed runs) (wires_at (wires_of network) part)
        ≡ (if c then told_on (ends_of held.lines.channels held.lines.running (wires_at (wires_of network) part)) ref.handle runs else ends_of held.lines.channels held.lines.running (wires_at (wires_of network) part))
    by_case false g =
        marked_elsewhere held.lines.channels held.lines.running managed runs (wires_at (wires_of network) part)
        (λ k there q. eqb-false ref.part part g (sym (eqb-true part ref.part (and_parts (part == ref.part) ((1 + k) == ref.handle) (named k there q)).0)))
    by_case true g =
        let m = manages network managed ref kept.joined e in
        let same : ref.part ≡ part = eqb-true ref.part part g in
        let some = m.some in
        marked_there held.lines.channels held.lines.running managed runs (wires_at (wires_of network) part) ref.handle below
        (subst (λ (n : ℕ). ref.handle - 1 < length (wires_at (wires_of network) n)) same m.there) (subst (λ (n : ℕ). wire_at (wires_at (wires_of network) n) ref.handle ≡ Manage managed) same m.wire)
        (λ k there q. let at = eqb-true (1 + k) ref.handle (and_parts (part == ref.part) ((1 + k) == ref.handle) (named k there q)).1 in omega (arith, at))

pub told_machine : (held : Held) (own : Part) (memory : List (List ℕ)) (managed part : ℕ) (runs : Bool) (ref : PortRef) → IsSystem held → managed < length held.lines.running → part < length held.parts
    → manager_of (network_of held) managed ≡ Some ref
    → machine_by own (marked_lines held.lines managed runs) memory part ≡ given_if (ref.part == part) (λ (l : List End). told_on l ref.handle runs) (machine_by own held.lines memory part)
told_machine held own memory managed part runs ref kept below here e =
    subst
    (λ (ws : List (List Wire)).
    machine_of own (ends_of held.lines.channels (slice_set held.lines.running managed runs) (wires_at ws part)) memory
    ≡ given_if (ref.part == part) (λ (l : List End). told_on l ref.handle runs) (machine_of own (ends_of held.lines.channels held.lines.running (wires_at ws part)) memory)) (sym kept.wires)
    (by_case (ref.part == part) refl)
  where
    ends : List End
    ends = ends_of held.lines.channels held.lines.running (wires_at (wires_of (network_of held)) part)

    by_case : (b : Bool) → (ref.part == part) ≡ b
        → machine_of own (ends_of held.lines.channels (slice_set held.lines.running managed runs) (wires_at (wires_of (network_of held)) part)) memory
        ≡ given_if (ref.part == part) (λ (l : List End). told_on l ref.handle runs) (machine_of own ends memory)
    by_case true f =
        ap (λ (l : List End). machine_of own l memory) (told_ends held managed part runs ref kept below here e true f)
        ∙ ap (λ (b : Bool). given_if b (λ (l : List End). told_on l ref.handle runs) (machine_of own ends memory)) (sym f)
    by_case false f =
        ap (λ (l : List End). machine_of own l memory) (told_ends held managed part runs ref kept below here e false f)
        ∙ ap (λ (b : Bool). given_if b (λ (l : List End). told_on l ref.handle runs) (machine_of own ends memory)) (sym f)

-- no handle manages it
unmanaged : (held : Held) (own : Part) (memory : List (List ℕ)) (managed part : ℕ) (runs : Bool) → IsSystem held → part < length held.parts → manager_of (network_of held) managed ≡ None
    → machine_by own (marked_lines held.lines managed runs) memory part ≡ machine_by own held.lines memory part
unmanaged held own memory managed part runs kept here e =
    let network : Network = network_of held in
    let long : length (descs_of held.parts) ≡ length held.parts = length-map held.parts (λ (p : Part). p.desc) in
    subst
    (λ (ws : List (List Wire)).
    machine_of own (ends_of held.lines.channels (slice_set held.lines.running managed runs) (wires_at ws part)) memory
    ≡ machine_of own (ends_of held.lines.channels held.lines.running (wires_at ws part)) memory) (sym kept.wires)
    (ap (λ (l : List End). machine_of own l memory)
    (marked_elsewhere held.lines.channels held.lines.running managed runs (wires_at (wires_of network) part)
    (λ k there q. let it = wire_named network part k managed kept.joined (omega (arith, here, long)) there q in let both : None ≡ Some it.other = sym e ∙ it.is in absurd cc)))

-- A partition doesn't run on, and its manager, if there is one, is told.
pub ended_machines : (held : Held) (stepped heard : List Part) (memory : List (List ℕ)) (core : ℕ) (act : Told) (ranges : List Wrote) (counts : List Counts)
    → IsHeard held stepped heard memory held.lines core act ranges → length held.lines.running ≡ length held.parts
    → machines_of (left_by held heard memory (marked_lines held.lines held.lines.who false) counts)
    ≡ after_log (network_of held) (map delivered (tell_manager (manager_of (network_of held) held.lines.who))) (after_shown (network_of held) (machines_of held) held.lines.who core)
ended_machines held stepped heard memory core act ranges counts h long = by_manager (manager_of (network_of held) held.lines.who) refl
  where
    who : ℕ
    who = held.lines.who

    left : Lines
    left = marked_lines held.lines held.lines.who false

    below : who < length held.lines.running
    below = let there = h.is.who in omega (arith, there, long)

    by_manager : (m : Option PortRef) → manager_of (network_of held) who ≡ m
        → machines_of (left_by held heard memory left counts)
        ≡ after_log (network_of held) (map delivered (tell_manager (manager_of (network_of held) who))) (after_shown (network_of held) (machines_of held) who core)
    by_manager None e =
        none_machines held stepped heard memory held.lines left core act ranges counts h (unmanaged held (part_at heard who) memory who who false h.is.kept h.is.who e)
        (λ part there ne. unmanaged held (part_at heard part) memory who part false h.is.kept there e)
        ∙ ap (λ (m : Option PortRef). after_log (network_of held) (map delivered (tell_manager m)) (after_shown (network_of held) (machines_of held) who core)) (sym e)
    by_manager (Some ref) e =
        event_machines held stepped heard memory held.lines left core act ranges counts ref.part (Tells ref.handle false) (λ (l : List End). told_on l ref.handle false) h (is_told ref.handle false)
        (told_machine held (part_at heard who) memory who who false ref h.is.kept below h.is.who e) (λ part there ne. told_machine held (part_at heard part) memory who part false ref h.is.kept below there e)
        ∙ ap (λ (m : Option PortRef). after_log (network_of held) (map delivered (tell_manager m)) (after_shown (network_of held) (machines_of held) who core)) (sym e)
