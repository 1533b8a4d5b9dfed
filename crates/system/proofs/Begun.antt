-- The machines where a partition was started, restarted or stopped by its manager, or restarted itself.
use Rattle.std.proofs.Common.{◌≡◌, ℕ, ◌<◌, ◌==◌, Bool, true, false, if◌then◌else◌, List, [], ◌∷◌, length, length-set, map, slice_set, refl, sym, ap, subst, ◌∙◌, arith}
use Rattle.std.specs.List.{list_any}
use Rattle.std.proofs.lemmas.Bool.{eqb-true, eqb-false, eq-eqb}
use Rattle.std.proofs.lemmas.List.{length-map, get_or-set_same, get_or-set_other}
use Rattle.core_step.specs.declared.answer.Wrote.{Wrote}
use Rattle.ground.specs.Extents.{extent_at}
use Rattle.ground.specs.Own.{own_of}
use Rattle.machine_desc.specs.declared.act.Act.{Act as Told}
use Rattle.machine_desc.specs.declared.desc.Desc.{Desc}
use Rattle.machine_desc.specs.declared.desc.Region.{Region}
use Rattle.machine_desc.specs.Joined.{names_extent}
use Rattle.fresh_load.specs.Placed.{extents_of, is_private_extent}
use Rattle.partition.specs.Port.{End, emptied}
use Rattle.partition.specs.Event.{Event, Stop, apply}
use Rattle.partition.specs.Machine.{Machine, fresh}
use Rattle.partition.specs.Lending.{Part as Member, machine_of}
use Rattle.network.specs.Network.{Network, no_desc, desc_at}
use Rattle.network.specs.World.{Counts, Delivery, to_part, delivered, machine_at, after_log}
use Rattle.network.specs.Effects.{returned_room}
use Rattle.system.specs.declared.wire.Wire.{Wire}
use Rattle.system.specs.Board.{Lines, AreWires, ends_of, wires_at, all_cleared, emptied_lines}
use Rattle.system.specs.Channels.{wires_of}
use Rattle.system.specs.System.{Held, no_part, part_at, descs_of, network_of, machine_by, machines_of, IsSystem}
use Rattle.system.specs.Turning.{Begins, marked_lines, stopped_part}
use Rattle.system.proofs.Far.{part_wires}
use Rattle.system.proofs.Loaded.{private_apart, own_same}
use Rattle.system.proofs.Emptied.{freed_all, rooms_free, own_emptied, others_freed, own_unfreed, from_first}
use Rattle.system.proofs.Opened.{machine_there}
use Rattle.system.proofs.Delivered.{with_ports}
use Rattle.system.proofs.Shown.{after_shown}
use Rattle.system.proofs.Fed.{desc_there}
use Rattle.system.proofs.Told.{IsHeard, heard_long, heard_desc}
use Rattle.system.proofs.Acts.{left_by}
use Rattle.system.proofs.Commanded.{IsCommand, marked_other}
use Rattle.system.proofs.Logged.{after_deliveries, given_to, one_more, logged_machines}

-- ---- a partition's machine, and the room that another gets from it

abbrev ends_in : Held → ℕ → List End
ends_in held part = ends_of held.lines.channels held.lines.running (wires_at held.lines.wires part)

-- a partition's wires lead to channels and partitions that are there
wires_are : (held : Held) (part : ℕ) → IsSystem held → part < length held.parts → AreWires (length held.lines.channels) (length (descs_of held.parts)) (wires_at (wires_of (network_of held)) part)
wires_are held part kept here =
    let long : length (descs_of held.parts) ≡ length held.parts = length-map held.parts (λ (p : Member). p.desc) in
    subst (λ (n : ℕ). AreWires n (length (descs_of held.parts)) (wires_at (wires_of (network_of held)) part)) (sym kept.channels) (part_wires (network_of held) part kept.joined (omega (arith, here, long)))

-- what a partition sees once all that waits for one of them was dropped
cleared_machine : (held : Held) (own : Member) (memory : List (List ℕ)) (running : List Bool) (part other : ℕ) → IsSystem held → part < length held.parts → other < length held.parts → (other ≡ part → ⊥)
    → machine_of own (ends_of (all_cleared (wires_at held.lines.wires part) held.lines.channels) running (wires_at held.lines.wires other)) memory
    ≡ with_ports (freed_all (network_of held) part 1 (ends_of held.lines.channels running (wires_at held.lines.wires part)) other (ends_of held.lines.channels running (wires_at held.lines.wires other)))
    (machine_of own (ends_of held.lines.channels running (wires_at held.lines.wires other)) memory)
cleared_machine held own memory running part other kept here there ne =
    let long : length (descs_of held.parts) ≡ length held.parts = length-map held.parts (λ (p : Member). p.desc) in
    subst
    (λ (ws : List (List Wire)).
    machine_of own (ends_of (all_cleared (wires_at ws part) held.lines.channels) running (wires_at ws other)) memory
    ≡ machine_of own (freed_all (network_of held) part 1 (ends_of held.lines.channels running (wires_at ws part)) other (ends_of held.lines.channels running (wires_at ws other))) memory) (sym kept.wires)
    (
    ap (λ (l : List End). machine_of own l memory)
    (others_freed (network_of held) running part other kept.joined (omega (arith, here, long)) (omega (arith, there, long)) ne (wires_at (wires_of (network_of held)) part) 1 held.lines.channels kept.channels
    (wires_are held part kept here) (from_first (network_of held) part))
    )

-- the room that comes back to a partition from another one, by what the machines were
room_there : (held : Held) (part other : ℕ) (desc : Desc) (machine : Machine) → IsSystem held → part < length held.parts
    → after_deliveries desc other (returned_room (network_of held) (machines_of held) part) machine ≡ with_ports (freed_all (network_of held) part 1 (ends_in held part) other machine.ports) machine
room_there held part other desc machine kept here =
    rooms_free (network_of held) part 1 (machine_at (machines_of held) part).ports other desc machine
    ∙ ap (λ (m : Machine). with_ports (freed_all (network_of held) part 1 m.ports other machine.ports) machine) (machine_there held part (fresh no_desc) here)

-- ---- another partition's memory

pub unnamed_private : (held : Held) (part other extent : ℕ) → IsSystem held → part < length held.parts → other < length held.parts → (other ≡ part → ⊥)
    → list_any (λ (region : Region). region.extent == extent) (part_at held.parts other).desc.regions ≡ true → is_private_extent (part_at held.parts part).desc.regions extent ≡ false
unnamed_private held part other extent kept here there ne named = by_case (is_private_extent (part_at held.parts part).desc.regions extent) refl
  where
    by_case : (b : Bool) → is_private_extent (part_at held.parts part).desc.regions extent ≡ b → is_private_extent (part_at held.parts part).desc.regions extent ≡ false
    by_case false e = e
    by_case true e =
        let long : length (descs_of held.parts) ≡ length held.parts = length-map held.parts (λ (p : Member). p.desc) in
        absurd
        (ne
        (sym
        (private_apart (descs_of held.parts) held.wiring part other extent kept.joined (omega (arith, long, here)) (omega (arith, long, there))
        (subst (λ (d : Desc). is_private_extent d.regions extent ≡ true) (sym (desc_there held part here)) e)
        (subst (λ (d : Desc). names_extent extent d ≡ true) (sym (desc_there held other there)) named))))

-- it stays where only private bytes of one change
pub memory_stays : (held : Held) (before after : List (List ℕ)) (part other : ℕ) → IsSystem held → part < length held.parts → other < length held.parts → (other ≡ part → ⊥)
    → ((extent : ℕ) → is_private_extent (part_at held.parts part).desc.regions extent ≡ false → extent_at after extent ≡ extent_at before extent)
    → own_of (extents_of (part_at held.parts other).desc.regions) after ≡ own_of (extents_of (part_at held.parts other).desc.regions) before
memory_stays held before after part other kept here there ne h =
    own_same (part_at held.parts other).desc.regions before after (λ extent named. h extent (unnamed_private held part other extent kept here there ne named))

-- ---- a partition that restarts itself

unfreed_in : (held : Held) (part : ℕ) (left : List End) → IsSystem held → part < length held.parts → freed_all (network_of held) part 1 (ends_in held part) part left ≡ left
unfreed_in held part left kept here =
    let long : length (descs_of held.parts) ≡ length held.parts = length-map held.parts (λ (p : Member). p.desc) in
    subst (λ (ws : List (List Wire)). freed_all (network_of held) part 1 (ends_of held.lines.channels held.lines.running (wires_at ws part)) part left ≡ left) (sym kept.wires)
    (own_unfreed (network_of held) held.lines.channels held.lines.running part kept.joined (omega (arith, here, long)) (wires_at (wires_of (network_of held)) part) 1 left (from_first (network_of held) part))

-- its own machine hears nothing of the room
no_room : (held : Held) (part : ℕ) (desc : Desc) (machine : Machine) → IsSystem held → part < length held.parts
    → after_deliveries desc part (returned_room (network_of held) (machines_of held) part) machine ≡ machine
no_room held part desc machine kept here =
    room_there held part part desc machine kept here ∙ ap (λ (l : List End). with_ports l machine) (unfreed_in held part machine.ports kept here)

pub self_restarted_machines : (held : Held) (stepped heard : List Member) (memory : List (List ℕ)) (lines : Lines) (core : ℕ) (act : Told) (ranges : List Wrote) (counts : List Counts)
    → IsHeard held stepped heard memory lines core act ranges → lines ≡ emptied_lines held.lines held.lines.who
    → machines_of (left_by held heard memory lines counts)
    ≡ after_log (network_of held) (map delivered (returned_room (network_of held) (machines_of held) held.lines.who)) (after_shown (network_of held) (machines_of held) held.lines.who core)
self_restarted_machines held stepped heard memory lines core act ranges counts h is =
    let who : ℕ = held.lines.who in
    let network : Network = network_of held in
    let kept = h.is.kept in
    let here = h.is.who in
    logged_machines held stepped heard heard memory memory lines lines core act ranges counts (map delivered (returned_room network (machines_of held) who)) h
    (heard_long held stepped heard memory lines core act ranges h)
    (sym (no_room held who (desc_at network who) (machine_by (part_at heard who) lines memory who) kept here))
    (
    λ part there ne.
    ap (λ (ls : Lines). machine_by (part_at heard part) ls memory part) is
    ∙ (cleared_machine held (part_at heard part) memory held.lines.running who part kept here there ne
    ∙ sym (room_there held who part (desc_at network part) (machine_by (part_at heard part) held.lines memory part) kept here))
    )

-- ---- a partition that its manager starts or restarts

pub given_other : (desc : Desc) (target part : ℕ) (event : Event) (machine : Machine) → (target ≡ part → ⊥) → given_to desc part (to_part target event) machine ≡ machine
given_other desc target part event machine ne = by_part (target == part) refl
  where
    by_part : (b : Bool) → (target == part) ≡ b → given_to desc part (to_part target event) machine ≡ machine
    by_part false e = ap (λ (b : Bool). if b then apply desc machine event else machine) e
    by_part true e = absurd (ne (eqb-true target part e))

pub given_own : (desc : Desc) (part : ℕ) (event : Event) (machine : Machine) → given_to desc part (to_part part event) machine ≡ apply desc machine event
given_own desc part event machine = ap (λ (b : Bool). if b then apply desc machine event else machine) (eq-eqb part part refl)

-- the ends of the managed one don't show that it is marked
ends_unmarked : (held : Held) (handle : ℕ) (runs : Bool) → IsSystem held → (it : IsCommand held handle)
    → ends_of held.lines.channels (slice_set held.lines.running it.managed runs) (wires_at held.lines.wires it.managed) ≡ ends_in held it.managed
ends_unmarked held handle runs kept it =
    ap (λ (m : Machine). m.ports) (marked_other held handle (part_at held.parts it.managed) held.memory it.managed runs kept it it.below (λ e. it.apart (sym e)))

other_there : (parts rung : List Member) (managed part : ℕ) (own : Member) → rung ≡ slice_set parts managed own → (part ≡ managed → ⊥) → part_at rung part ≡ part_at parts part
other_there parts rung managed part own e ne = ap (λ (ps : List Member). part_at ps part) e ∙ get_or-set_other parts managed part own no_part ne

pub begun_machines : (held : Held) (stepped heard rung : List Member) (memory loaded : List (List ℕ)) (lines left : Lines) (core : ℕ) (act : Told) (ranges : List Wrote) (counts : List Counts) (handle : ℕ) (event : Event)
    → IsHeard held stepped heard memory lines core act ranges → (it : IsCommand held handle) → lines ≡ marked_lines held.lines it.managed true
    → Begins event it.managed heard rung memory loaded → left ≡ emptied_lines (marked_lines held.lines it.managed true) it.managed
    → machines_of (left_by held rung loaded left counts)
    ≡ after_log (network_of held) (map delivered (to_part it.managed event ∷ returned_room (network_of held) (machines_of held) it.managed)) (after_shown (network_of held) (machines_of held) held.lines.who core)
begun_machines held stepped heard rung memory loaded lines left core act ranges counts handle event h it is b l =
    logged_machines held stepped heard rung memory loaded lines left core act ranges counts (map delivered (to_part managed event ∷ returned_room network (machines_of held) managed)) h
    (ap length b.parts ∙ (length-set heard managed (part_at rung managed) ∙ heard_long held stepped heard memory lines core act ranges h))
    (away who h.is.who (λ e. it.apart (sym e)) (machine_by (part_at heard who) lines memory who) (ap (λ (ls : Lines). machine_by (part_at heard who) ls memory who) (sym is)))
    (λ part there ne. by_part part there ne (part == managed) refl)
  where
    network : Network
    network = network_of held

    who : ℕ
    who = held.lines.who

    managed : ℕ
    managed = it.managed

    marked : Lines
    marked = marked_lines held.lines it.managed true

    desc_of : (part : ℕ) → part < length held.parts → (part_at heard part).desc ≡ (part_at held.parts part).desc
    desc_of part there = heard_desc held stepped heard memory lines core act ranges part h there

    others : (extent : ℕ) → is_private_extent (part_at held.parts it.managed).desc.regions extent ≡ false → extent_at loaded extent ≡ extent_at memory extent
    others extent e = b.others extent (ap (λ (d : Desc). is_private_extent d.regions extent) (desc_of it.managed it.below) ∙ e)

    bytes : (part : ℕ) → part < length held.parts → (part ≡ it.managed → ⊥) → own_of (extents_of (part_at heard part).desc.regions) loaded ≡ own_of (extents_of (part_at heard part).desc.regions) memory
    bytes part there ne =
        subst (λ (d : Desc). own_of (extents_of d.regions) loaded ≡ own_of (extents_of d.regions) memory) (sym (desc_of part there))
        (memory_stays held memory loaded it.managed part h.is.kept it.below there ne others)

    away : (part : ℕ) → part < length held.parts → (part ≡ it.managed → ⊥) → (machine : Machine) → machine_by (part_at heard part) (marked_lines held.lines it.managed true) memory part ≡ machine
        → machine_by (part_at rung part) left loaded part
        ≡ after_deliveries (desc_at (network_of held) part) part (to_part it.managed event ∷ returned_room (network_of held) (machines_of held) it.managed) machine
    away part there ne machine e =
        let running : List Bool = slice_set held.lines.running it.managed true in
        let room : List Delivery = returned_room (network_of held) (machines_of held) it.managed in
        ap (λ (ls : Lines). machine_by (part_at rung part) ls loaded part) l
        ∙ (ap (λ (p : Member). machine_by p (emptied_lines (marked_lines held.lines it.managed true) it.managed) loaded part) (other_there heard rung it.managed part (part_at rung it.managed) b.parts ne)
        ∙ (
        ap (λ (own : List (List ℕ)). let m : Machine = record { inner = (part_at heard part).inner; ports = ends_of (all_cleared (wires_at held.lines.wires it.managed) held.lines.channels) running (wires_at held.lines.wires part); memory = own } in m)
        (bytes part there ne)
        ∙ (cleared_machine held (part_at heard part) memory running it.managed part h.is.kept it.below there ne
        ∙ (ap (λ (m : Machine). with_ports (freed_all (network_of held) it.managed 1 (ends_of held.lines.channels running (wires_at held.lines.wires it.managed)) part m.ports) m) e
        ∙ (ap (λ (l : List End). with_ports (freed_all (network_of held) it.managed 1 l part machine.ports) machine) (ends_unmarked held handle true h.is.kept it)
        ∙ (sym (room_there held it.managed part (desc_at (network_of held) part) machine h.is.kept it.below)
        ∙ (ap (after_deliveries (desc_at (network_of held) part) part room) (sym (given_other (desc_at (network_of held) part) it.managed part event machine (λ q. ne (sym q))))
        ∙ sym (one_more (desc_at (network_of held) part) part (to_part it.managed event) room machine)))))))
        )

    at_managed : machine_by (part_at rung it.managed) left loaded it.managed
        ≡ after_deliveries (desc_at (network_of held) it.managed) it.managed (to_part it.managed event ∷ returned_room (network_of held) (machines_of held) it.managed)
        (machine_by (part_at heard it.managed) held.lines memory it.managed)
    at_managed =
        let running : List Bool = slice_set held.lines.running it.managed true in
        let d : Desc = desc_at (network_of held) it.managed in
        let machine : Machine = machine_by (part_at heard it.managed) held.lines memory it.managed in
        let room : List Delivery = returned_room (network_of held) (machines_of held) it.managed in
        let below = it.below in
        let same : d ≡ (part_at heard it.managed).desc = desc_there held it.managed it.below ∙ sym (desc_of it.managed it.below) in
        let cleared : ends_of (all_cleared (wires_at held.lines.wires it.managed) held.lines.channels) running (wires_at held.lines.wires it.managed) ≡ emptied (ends_of held.lines.channels running (wires_at held.lines.wires it.managed)) =
        subst
        (λ (ws : List (List Wire)). ends_of (all_cleared (wires_at ws it.managed) held.lines.channels) running (wires_at ws it.managed) ≡ emptied (ends_of held.lines.channels running (wires_at ws it.managed)))
        (sym h.is.kept.wires) (own_emptied (wires_at (wires_of (network_of held)) it.managed) held.lines.channels running (length (descs_of held.parts)) (wires_are held it.managed h.is.kept below)) in
        ap (λ (ls : Lines). machine_by (part_at rung it.managed) ls loaded it.managed) l
        ∙ (ap (λ (ends : List End). machine_of (part_at rung it.managed) ends loaded) (cleared ∙ ap emptied (ends_unmarked held handle true h.is.kept it))
        ∙ (b.machine (ends_in held it.managed)
        ∙ (ap (λ (e : Desc). apply e machine event) (sym same)
        ∙ (sym (given_own d it.managed event machine)
        ∙ (sym (no_room held it.managed d (given_to d it.managed (to_part it.managed event) machine) h.is.kept it.below)
        ∙ sym (one_more d it.managed (to_part it.managed event) room machine))))))

    by_part : (part : ℕ) → part < length held.parts → (part ≡ held.lines.who → ⊥) → (c : Bool) → (part == it.managed) ≡ c
        → machine_by (part_at rung part) left loaded part
        ≡ after_deliveries (desc_at (network_of held) part) part (to_part it.managed event ∷ returned_room (network_of held) (machines_of held) it.managed) (machine_by (part_at heard part) held.lines memory part)
    by_part part there ne false e =
        away part there (eqb-false part it.managed e) (machine_by (part_at heard part) held.lines memory part) (marked_other held handle (part_at heard part) memory part true h.is.kept it there (λ q. ne (sym q)))
    by_part part there ne true e =
        subst
        (λ (n : ℕ).
        machine_by (part_at rung n) left loaded n
        ≡ after_deliveries (desc_at (network_of held) n) n (to_part it.managed event ∷ returned_room (network_of held) (machines_of held) it.managed) (machine_by (part_at heard n) held.lines memory n))
        (sym (eqb-true part it.managed e)) at_managed

-- ---- a partition that its manager stops

stop_is : (desc : Desc) (own : Member) (ends : List End) (memory : List (List ℕ)) → machine_of (stopped_part own) ends memory ≡ apply desc (machine_of own ends memory) Stop
unfolding apply
stop_is desc own ends memory = refl

pub stopped_machines : (held : Held) (stepped heard rung : List Member) (memory : List (List ℕ)) (lines left : Lines) (core : ℕ) (act : Told) (ranges : List Wrote) (counts : List Counts) (handle : ℕ)
    → IsHeard held stepped heard memory lines core act ranges → (it : IsCommand held handle) → lines ≡ marked_lines held.lines it.managed false
    → rung ≡ slice_set heard it.managed (stopped_part (part_at heard it.managed)) → left ≡ marked_lines held.lines it.managed false
    → machines_of (left_by held rung memory left counts)
    ≡ after_log (network_of held) (map delivered (to_part it.managed Stop ∷ [])) (after_shown (network_of held) (machines_of held) held.lines.who core)
stopped_machines held stepped heard rung memory lines left core act ranges counts handle h it is r l =
    logged_machines held stepped heard rung memory memory lines left core act ranges counts (map delivered (to_part it.managed Stop ∷ [])) h
    (ap length r ∙ (length-set heard it.managed (stopped_part (part_at heard it.managed)) ∙ heard_long held stepped heard memory lines core act ranges h))
    (away held.lines.who h.is.who (λ e. it.apart (sym e)) (machine_by (part_at heard held.lines.who) lines memory held.lines.who) (ap (λ (ls : Lines). machine_by (part_at heard held.lines.who) ls memory held.lines.who) (sym is)))
    (λ part there ne. by_part part there ne (part == it.managed) refl)
  where
    away : (part : ℕ) → part < length held.parts → (part ≡ it.managed → ⊥) → (machine : Machine) → machine_by (part_at heard part) (marked_lines held.lines it.managed false) memory part ≡ machine
        → machine_by (part_at rung part) left memory part ≡ after_deliveries (desc_at (network_of held) part) part (to_part it.managed Stop ∷ []) machine
    away part there ne machine e =
        ap (λ (ls : Lines). machine_by (part_at rung part) ls memory part) l
        ∙ (ap (λ (p : Member). machine_by p (marked_lines held.lines it.managed false) memory part) (other_there heard rung it.managed part (stopped_part (part_at heard it.managed)) r ne)
        ∙ (e
        ∙ (sym (given_other (desc_at (network_of held) part) it.managed part Stop machine (λ q. ne (sym q)))
        ∙ sym (one_more (desc_at (network_of held) part) part (to_part it.managed Stop) [] machine))))

    at_managed : machine_by (part_at rung it.managed) left memory it.managed
        ≡ after_deliveries (desc_at (network_of held) it.managed) it.managed (to_part it.managed Stop ∷ []) (machine_by (part_at heard it.managed) held.lines memory it.managed)
    at_managed =
        let d : Desc = desc_at (network_of held) it.managed in
        let machine : Machine = machine_by (part_at heard it.managed) held.lines memory it.managed in
        let long = heard_long held stepped heard memory lines core act ranges h in
        let below = it.below in
        ap (λ (ls : Lines). machine_by (part_at rung it.managed) ls memory it.managed) l
        ∙ (ap (λ (p : Member). machine_by p (marked_lines held.lines it.managed false) memory it.managed)
        (ap (λ (ps : List Member). part_at ps it.managed) r ∙ get_or-set_same heard it.managed (stopped_part (part_at heard it.managed)) no_part (omega (arith, below, long)))
        ∙ (ap (λ (ends : List End). machine_of (stopped_part (part_at heard it.managed)) ends memory) (ends_unmarked held handle false h.is.kept it)
        ∙ (stop_is d (part_at heard it.managed) (ends_in held it.managed) memory
        ∙ (sym (given_own d it.managed Stop machine) ∙ sym (one_more d it.managed (to_part it.managed Stop) [] machine)))))

    by_part : (part : ℕ) → part < length held.parts → (part ≡ held.lines.who → ⊥) → (c : Bool) → (part == it.managed) ≡ c
        → machine_by (part_at rung part) left memory part ≡ after_deliveries (desc_at (network_of held) part) part (to_part it.managed Stop ∷ []) (machine_by (part_at heard part) held.lines memory part)
    by_part part there ne false e =
        away part there (eqb-false part it.managed e) (machine_by (part_at heard part) held.lines memory part) (marked_other held handle (part_at heard part) memory part false h.is.kept it there (λ q. ne (sym q)))
    by_part part there ne true e =
        subst
        (λ (n : ℕ). machine_by (part_at rung n) left memory n ≡ after_deliveries (desc_at (network_of held) n) n (to_part it.managed Stop ∷ []) (machine_by (part_at heard n) held.lines memory n))
        (sym (eqb-true part it.managed e)) at_managed
