-- The machines after a step, what others saw of it, and the events of its act.
use Rattle.std.proofs.Common.{◌≡◌, ◌≢◌, ℕ, zero, suc, ◌+◌, ◌-◌, ◌<◌, ◌==◌, Bool, true, false, List, [], ◌∷◌, length, map, slice_index_or, slice_set, Some, refl, sym, ap, subst, ◌∙◌, arith}
use Rattle.std.proofs.lemmas.Bool.{eqb-true, eqb-false, eq-eqb}
use Rattle.std.proofs.lemmas.List.{length-map}
use Rattle.core_step.specs.declared.answer.Wrote.{Wrote}
use Rattle.machine_desc.specs.declared.act.Act.{Act as Told}
use Rattle.machine_desc.specs.declared.wiring.PortRef.{PortRef}
use Rattle.machine_desc.specs.declared.wiring.End.TheVariants.{Part, Console}
use Rattle.partition.specs.declared.kind.Kind.TheVariants as kind
use Rattle.partition.specs.Port.{End, kind_at, empty_end, kinds_of as described_kinds, sent_on, come_on, freed_on}
use Rattle.partition.specs.Event.{Event, Bytes, Room}
use Rattle.partition.specs.Machine.{Machine}
use Rattle.partition.specs.Lending.{Part as Member, machine_of}
use Rattle.network.specs.Network.{Network, far_of}
use Rattle.network.specs.World.{Counts, machine_at, to_part, delivered, after_log}
use Rattle.network.specs.Effects.{sent_to, room_at}
use Rattle.system.specs.declared.wire.Wire.{Wire}
use Rattle.system.specs.declared.wire.Wire.TheVariants.{Channel}
use Rattle.system.specs.Board.{Lines, AreWires, kinds_of, ends_of, wires_at, own_wire, sent_by, taken_by}
use Rattle.system.specs.Wired.{opening_lines}
use Rattle.system.specs.System.{Held, part_at, descs_of, network_of, machine_by, machines_of, IsSystem}
use Rattle.system.proofs.Fresh.{open_fresh}
use Rattle.system.proofs.Handles.{is_there}
use Rattle.system.proofs.Seen.{ends_sent}
use Rattle.system.proofs.Far.{IsOwn, own, part_wires}
use Rattle.system.proofs.Delivered.{ChangesPorts, given_if, bytes_come, room_comes, one_event}
use Rattle.system.proofs.Shown.{after_shown}
use Rattle.system.proofs.Fed.{desc_there}
use Rattle.system.proofs.Told.{IsHeard, heard_long, own_told, other_told, all_machines, shown_length}
use Rattle.system.proofs.Sendings.{far_elsewhere, sent_other, taken_other, taken_from_console}

-- ---- no event, and one

-- what is left once the act is settled
abbrev pub left_by : Held → List Member → List (List ℕ) → Lines → List Counts → Held
left_by held parts memory lines counts = record { parts = parts; memory = memory; lines = lines; wiring = held.wiring; counts = counts }

pub none_machines : (held : Held) (stepped heard : List Member) (memory : List (List ℕ)) (lines left : Lines) (core : ℕ) (act : Told) (ranges : List Wrote) (counts : List Counts)
    → IsHeard held stepped heard memory lines core act ranges
    → machine_by (part_at heard held.lines.who) left memory held.lines.who ≡ machine_by (part_at heard held.lines.who) lines memory held.lines.who
    → ((part : ℕ) → part < length held.parts → part ≢ held.lines.who → machine_by (part_at heard part) left memory part ≡ machine_by (part_at heard part) held.lines memory part)
    → machines_of (left_by held heard memory left counts) ≡ after_log (network_of held) [] (after_shown (network_of held) (machines_of held) held.lines.who core)
none_machines held stepped heard memory lines left core act ranges counts h own_is others =
    let network : Network = network_of held in
    let machines : List Machine = after_shown network (machines_of held) held.lines.who core in
    let long = heard_long held stepped heard memory lines core act ranges h in
    let shown_long = shown_length held held.lines.who core in
    all_machines (left_by held heard memory left counts) network [] machines (omega (arith, long, shown_long)) (λ part there. by_place part (omega (arith, there, shown_long)) (part == held.lines.who) refl)
  where
    by_place : (part : ℕ) → part < length held.parts → (b : Bool) → (part == held.lines.who) ≡ b
        → machine_by (part_at heard part) left memory part ≡ machine_at (after_shown (network_of held) (machines_of held) held.lines.who core) part
    by_place part there false e = others part there (eqb-false part held.lines.who e) ∙ sym (other_told held stepped heard memory lines core act ranges part h there e)
    by_place part there true e =
        subst (λ (n : ℕ). machine_by (part_at heard n) left memory n ≡ machine_at (after_shown (network_of held) (machines_of held) held.lines.who core) n) (sym (eqb-true part held.lines.who e))
        (own_is ∙ sym (own_told held stepped heard memory lines core act ranges h))

pub event_machines : (held : Held) (stepped heard : List Member) (memory : List (List ℕ)) (lines left : Lines) (core : ℕ) (act : Told) (ranges : List Wrote) (counts : List Counts)
    (target : ℕ) (event : Event) (f : List End → List End)
    → IsHeard held stepped heard memory lines core act ranges → ChangesPorts event f
    → machine_by (part_at heard held.lines.who) left memory held.lines.who ≡ given_if (target == held.lines.who) f (machine_by (part_at heard held.lines.who) lines memory held.lines.who)
    → ((part : ℕ) → part < length held.parts → part ≢ held.lines.who
    → machine_by (part_at heard part) left memory part ≡ given_if (target == part) f (machine_by (part_at heard part) held.lines memory part))
    → machines_of (left_by held heard memory left counts)
    ≡ after_log (network_of held) (delivered (to_part target event) ∷ []) (after_shown (network_of held) (machines_of held) held.lines.who core)
event_machines held stepped heard memory lines left core act ranges counts target event f h changes own_is others =
    let network : Network = network_of held in
    let machines : List Machine = after_shown network (machines_of held) held.lines.who core in
    let long = heard_long held stepped heard memory lines core act ranges h in
    let shown_long = shown_length held held.lines.who core in
    all_machines (left_by held heard memory left counts) network (delivered (to_part target event) ∷ []) machines (omega (arith, long, shown_long))
    (λ part there. by_place part (omega (arith, there, shown_long)) (part == held.lines.who) refl ∙ sym (one_event network machines target part event f there changes))
  where
    by_place : (part : ℕ) → part < length held.parts → (b : Bool) → (part == held.lines.who) ≡ b
        → machine_by (part_at heard part) left memory part ≡ given_if (target == part) f (machine_at (after_shown (network_of held) (machines_of held) held.lines.who core) part)
    by_place part there false e =
        others part there (eqb-false part held.lines.who e) ∙ ap (given_if (target == part) f) (sym (other_told held stepped heard memory lines core act ranges part h there e))
    by_place part there true e =
        subst (λ (n : ℕ). machine_by (part_at heard n) left memory n ≡ given_if (target == n) f (machine_at (after_shown (network_of held) (machines_of held) held.lines.who core) n))
        (sym (eqb-true part held.lines.who e))
        (own_is ∙ ap (given_if (target == held.lines.who) f) (sym (own_told held stepped heard memory lines core act ranges h)))

-- ---- handles

-- the handles of a partition are those of its description
pub kinds_are : (held : Held) (part : ℕ) → IsSystem held → part < length held.parts → kinds_of (wires_at held.lines.wires part) ≡ described_kinds (part_at held.parts part).desc.ports
unfolding opening_lines
kinds_are held part kept there =
    let long : length (descs_of held.parts) ≡ length held.parts = length-map held.parts (λ (p : Member). p.desc) in
    ap (λ (ws : List (List Wire)). kinds_of (wires_at ws part)) kept.wires
    ∙ ((open_fresh (network_of held) part kept.joined (omega (arith, there, long))).kinds
    ∙ ap (λ (d : _). described_kinds d.ports) (desc_there held part there))

abbrev pub IsChannel : Held → ℕ → Type 0
IsChannel held handle = kind_at (kinds_of (wires_at held.lines.wires held.lines.who)) handle ≡ Some kind.Channel

pub own_end : (held : Held) (handle : ℕ) → IsSystem held → held.lines.who < length held.parts → IsChannel held handle → IsOwn (network_of held) held.lines.who handle
own_end held handle kept there sort =
    let long : length (descs_of held.parts) ≡ length held.parts = length-map held.parts (λ (p : Member). p.desc) in
    own (network_of held) held.lines.who handle kept.joined (omega (arith, there, long))
    (subst (λ (ws : List (List Wire)). kind_at (kinds_of (wires_at ws held.lines.who)) handle ≡ Some kind.Channel) kept.wires sort)

given_not : (target part : ℕ) (f : List End → List End) (machine : Machine) → (target ≡ part → ⊥) → machine ≡ given_if (target == part) f machine
given_not target part f machine ne = by_case (target == part) refl
  where
    by_case : (b : Bool) → (target == part) ≡ b → machine ≡ given_if (target == part) f machine
    by_case false e = ap (λ (b : Bool). given_if b f machine) (sym e)
    by_case true e = absurd (ne (eqb-true target part e))

-- ---- sent and taken

abbrev pub sent_lines : Lines → ℕ → List ℕ → Lines
sent_lines lines handle bytes = record lines { channels = sent_by lines.channels (own_wire lines handle) bytes }

abbrev pub taken_lines : Lines → ℕ → ℕ → Lines
taken_lines lines handle count = record lines { channels = taken_by lines.channels (own_wire lines handle) count }

pub sent_to_part : (held : Held) (stepped heard : List Member) (memory : List (List ℕ)) (core : ℕ) (act : Told) (ranges : List Wrote) (counts : List Counts) (handle : ℕ) (bytes : List ℕ) (ref : PortRef)
    → IsHeard held stepped heard memory (sent_lines held.lines handle bytes) core act ranges → IsChannel held handle → far_of (network_of held) held.lines.who handle ≡ Some (Part ref)
    → machines_of (left_by held heard memory (sent_lines held.lines handle bytes) counts)
    ≡ after_log (network_of held) (map delivered (sent_to (Some (Part ref)) held.lines.who handle bytes)) (after_shown (network_of held) (machines_of held) held.lines.who core)
sent_to_part held stepped heard memory core act ranges counts handle bytes ref h sort far =
    let who : ℕ = held.lines.who in
    let left : Lines = sent_lines held.lines handle bytes in
    let f : List End → List End = λ l. come_on l ref.handle bytes in
    let kept = h.is.kept in
    event_machines held stepped heard memory left left core act ranges counts ref.part (Bytes ref.handle bytes) f h (bytes_come ref.handle bytes)
    (given_not ref.part who f (machine_by (part_at heard who) left memory who) (far_elsewhere (network_of held) who handle ref kept.joined (own_end held handle kept h.is.who sort) far))
    (λ part there ne. sent_other held (part_at heard part) memory handle part bytes ref kept h.is.who there ne sort far)

pub taken_from_part : (held : Held) (stepped heard : List Member) (memory : List (List ℕ)) (core : ℕ) (act : Told) (ranges : List Wrote) (counts : List Counts) (handle count : ℕ) (ref : PortRef)
    → IsHeard held stepped heard memory (taken_lines held.lines handle count) core act ranges → IsChannel held handle → far_of (network_of held) held.lines.who handle ≡ Some (Part ref)
    → machines_of (left_by held heard memory (taken_lines held.lines handle count) counts)
    ≡ after_log (network_of held) (map delivered (room_at (Some (Part ref)) count)) (after_shown (network_of held) (machines_of held) held.lines.who core)
taken_from_part held stepped heard memory core act ranges counts handle count ref h sort far =
    let who : ℕ = held.lines.who in
    let left : Lines = taken_lines held.lines handle count in
    let f : List End → List End = λ l. freed_on l ref.handle count in
    let kept = h.is.kept in
    event_machines held stepped heard memory left left core act ranges counts ref.part (Room ref.handle count) f h (room_comes ref.handle count)
    (given_not ref.part who f (machine_by (part_at heard who) left memory who) (far_elsewhere (network_of held) who handle ref kept.joined (own_end held handle kept h.is.who sort) far))
    (λ part there ne. taken_other held (part_at heard part) memory handle part count ref kept h.is.who there ne sort far)

pub taken_at_console : (held : Held) (stepped heard : List Member) (memory : List (List ℕ)) (core : ℕ) (act : Told) (ranges : List Wrote) (counts : List Counts) (handle count console : ℕ)
    → IsHeard held stepped heard memory (taken_lines held.lines handle count) core act ranges → IsChannel held handle → far_of (network_of held) held.lines.who handle ≡ Some (Console console)
    → machines_of (left_by held heard memory (taken_lines held.lines handle count) counts)
    ≡ after_log (network_of held) (map delivered (room_at (Some (Console console)) count)) (after_shown (network_of held) (machines_of held) held.lines.who core)
taken_at_console held stepped heard memory core act ranges counts handle count console h sort far =
    none_machines held stepped heard memory (taken_lines held.lines handle count) (taken_lines held.lines handle count) core act ranges counts h refl
    (λ part there ne. taken_from_console held (part_at heard part) memory handle part count console h.is.kept h.is.who there ne sort far)

-- ---- a console prints at once

set_back : {X : Type 0} (f g : X → X) (xs : List X) (k : ℕ) (d : X) → k < length xs → ((x : X) → g (f x) ≡ x)
    → slice_set (slice_set xs k (f (slice_index_or xs k d))) k (g (slice_index_or (slice_set xs k (f (slice_index_or xs k d))) k d)) ≡ xs
set_back f g [] k d there h = absurd (omega arith)
set_back f g (x ∷ xs) zero d there h = ap (λ (y : _). y ∷ xs) (h x)
set_back f g (x ∷ xs) (suc k) d there h = ap (λ (l : List _). x ∷ l) (set_back f g xs k d (omega arith) h)

freed_back : (ends : List End) (handle count : ℕ) → handle - 1 < length ends → freed_on (sent_on ends handle count) handle count ≡ ends
freed_back ends handle count there =
    set_back (λ (end : End). record end { outstanding = end.outstanding + count }) (λ (end : End). record end { outstanding = end.outstanding - count }) ends (handle - 1) empty_end there
    (λ end. ap (λ (n : ℕ). let it : End = record end { outstanding = n } in it) (let same : (end.outstanding + count) - count ≡ end.outstanding = omega arith in same))

-- the sender's own ends are what they were
printed_own : (held : Held) (own_part : Member) (memory : List (List ℕ)) (handle : ℕ) (bytes : List ℕ) → IsSystem held → held.lines.who < length held.parts → IsChannel held handle
    → machine_by own_part held.lines memory held.lines.who
    ≡ given_if (held.lines.who == held.lines.who) (λ (l : List End). freed_on l handle (length bytes)) (machine_by own_part (sent_lines held.lines handle bytes) memory held.lines.who)
printed_own held own_part memory handle bytes kept there sort =
    let lines : Lines = held.lines in
    let who : ℕ = lines.who in
    let network : Network = network_of held in
    let wires : List Wire = wires_at lines.wires who in
    let it = own_end held handle kept there sort in
    let found = is_there wires handle kind.Channel sort in
    let long : length (descs_of held.parts) ≡ length held.parts = length-map held.parts (λ (p : Member). p.desc) in
    let wire : own_wire lines handle ≡ Channel it.place it.side = ap (λ (ws : List (List Wire)). own_wire (record lines { wires = ws }) handle) kept.wires ∙ it.wire in
    let ends : List End = ends_of lines.channels lines.running wires in
    let sent : ends_of (sent_by lines.channels (own_wire lines handle) bytes) lines.running wires ≡ sent_on ends handle (length bytes) =
    ap (λ (w : Wire). ends_of (sent_by lines.channels w bytes) lines.running wires) wire
    ∙ ends_sent lines.channels lines.running wires (length network.descs) handle it.place it.side bytes
    (subst (λ (n : ℕ). AreWires n (length network.descs) wires) (sym kept.channels)
    (subst (λ (ws : List (List Wire)). AreWires (length network.wiring.links) (length network.descs) (wires_at ws who)) (sym kept.wires) (part_wires network who kept.joined (omega (arith, there, long))))) found.there wire in
    let count : length ends ≡ length wires = length-map wires _ in
    let below = found.there in
    ap (λ (l : List End). machine_of own_part l memory)
    (sym (freed_back ends handle (length bytes) (omega (arith, below, count))) ∙ ap (λ (l : List End). freed_on l handle (length bytes)) (sym sent))
    ∙ ap (λ (b : Bool). given_if b (λ (l : List End). freed_on l handle (length bytes)) (machine_by own_part (sent_lines lines handle bytes) memory who)) (sym (eq-eqb who who refl))

pub sent_to_console : (held : Held) (stepped heard : List Member) (memory : List (List ℕ)) (core : ℕ) (act : Told) (ranges : List Wrote) (counts : List Counts) (handle : ℕ) (bytes : List ℕ) (console : ℕ)
    → IsHeard held stepped heard memory (sent_lines held.lines handle bytes) core act ranges → IsChannel held handle
    → machines_of (left_by held heard memory held.lines counts)
    ≡ after_log (network_of held) (map delivered (sent_to (Some (Console console)) held.lines.who handle bytes)) (after_shown (network_of held) (machines_of held) held.lines.who core)
sent_to_console held stepped heard memory core act ranges counts handle bytes console h sort =
    let who : ℕ = held.lines.who in
    let f : List End → List End = λ l. freed_on l handle (length bytes) in
    event_machines held stepped heard memory (sent_lines held.lines handle bytes) held.lines core act ranges counts who (Room handle (length bytes)) f h (room_comes handle (length bytes))
    (printed_own held (part_at heard who) memory handle bytes h.is.kept h.is.who sort)
    (λ part there ne. given_not who part f (machine_by (part_at heard part) held.lines memory part) (λ (q : who ≡ part). ne (sym q)))
