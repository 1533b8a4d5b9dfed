-- What enters from a console.
use Rattle.std.proofs.Common.{◌≡◌, ◌≢◌, ℕ, ◌+◌, ◌-◌, ◌<◌, ◌≤◌, ◌==◌, min, Bool, true, false, ◌&&◌, if◌then◌else◌, List, [], ◌∷◌, length, map, take, slice_index_or, slice_set, Option, Some, refl, sym, ap, subst, ◌∙◌, arith, append-nil, length-set}
use Rattle.std.specs.List.{list_all}
use Rattle.std.proofs.lemmas.Bool.{and_parts, false≢true, eqb-true, eqb-false}
use Rattle.std.proofs.lemmas.List.{length-map, length-take-le, take_min, set-get_or, get_or-set_same, get_or-set_other}
use Rattle.std.proofs.lemmas.List.FromFn.{get_or-map-range_with_len, length-map-range_with_len}
use Rattle.byte_channel.specs.declared.side.Side.{Side}
use Rattle.byte_channel.specs.declared.side.Side.TheVariants.{A, B}
use Rattle.byte_channel.specs.Waiting.{Waiting, most_waiting, other_side, waiting_at, empty_channel, after_send}
use Rattle.machine_desc.specs.declared.wiring.PortRef.{PortRef}
use Rattle.machine_desc.specs.declared.wiring.End.{End as LinkEnd}
use Rattle.machine_desc.specs.declared.wiring.End.TheVariants.{Part, Console}
use Rattle.machine_desc.specs.declared.wiring.Link.{Link}
use Rattle.machine_desc.specs.Joined.{are_ends_apart, is_end, is_link_joined, are_links_joined, AreJoined}
use Rattle.partition.specs.Port.{End, channel_size, end_at as own_end_at, come_on}
use Rattle.partition.specs.Event.{Bytes}
use Rattle.partition.specs.Machine.{Machine, fresh}
use Rattle.partition.specs.Lending.{Part as Member, machine_of}
use Rattle.network.specs.Network.{Network, is_end as is_same_end, no_desc, far_end}
use Rattle.network.specs.Tally.{Tally}
use Rattle.network.specs.World.{Counts, World, machine_at, delivered, after_log}
use Rattle.network.specs.Entering.{received_room, come_to, count_entered, entered_at, enter}
use Rattle.system.specs.declared.wire.ChannelEnd.{ChannelEnd}
use Rattle.system.specs.declared.wire.Wire.{Wire}
use Rattle.system.specs.declared.wire.Wire.TheVariants.{Channel}
use Rattle.system.specs.Board.{Lines, no_side, channel_at, console_at, console_room, ends_of, wires_at, sent_by}
use Rattle.system.specs.Wired.{channel_wire, console_side}
use Rattle.system.specs.Channels.{wires_of, come_far}
use Rattle.system.specs.System.{Held, Snapshot, part_at, network_of, machine_in, machines_of, world_of, snapshot_of, AreTaken, IsSystem}
use Rattle.system.proofs.Handles.{is_lent}
use Rattle.system.proofs.Counted.{enters_counted}
use Rattle.system.proofs.Tied.{joined_parts, all_at, no_link, end_at, side_at, console_found, console_once, all_length}
use Rattle.system.proofs.Far.{far_there, leads_back, far_here, entered_bytes_come}
use Rattle.system.proofs.Opened.{same_lists, machine_there, machines_length}
use Rattle.system.proofs.Delivered.{with_ports, given_if, bytes_come, one_event}

-- ---- the far end of a console

pub ends_apart : (network : Network) (place : ℕ) → are_links_joined network.descs network.wiring ≡ true → place < length network.wiring.links
    → are_ends_apart (slice_index_or network.wiring.links place no_link).a (slice_index_or network.wiring.links place no_link).b ≡ true
unfolding are_links_joined
ends_apart network place h there =
    let link : Link = slice_index_or network.wiring.links place no_link in
    let here = all_at (is_link_joined network.descs network.wiring) network.wiring.links place no_link (and_parts (list_all (is_link_joined network.descs network.wiring) network.wiring.links) _ h).0 there in
    (and_parts (is_end network.descs network.wiring link.a && is_end network.descs network.wiring link.b) (are_ends_apart link.a link.b) here).1

abbrev IsPart : LinkEnd → Type 0
IsPart end = (ref : PortRef) × (end ≡ Part ref)

far_from_a : (console : ℕ) (a b : LinkEnd) → is_same_end (Console console) a ≡ true → are_ends_apart a b ≡ true → IsPart b
far_from_a console (Part ref) b h k = absurd (false≢true h)
far_from_a console (Console number) (Part ref) h k = (ref, refl)
far_from_a console (Console number) (Console other) h k = absurd (false≢true k)

far_from_b : (console : ℕ) (a b : LinkEnd) → is_same_end (Console console) b ≡ true → are_ends_apart a b ≡ true → IsPart a
far_from_b console a (Part ref) h k = absurd (false≢true h)
far_from_b console (Part ref) (Console number) h k = (ref, refl)
far_from_b console (Console other) (Console number) h k = absurd (false≢true k)

far_part : (console : ℕ) (side : Side) (link : Link) → is_same_end (Console console) (end_at side link) ≡ true → are_ends_apart link.a link.b ≡ true → IsPart (end_at (other_side side) link)
far_part console A link h k = far_from_a console link.a link.b h k
far_part console B link h k = far_from_b console link.a link.b h k

-- a console's channel, and the handle at its far end
pub record IsConsole (network : Network) (console : ℕ) : Type 0 where
  pub place : ℕ
  pub side : Side
  pub ref : PortRef
  pub there : place < length network.wiring.links
  pub is : console_side network.wiring.links console ≡ side_at place side
  pub at : is_same_end (Console console) (end_at side (slice_index_or network.wiring.links place no_link)) ≡ true
  pub end : end_at (other_side side) (slice_index_or network.wiring.links place no_link) ≡ Part ref
  pub far : far_end network.wiring.links (Console console) ≡ Some (Part ref)
  pub here : ref.part < length network.descs

pub console_joined : (network : Network) (console : ℕ) → AreJoined network.descs network.wiring → console < length network.wiring.consoles → IsConsole network console
console_joined network console joined here =
    let joins = joined_parts network.descs network.wiring joined in
    let it = console_found network.descs network.wiring console joins.links here in
    let once = console_once network.descs network.wiring console joins.links here in
    let link : Link = slice_index_or network.wiring.links it.place no_link in
    let far = far_part console it.side link (it.at no_link) (ends_apart network it.place joins.links it.there) in
    let back = leads_back network far.0 it.place (other_side it.side) joined it.there far.1 in
    let below = is_lent (wires_of network) far.0.part far.0.handle back.there in
    let long = all_length network.wiring 0 network.descs in
    record {
      place = it.place;
      side = it.side;
      ref = far.0;
      there = it.there;
      is = it.is ∙ ap (λ (n : ℕ). side_at n it.side) (let same : 0 + it.place ≡ it.place = omega arith in same);
      at = it.at no_link;
      end = far.1;
      far = far_there network.wiring.links (Console console) it.place it.side (omega (arith, once)) it.there (it.at no_link) ∙ ap (λ (e : LinkEnd). Some e) far.1;
      here = omega (arith, below, long);
    }

-- ---- room

console_is : (held : Held) (console : ℕ) → IsSystem held → console < length held.wiring.consoles → console_at held.lines.consoles console ≡ console_side held.wiring.links console
console_is held console kept here =
    ap (λ (cs : List ChannelEnd). console_at cs console) kept.consoles
    ∙ get_or-map-range_with_len (console_side held.wiring.links) 0 (length held.wiring.consoles) console console no_side here (omega arith)

room_is : (held : Held) (console : ℕ) (kept : IsSystem held) (here : console < length held.wiring.consoles) (it : IsConsole (network_of held) console)
    → received_room (machines_of held) it.ref ≡ console_room held.lines console
room_is held console kept here it =
    let ref : PortRef = it.ref in
    let long : length (network_of held).descs ≡ length held.parts = length-map held.parts (λ (part : Member). part.desc) in
    let below = it.here in
    ap (λ (m : Machine). channel_size - length (own_end_at m.ports ref.handle).received) (machine_there held ref.part (fresh no_desc) (omega (arith, long, below)))
    ∙ (ap (λ (ws : List (List Wire)). channel_size - length (own_end_at (ends_of held.lines.channels held.lines.running (wires_at ws ref.part)) ref.handle).received) kept.wires
    ∙ (ap (λ (e : End). channel_size - length e.received) (far_here (network_of held) held.lines.channels held.lines.running it.place (other_side it.side) ref ref.part kept.joined it.there it.end refl)
    ∙ ap (λ (c : ChannelEnd). most_waiting - length (waiting_at (other_side c.side) (channel_at held.lines.channels c.link))) (sym (console_is held console kept here ∙ it.is))))

-- ---- machines

no_bytes : (ends : List End) (handle : ℕ) → come_on ends handle [] ≡ ends
no_bytes ends handle =
    ap (λ (l : List ℕ). slice_set ends (handle - 1) (record (own_end_at ends handle) { received = l })) (append-nil (own_end_at ends handle).received) ∙ set-get_or ends (handle - 1) _

-- bytes came to the far end of the console
abbrev pub after_bytes : Held → ℕ → List ℕ → List Counts → Held
after_bytes held console bytes counts = record held {
  lines = record held.lines { channels = sent_by held.lines.channels (channel_wire (console_at held.lines.consoles console)) bytes };
  counts = counts;
}

pub come_if : (ref : PortRef) (bytes : List ℕ) (part : ℕ) (own : Member) (ends : List End) (memory : List (List ℕ)) (b : Bool) → (ref.part == part) ≡ b
    → machine_of own (come_far (Some (Part ref)) bytes part ends) memory ≡ given_if b (λ (l : List End). come_on l ref.handle bytes) (machine_of own ends memory)
come_if ref bytes part own ends memory true e = ap (λ (t : Bool). machine_of own (if t then come_on ends ref.handle bytes else ends) memory) e
come_if ref bytes part own ends memory false e = ap (λ (t : Bool). machine_of own (if t then come_on ends ref.handle bytes else ends) memory) e

machine_after : (held : Held) (console : ℕ) (bytes : List ℕ) (counts : List Counts) (part : ℕ) (kept : IsSystem held) (here : console < length held.wiring.consoles) (it : IsConsole (network_of held) console)
    → part < length held.parts
    → machine_in (after_bytes held console bytes counts) part ≡ given_if (it.ref.part == part) (λ (l : List End). come_on l it.ref.handle bytes) (machine_in held part)
machine_after held console bytes counts part kept here it there =
    let lines : Lines = held.lines in
    let network : Network = network_of held in
    let own : Member = part_at held.parts part in
    let long : length network.descs ≡ length held.parts = length-map held.parts (λ (p : Member). p.desc) in
    let law = entered_bytes_come network lines.channels lines.running console part bytes kept.joined kept.channels here (omega (arith, there, long)) in
    ap (λ (c : ChannelEnd). machine_of own (ends_of (sent_by lines.channels (channel_wire c) bytes) lines.running (wires_at lines.wires part)) held.memory) (console_is held console kept here)
    ∙ (ap (λ (ws : List (List Wire)). machine_of own (ends_of (sent_by lines.channels (channel_wire (console_side held.wiring.links console)) bytes) lines.running (wires_at ws part)) held.memory) kept.wires
    ∙ (ap (λ (es : List End). machine_of own es held.memory) law
    ∙ (ap (λ (far : Option LinkEnd). machine_of own (come_far far bytes part (ends_of lines.channels lines.running (wires_at (wires_of network) part))) held.memory) it.far
    ∙ (ap (λ (ws : List (List Wire)). machine_of own (come_far (Some (Part it.ref)) bytes part (ends_of lines.channels lines.running (wires_at ws part))) held.memory) (sym kept.wires)
    ∙ come_if it.ref bytes part own (ends_of lines.channels lines.running (wires_at lines.wires part)) held.memory (it.ref.part == part) refl))))

given_none : (b : Bool) (handle : ℕ) (machine : Machine) → given_if b (λ (l : List End). come_on l handle []) machine ≡ machine
given_none false handle machine = refl
given_none true handle machine = ap (λ (l : List End). with_ports l machine) (no_bytes machine.ports handle)

log_gives : (network : Network) (machines : List Machine) (ref : PortRef) (bytes : List ℕ) (part : ℕ) → part < length machines
    → machine_at (after_log network (map delivered (come_to ref bytes)) machines) part ≡ given_if (ref.part == part) (λ (l : List End). come_on l ref.handle bytes) (machine_at machines part)
log_gives network machines ref [] part there = sym (given_none (ref.part == part) ref.handle (machine_at machines part))
log_gives network machines ref (byte ∷ bytes) part there = one_event network machines ref.part part (Bytes ref.handle (byte ∷ bytes)) (λ (l : List End). come_on l ref.handle (byte ∷ bytes)) there (bytes_come ref.handle (byte ∷ bytes))

log_long : (network : Network) (machines : List Machine) (ref : PortRef) (bytes : List ℕ) → length (after_log network (map delivered (come_to ref bytes)) machines) ≡ length machines
log_long network machines ref [] = refl
log_long network machines ref (byte ∷ bytes) = length-set machines ref.part _

machines_after : (held : Held) (console : ℕ) (bytes : List ℕ) (counts : List Counts) (kept : IsSystem held) (here : console < length held.wiring.consoles) (it : IsConsole (network_of held) console)
    → machines_of (after_bytes held console bytes counts) ≡ after_log (network_of held) (map delivered (come_to it.ref bytes)) (machines_of held)
machines_after held console bytes counts kept here it =
    let new : Held = after_bytes held console bytes counts in
    let network : Network = network_of held in
    let long = machines_length new in
    let old = machines_length held in
    let log = log_long network (machines_of held) it.ref bytes in
    same_lists (machines_of new) (after_log network (map delivered (come_to it.ref bytes)) (machines_of held)) (fresh no_desc) (fresh no_desc) (omega (arith, long, old, log))
    (λ part there.
    let below : part < length held.parts = omega (arith, there, long) in
    machine_there new part (fresh no_desc) below
    ∙ (machine_after held console bytes counts part kept here it below
    ∙ (ap (λ (m : Machine). given_if (it.ref.part == part) (λ (l : List End). come_on l it.ref.handle bytes) m) (sym (machine_there held part (fresh no_desc) below))
    ∙ sym (log_gives network (machines_of held) it.ref bytes part (omega (arith, below, old))))))

-- ---- the world

pub entered_is : (tally : Tally) (held : Held) (console count : ℕ) (bytes : List ℕ) → IsSystem held → console < length held.wiring.consoles → count ≡ min (console_room held.lines console) (length bytes)
    → snapshot_of tally (after_bytes held console (take count bytes) (count_entered console count held.counts))
    ≡ record (snapshot_of tally held) { world = (enter (network_of held) console bytes (world_of held)).after }
unfolding enter
entered_is tally held console count bytes kept here few =
    let it = console_joined (network_of held) console kept.joined here in
    let network : Network = network_of held in
    let world : World = world_of held in
    let room = room_is held console kept here it in
    let much : count ≡ min (received_room (machines_of held) it.ref) (length bytes) = few ∙ ap (λ (r : ℕ). min r (length bytes)) (sym room) in
    let now : Snapshot = snapshot_of tally held in
    ap (λ (n : ℕ). snapshot_of tally (after_bytes held console (take n bytes) (count_entered console n held.counts))) much
    ∙ (ap (λ (l : List ℕ). snapshot_of tally (after_bytes held console l (count_entered console (min (received_room (machines_of held) it.ref) (length bytes)) held.counts))) (take_min (received_room (machines_of held) it.ref) bytes)
    ∙ (ap (λ (ms : List Machine). let next : Snapshot = record now { world = record { machines = ms; consoles = count_entered console (min (received_room (machines_of held) it.ref) (length bytes)) held.counts } } in next)
    (machines_after held console (take (received_room (machines_of held) it.ref) bytes) (count_entered console (min (received_room (machines_of held) it.ref) (length bytes)) held.counts) kept here it)
    ∙ ap (λ (far : Option LinkEnd). let next : Snapshot = record now { world = (entered_at network far console bytes world).after } in next) (sym it.far)))

-- ---- what a system keeps

sides_differ : (console : ℕ) (link : Link) (s t : Side) (ref : PortRef) → is_same_end (Console console) (end_at s link) ≡ true → end_at t link ≡ Part ref → s ≡ other_side t
sides_differ console link A B ref h e = refl
sides_differ console link B A ref h e = refl
sides_differ console link A A ref h e = absurd (false≢true (sym (ap (is_same_end (Console console)) e) ∙ h))
sides_differ console link B B ref h e = absurd (false≢true (sym (ap (is_same_end (Console console)) e) ∙ h))

-- what changes at a partition's end of a channel no console sees
pub still_taken : (network : Network) (channels : List Waiting) (place : ℕ) (side : Side) (channel : Waiting) (ref : PortRef) → AreJoined network.descs network.wiring → place < length channels
    → end_at side (slice_index_or network.wiring.links place no_link) ≡ Part ref → waiting_at (other_side side) channel ≡ waiting_at (other_side side) (channel_at channels place)
    → AreTaken network.wiring channels → AreTaken network.wiring (slice_set channels place channel)
still_taken network channels place side channel ref joined there e same taken console here =
    let it = console_joined network console joined here in by_place it (it.place == place) refl
  where
    by_place : (it : IsConsole network console) (b : Bool) → (it.place == place) ≡ b
        → waiting_at (console_side network.wiring.links console).side (channel_at (slice_set channels place channel) (console_side network.wiring.links console).link) ≡ []
    by_place it false f =
        let c : ChannelEnd = console_side network.wiring.links console in
        let ne : c.link ≢ place = λ q. eqb-false it.place place f (sym (ap (λ (x : ChannelEnd). x.link) it.is) ∙ q) in
        ap (waiting_at c.side) (get_or-set_other channels place c.link channel empty_channel ne) ∙ taken console here
    by_place it true f =
        let c : ChannelEnd = console_side network.wiring.links console in
        let at : it.place ≡ place = eqb-true it.place place f in
        let link : c.link ≡ place = ap (λ (x : ChannelEnd). x.link) it.is ∙ at in
        let s : c.side ≡ other_side side = ap (λ (x : ChannelEnd). x.side) it.is
        ∙ sides_differ console (slice_index_or network.wiring.links place no_link) it.side side ref
        (subst (λ (n : ℕ). is_same_end (Console console) (end_at it.side (slice_index_or network.wiring.links n no_link)) ≡ true) at it.at) e in
        ap (λ (n : ℕ). waiting_at c.side (channel_at (slice_set channels place channel) n)) link
        ∙ (ap (waiting_at c.side) (get_or-set_same channels place channel empty_channel there)
        ∙ (ap (λ (x : Side). waiting_at x channel) s
        ∙ (same
        ∙ (ap (λ (x : Side). waiting_at x (channel_at channels place)) (sym s)
        ∙ (ap (λ (n : ℕ). waiting_at c.side (channel_at channels n)) (sym link) ∙ taken console here)))))

sent_beside : (side : Side) (bytes : List ℕ) (channel : Waiting) → waiting_at (other_side (other_side side)) (after_send side bytes channel) ≡ waiting_at (other_side (other_side side)) channel
sent_beside A bytes channel = refl
sent_beside B bytes channel = refl

pub sent_taken : (network : Network) (channels : List Waiting) (place : ℕ) (side : Side) (bytes : List ℕ) (ref : PortRef) → AreJoined network.descs network.wiring → place < length channels
    → end_at (other_side side) (slice_index_or network.wiring.links place no_link) ≡ Part ref → AreTaken network.wiring channels → AreTaken network.wiring (sent_by channels (Channel place side) bytes)
sent_taken network channels place side bytes ref joined there e taken =
    still_taken network channels place (other_side side) (after_send side bytes (channel_at channels place)) ref joined there e (sent_beside side bytes (channel_at channels place)) taken

pub entered_kept : (held : Held) (console : ℕ) (bytes : List ℕ) → IsSystem held → console < length held.wiring.consoles → length bytes ≤ console_room held.lines console
    → IsSystem (after_bytes held console bytes (count_entered console (length bytes) held.counts))
entered_kept held console bytes kept here fits =
    let it = console_joined (network_of held) console kept.joined here in
    let below : it.place < length held.lines.channels = let t = it.there in let long = kept.channels in omega (arith, t, long) in
    let wire : channel_wire (console_at held.lines.consoles console) ≡ Channel it.place it.side = ap channel_wire (console_is held console kept here ∙ it.is) in
    record {
      joined = kept.joined;
      wires = kept.wires;
      running = kept.running;
      channels = ap (λ (w : Wire). length (sent_by held.lines.channels w bytes)) wire ∙ (length-set held.lines.channels it.place _ ∙ kept.channels);
      consoles = kept.consoles;
      maps = kept.maps;
      counts = length-set held.counts console _ ∙ kept.counts;
      placed = kept.placed;
      taken = subst (λ (w : Wire). AreTaken held.wiring (sent_by held.lines.channels w bytes)) (sym wire)
          (sent_taken (network_of held) held.lines.channels it.place it.side bytes it.ref kept.joined below it.end kept.taken);
      counted =
          let link : (console_at held.lines.consoles console).link ≡ it.place = ap (λ (c : ChannelEnd). c.link) (console_is held console kept here ∙ it.is) in
          let long = kept.counts in
          enters_counted held.parts held.lines held.counts console bytes kept.counted (omega (arith, here, long)) (omega (arith, below, link)) fits;
    }

-- each console has its end of a channel
pub consoles_long : (held : Held) → IsSystem held → length held.lines.consoles ≡ length held.wiring.consoles
consoles_long held kept = ap length kept.consoles ∙ length-map-range_with_len (console_side held.wiring.links) 0 (length held.wiring.consoles)

much_taken : (room count : ℕ) (bytes : List ℕ) → count ≡ min room (length bytes) → length (take count bytes) ≡ count
much_taken room count bytes few = length-take-le count bytes (omega (arith, few))

pub record IsEntered (held new : Held) (console : ℕ) (bytes : List ℕ) : Type 0 where
  pub kept : IsSystem new
  pub view : (tally : Tally) → snapshot_of tally new ≡ record (snapshot_of tally held) { world = (enter (network_of held) console bytes (world_of held)).after }

pub entered_from : (held : Held) (console count : ℕ) (bytes : List ℕ) (lines : Lines) (counts : List Counts) → IsSystem held → console < length held.wiring.consoles
    → count ≡ min (console_room held.lines console) (length bytes)
    → lines ≡ record held.lines { channels = sent_by held.lines.channels (channel_wire (console_at held.lines.consoles console)) (take count bytes) }
    → counts ≡ count_entered console count held.counts
    → IsEntered held (record held { lines = lines; counts = counts }) console bytes
entered_from held console count bytes lines counts kept here few l c =
    subst (λ (ls : Lines). IsEntered held (record held { lines = ls; counts = counts }) console bytes) (sym l)
    (subst (λ (cs : List Counts). IsEntered held (after_bytes held console (take count bytes) cs) console bytes) (sym c)
    (record {
      kept =
          subst (λ (n : ℕ). IsSystem (after_bytes held console (take count bytes) (count_entered console n held.counts))) (much_taken (console_room held.lines console) count bytes few)
          (entered_kept held console (take count bytes) kept here
          (let much = much_taken (console_room held.lines console) count bytes few in
          omega (arith, much, few)));
      view = λ tally. entered_is tally held console count bytes kept here few;
    }))
