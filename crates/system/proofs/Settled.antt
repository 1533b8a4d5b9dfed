-- A turn's machines, whatever its act.
use Rattle.std.proofs.Common.{◌≡◌, ℕ, zero, suc, ◌+◌, ◌<◌, Bool, true, false, List, [], ◌∷◌, length, map, slice_index_or, slice_set, Option, Some, None, refl, sym, ap, subst, ◌∙◌, arith}
use Rattle.std.proofs.lemmas.Bool.{eq-eqb, ltb-true}
use Rattle.byte_channel.specs.declared.side.Side.{Side}
use Rattle.byte_channel.specs.declared.side.Side.TheVariants.{A, B}
use Rattle.byte_channel.specs.Waiting.{Waiting, empty_channel, other_side, waiting_at, after_send, after_clear}
use Rattle.core_step.specs.declared.answer.Wrote.{Wrote}
use Rattle.machine_desc.specs.declared.act.Act.{Act as Told}
use Rattle.machine_desc.specs.declared.act.Act.TheVariants as told
use Rattle.machine_desc.specs.declared.wiring.End.{End as LinkEnd}
use Rattle.machine_desc.specs.declared.wiring.End.TheVariants.{Part, Console}
use Rattle.partition.specs.declared.kind.Kind.{Kind}
use Rattle.partition.specs.declared.kind.Kind.TheVariants as kind
use Rattle.partition.specs.Port.{kind_at, kinds_of as described_kinds}
use Rattle.machine_desc.specs.declared.desc.Desc.{Desc}
use Rattle.machine_desc.specs.declared.desc.Region.{Region}
use Rattle.copy_lists.specs.Moving.{copied}
use Rattle.copy_lists.specs.Pieces.{Piece, span_of, pieces_out, all_put}
use Rattle.partition.specs.Act.{Act, act_of}
use Rattle.partition.specs.Copying.{Copy}
use Rattle.partition.specs.Event.{Event, Start, Stop, Restart}
use Rattle.partition.specs.Lending.{Part as Member, HasHandle, written_into}
use Rattle.partition.proofs.CopiesIn.{spans_out}
use Rattle.network.specs.Network.{Network, ref_to, is_end as is_same_end, far_of, receivers_of, manager_of, managed_by as managed_by_network}
use Rattle.network.specs.World.{Counts, to_part, delivered, after_log}
use Rattle.network.specs.Effects.{ring_at, brought, copied_into, sent_to, room_at, returned_room, at_managed, tell_manager}
use Rattle.machine_desc.specs.Joined.{is_end}
use Rattle.system.specs.declared.wire.ChannelEnd.{ChannelEnd}
use Rattle.system.specs.declared.wire.Wire.{Wire}
use Rattle.system.specs.declared.wire.Wire.TheVariants.{Channel}
use Rattle.system.specs.Board.{Lines, channel_at, kinds_of, wires_at, own_wire, emptied_lines, sent_by, printed_by, managed_by, told_by}
use Rattle.system.specs.Wired.{console_side}
use Rattle.system.specs.System.{Held, part_at, network_of, machine_by, machines_of, IsSystem}
use Rattle.system.specs.Turning.{Begins, Rings, copied_part, marked_lines, printed_lines, stopped_part}
use Rattle.system.proofs.Tied.{joined_parts, no_link, end_at, side_at, console_once}
use Rattle.system.proofs.Far.{IsOwn, led, link_end}
use Rattle.system.proofs.Shown.{after_shown}
use Rattle.system.proofs.Given.{Gives, Arrives, step_gives}
use Rattle.system.proofs.Told.{IsHeard, heard_desc}
use Rattle.system.proofs.Acts.{left_by, none_machines, kinds_are, own_end, sent_lines, taken_lines, sent_to_part, sent_to_console, taken_from_part, taken_at_console}
use Rattle.system.proofs.Rings.{rung_machines}
use Rattle.system.proofs.Managers.{ended_machines}
use Rattle.system.proofs.Commanded.{IsCommand, is_command, settled_lines}
use Rattle.system.proofs.Copies.{names_none, told_managed, copied_put, copied_machines}
use Rattle.system.proofs.Begun.{begun_machines, stopped_machines, self_restarted_machines}

-- the machines are what the events of the act make of those that saw the step
abbrev pub IsSettled : Held → List Member → List (List ℕ) → Lines → List Counts → ℕ → Act → Type 0
IsSettled held rung memory left counts core act =
    machines_of (left_by held rung memory left counts)
    ≡ after_log (network_of held) (map delivered (brought (network_of held) (machines_of held) held.lines.who act)) (after_shown (network_of held) (machines_of held) held.lines.who core)

-- an act that others don't hear of
quiet_settled : (held : Held) (stepped heard rung : List Member) (memory : List (List ℕ)) (lines left : Lines) (core : ℕ) (act : Told) (ranges : List Wrote) (counts : List Counts)
    → IsHeard held stepped heard memory lines core act ranges → lines ≡ held.lines → rung ≡ heard → left ≡ lines
    → machines_of (left_by held rung memory left counts) ≡ after_log (network_of held) [] (after_shown (network_of held) (machines_of held) held.lines.who core)
quiet_settled held stepped heard rung memory lines left core act ranges counts h same r l =
    ap (λ (ps : List Member). machines_of (left_by held ps memory left counts)) r
    ∙ (ap (λ (ls : Lines). machines_of (left_by held heard memory ls counts)) l
    ∙ none_machines held stepped heard memory lines lines core act ranges counts h refl
    (λ part there ne. ap (λ (ls : Lines). machine_by (part_at heard part) ls memory part) same))

rung_settled : (held : Held) (stepped heard rung : List Member) (memory : List (List ℕ)) (lines left : Lines) (core : ℕ) (handle : ℕ) (act : Told) (ranges : List Wrote) (counts : List Counts)
    → IsHeard held stepped heard memory lines core act ranges → lines ≡ held.lines → Rings held.wiring.bells (ref_to held.lines.who handle) heard rung → left ≡ lines
    → machines_of (left_by held rung memory left counts)
    ≡ after_log (network_of held) (map delivered (map ring_at (receivers_of (network_of held) held.lines.who handle))) (after_shown (network_of held) (machines_of held) held.lines.who core)
rung_settled held stepped heard rung memory lines left core handle act ranges counts h same r l =
    ap (λ (ls : Lines). machines_of (left_by held rung memory ls counts)) (l ∙ same)
    ∙ rung_machines held stepped heard rung memory core act ranges counts handle (subst (λ (ls : Lines). IsHeard held stepped heard memory ls core act ranges) same h) r

ended_settled : (held : Held) (stepped heard rung : List Member) (memory : List (List ℕ)) (lines left : Lines) (core : ℕ) (act : Told) (ranges : List Wrote) (counts : List Counts)
    → IsHeard held stepped heard memory lines core act ranges → length held.lines.running ≡ length held.parts → lines ≡ held.lines → rung ≡ heard → left ≡ marked_lines lines held.lines.who false
    → machines_of (left_by held rung memory left counts)
    ≡ after_log (network_of held) (map delivered (tell_manager (manager_of (network_of held) held.lines.who))) (after_shown (network_of held) (machines_of held) held.lines.who core)
ended_settled held stepped heard rung memory lines left core act ranges counts h long same r l =
    ap (λ (ps : List Member). machines_of (left_by held ps memory left counts)) r
    ∙ (ap (λ (ls : Lines). machines_of (left_by held heard memory ls counts)) (l ∙ ap (λ (ls : Lines). marked_lines ls held.lines.who false) same)
    ∙ ended_machines held stepped heard memory core act ranges counts (subst (λ (ls : Lines). IsHeard held stepped heard memory ls core act ranges) same h) long)

pub taken_settled : (held : Held) (stepped heard rung : List Member) (memory : List (List ℕ)) (lines left : Lines) (core : ℕ) (handle count : ℕ) (act : Told) (ranges : List Wrote) (counts : List Counts)
    → IsHeard held stepped heard memory lines core act ranges → kind_at (kinds_of (wires_at held.lines.wires held.lines.who)) handle ≡ Some kind.Channel → lines ≡ taken_lines held.lines handle count → rung ≡ heard → left ≡ lines
    → machines_of (left_by held rung memory left counts)
    ≡ after_log (network_of held) (map delivered (room_at (far_of (network_of held) held.lines.who handle) count)) (after_shown (network_of held) (machines_of held) held.lines.who core)
taken_settled held stepped heard rung memory lines left core handle count act ranges counts h sort same r l =
    ap (λ (ps : List Member). machines_of (left_by held ps memory left counts)) r
    ∙ (ap (λ (ls : Lines). machines_of (left_by held heard memory ls counts)) (l ∙ same)
    ∙ by_far (far_of (network_of held) held.lines.who handle) refl)
  where
    after : IsHeard held stepped heard memory (taken_lines held.lines handle count) core act ranges
    after = subst (λ (ls : Lines). IsHeard held stepped heard memory ls core act ranges) same h

    by_far : (far : Option LinkEnd) → far_of (network_of held) held.lines.who handle ≡ far
        → machines_of (left_by held heard memory (taken_lines held.lines handle count) counts)
        ≡ after_log (network_of held) (map delivered (room_at (far_of (network_of held) held.lines.who handle) count)) (after_shown (network_of held) (machines_of held) held.lines.who core)
    by_far None e = let it = own_end held handle h.is.kept h.is.who sort in let both : None ≡ Some _ = sym e ∙ it.far in absurd cc
    by_far (Some (Part ref)) e =
        taken_from_part held stepped heard memory core act ranges counts handle count ref after sort e
        ∙ ap (λ (far : Option LinkEnd). after_log (network_of held) (map delivered (room_at far count)) (after_shown (network_of held) (machines_of held) held.lines.who core)) (sym e)
    by_far (Some (Console console)) e =
        taken_at_console held stepped heard memory core act ranges counts handle count console after sort e
        ∙ ap (λ (far : Option LinkEnd). after_log (network_of held) (map delivered (room_at far count)) (after_shown (network_of held) (machines_of held) held.lines.who core)) (sym e)

-- ---- a console prints

set_back_at : {X : Type 0} (f g : X → X) (xs : List X) (k : ℕ) (d : X) → k < length xs → g (f (slice_index_or xs k d)) ≡ slice_index_or xs k d
    → slice_set (slice_set xs k (f (slice_index_or xs k d))) k (g (slice_index_or (slice_set xs k (f (slice_index_or xs k d))) k d)) ≡ xs
set_back_at f g [] k d there h = absurd (omega arith)
set_back_at f g (x ∷ xs) zero d there h = ap (λ (y : _). y ∷ xs) h
set_back_at f g (x ∷ xs) (suc k) d there h = ap (λ (l : List _). x ∷ l) (set_back_at f g xs k d (omega arith) h)

sent_and_printed : (side : Side) (bytes : List ℕ) (channel : Waiting) → waiting_at (other_side side) channel ≡ [] → after_clear (other_side side) (after_send side bytes channel) ≡ channel
sent_and_printed A bytes channel h = ap (λ (l : List ℕ). let it : Waiting = record { at_a = channel.at_a; at_b = l } in it) (sym h)
sent_and_printed B bytes channel h = ap (λ (l : List ℕ). let it : Waiting = record { at_a = l; at_b = channel.at_b } in it) (sym h)

some_same : {X : Type 0} (x y : X) → Some x ≡ Some y → x ≡ y
some_same x y e = cc

none_waits : (held : Held) (handle console : ℕ) → IsSystem held → held.lines.who < length held.parts → (it : IsOwn (network_of held) held.lines.who handle) → far_of (network_of held) held.lines.who handle ≡ Some (Console console)
    → waiting_at (other_side it.side) (channel_at held.lines.channels it.place) ≡ []
none_waits held handle console kept here it far =
    let network : Network = network_of held in
    let joins = joined_parts network.descs network.wiring kept.joined in
    let end : end_at (other_side it.side) (slice_index_or network.wiring.links it.place no_link) ≡ Console console = some_same _ (Console console) (sym it.far ∙ far) in
    let below : console < length network.wiring.consoles = ltb-true console (length network.wiring.consoles) (sym (ap (is_end network.descs network.wiring) end) ∙ link_end network it.place (other_side it.side) joins.links it.there) in
    let once = console_once network.descs network.wiring console joins.links below in
    let at : is_same_end (Console console) (end_at (other_side it.side) (slice_index_or network.wiring.links it.place no_link)) ≡ true = ap (is_same_end (Console console)) end ∙ eq-eqb console console refl in
    let side : console_side network.wiring.links console ≡ side_at it.place (other_side it.side) =
    led network.wiring.links (Console console) 0 it.place (other_side it.side) (omega (arith, once)) it.there at ∙ ap (λ (n : ℕ). side_at n (other_side it.side)) (let same : 0 + it.place ≡ it.place = omega arith in same) in
    ap (λ (c : ChannelEnd). waiting_at c.side (channel_at held.lines.channels c.link)) (sym side) ∙ kept.taken console below

pub printed_same : (held : Held) (handle console : ℕ) (bytes : List ℕ) → IsSystem held → held.lines.who < length held.parts → kind_at (kinds_of (wires_at held.lines.wires held.lines.who)) handle ≡ Some kind.Channel
    → far_of (network_of held) held.lines.who handle ≡ Some (Console console) → printed_lines (Some (Console console)) handle (sent_lines held.lines handle bytes) ≡ held.lines
printed_same held handle console bytes kept here sort far =
    let lines : Lines = held.lines in
    let it = own_end held handle kept here sort in
    let wire : own_wire lines handle ≡ Channel it.place it.side = ap (λ (ws : List (List Wire)). own_wire (record lines { wires = ws }) handle) kept.wires ∙ it.wire in
    let below : it.place < length lines.channels = let t = it.there in let long = kept.channels in omega (arith, t, long) in
    ap (λ (w : Wire). let next : Lines = record lines { channels = printed_by (sent_by lines.channels w bytes) w } in next) wire
    ∙ ap (λ (cs : List Waiting). let next : Lines = record lines { channels = cs } in next)
    (set_back_at (after_send it.side bytes) (after_clear (other_side it.side)) lines.channels it.place empty_channel below
    (sent_and_printed it.side bytes (channel_at lines.channels it.place) (none_waits held handle console kept here it far)))

sent_settled : (held : Held) (stepped heard rung : List Member) (memory : List (List ℕ)) (lines left : Lines) (core : ℕ) (handle : ℕ) (bytes : List ℕ) (act : Told) (ranges : List Wrote) (counts : List Counts)
    → IsHeard held stepped heard memory lines core act ranges → kind_at (kinds_of (wires_at held.lines.wires held.lines.who)) handle ≡ Some kind.Channel → lines ≡ sent_lines held.lines handle bytes → rung ≡ heard
    → left ≡ printed_lines (far_of (network_of held) held.lines.who handle) handle lines
    → machines_of (left_by held rung memory left counts)
    ≡ after_log (network_of held) (map delivered (sent_to (far_of (network_of held) held.lines.who handle) held.lines.who handle bytes)) (after_shown (network_of held) (machines_of held) held.lines.who core)
sent_settled held stepped heard rung memory lines left core handle bytes act ranges counts h sort same r l =
    ap (λ (ps : List Member). machines_of (left_by held ps memory left counts)) r
    ∙ (ap (λ (ls : Lines). machines_of (left_by held heard memory ls counts)) (l ∙ ap (λ (ls : Lines). printed_lines (far_of (network_of held) held.lines.who handle) handle ls) same)
    ∙ by_far (far_of (network_of held) held.lines.who handle) refl)
  where
    after : IsHeard held stepped heard memory (sent_lines held.lines handle bytes) core act ranges
    after = subst (λ (ls : Lines). IsHeard held stepped heard memory ls core act ranges) same h

    by_far : (far : Option LinkEnd) → far_of (network_of held) held.lines.who handle ≡ far
        → machines_of (left_by held heard memory (printed_lines (far_of (network_of held) held.lines.who handle) handle (sent_lines held.lines handle bytes)) counts)
        ≡ after_log (network_of held) (map delivered (sent_to (far_of (network_of held) held.lines.who handle) held.lines.who handle bytes)) (after_shown (network_of held) (machines_of held) held.lines.who core)
    by_far None e = let it = own_end held handle h.is.kept h.is.who sort in let both : None ≡ Some _ = sym e ∙ it.far in absurd cc
    by_far (Some (Part ref)) e =
        ap (λ (far : Option LinkEnd). machines_of (left_by held heard memory (printed_lines far handle (sent_lines held.lines handle bytes)) counts)) e
        ∙ (sent_to_part held stepped heard memory core act ranges counts handle bytes ref after sort e
        ∙ ap (λ (far : Option LinkEnd). after_log (network_of held) (map delivered (sent_to far held.lines.who handle bytes)) (after_shown (network_of held) (machines_of held) held.lines.who core)) (sym e))
    by_far (Some (Console console)) e =
        ap (λ (far : Option LinkEnd). machines_of (left_by held heard memory (printed_lines far handle (sent_lines held.lines handle bytes)) counts)) e
        ∙ (ap (λ (ls : Lines). machines_of (left_by held heard memory ls counts)) (printed_same held handle console bytes h.is.kept h.is.who sort e)
        ∙ (sent_to_console held stepped heard memory core act ranges counts handle bytes console after sort
        ∙ ap (λ (far : Option LinkEnd). after_log (network_of held) (map delivered (sent_to far held.lines.who handle bytes)) (after_shown (network_of held) (machines_of held) held.lines.who core)) (sym e)))

-- ---- all acts

pub sort_of : (held : Held) (handle : ℕ) → IsSystem held → held.lines.who < length held.parts → kind_at (described_kinds (part_at held.parts held.lines.who).desc.ports) handle ≡ Some kind.Channel
    → kind_at (kinds_of (wires_at held.lines.wires held.lines.who)) handle ≡ Some kind.Channel
sort_of held handle kept here sort = ap (λ (ks : List Kind). kind_at ks handle) (kinds_are held held.lines.who kept here) ∙ sort

-- the partition that a handle manages, by the board as it was lent
managed_lent : (held : Held) (lent : Lines) (handle : ℕ) → lent ≡ held.lines → (it : IsCommand held handle) → managed_by (own_wire lent handle) ≡ it.managed
managed_lent held lent handle same it = ap (λ (ls : Lines). managed_by (own_wire ls handle)) same ∙ ap managed_by it.wire

marked_lent : (held : Held) (lent : Lines) (handle : ℕ) (runs : Bool) → lent ≡ held.lines → (it : IsCommand held handle)
    → marked_lines lent (managed_by (own_wire lent handle)) runs ≡ marked_lines held.lines it.managed runs
marked_lent held lent handle runs same it =
    ap (λ (ls : Lines). marked_lines ls (managed_by (own_wire lent handle)) runs) same ∙ ap (λ (n : ℕ). marked_lines held.lines n runs) (managed_lent held lent handle same it)

-- a partition that its manager starts or restarts
begun_settled : (held : Held) (stepped heard rung : List Member) (memory loaded : List (List ℕ)) (lent lines left : Lines) (core : ℕ) (act : Told) (ranges : List Wrote) (counts : List Counts) (handle : ℕ) (event : Event)
    → IsHeard held stepped heard memory lines core act ranges → lent ≡ held.lines → lines ≡ marked_lines lent (managed_by (own_wire lent handle)) true
    → kind_at (described_kinds (part_at held.parts held.lines.who).desc.ports) handle ≡ Some kind.Manage → Begins event (managed_by (own_wire lent handle)) heard rung memory loaded
    → left ≡ emptied_lines (marked_lines lent (managed_by (own_wire lent handle)) true) (managed_by (own_wire lent handle))
    → machines_of (left_by held rung loaded left counts)
    ≡ after_log (network_of held)
    (map delivered (at_managed (managed_by_network (network_of held) held.lines.who handle) (λ (other : ℕ). to_part other event ∷ returned_room (network_of held) (machines_of held) other)))
    (after_shown (network_of held) (machines_of held) held.lines.who core)
begun_settled held stepped heard rung memory loaded lent lines left core act ranges counts handle event h same l sort b r =
    let it = is_command held handle h.is.kept h.is.who sort in
    let managed = managed_lent held lent handle same it in
    begun_machines held stepped heard rung memory loaded lines left core act ranges counts handle event h it (l ∙ marked_lent held lent handle true same it)
    (subst (λ (n : ℕ). Begins event n heard rung memory loaded) managed b)
    (r ∙ (ap (λ (ls : Lines). emptied_lines ls (managed_by (own_wire lent handle))) (marked_lent held lent handle true same it) ∙ ap (emptied_lines (marked_lines held.lines it.managed true)) managed))
    ∙ ap
    (λ (found : Option ℕ).
    after_log (network_of held) (map delivered (at_managed found (λ (other : ℕ). to_part other event ∷ returned_room (network_of held) (machines_of held) other))) (after_shown (network_of held) (machines_of held) held.lines.who core))
    (sym it.names)

stopped_settled : (held : Held) (stepped heard rung : List Member) (memory : List (List ℕ)) (lent lines left : Lines) (core : ℕ) (act : Told) (ranges : List Wrote) (counts : List Counts) (handle : ℕ)
    → IsHeard held stepped heard memory lines core act ranges → lent ≡ held.lines → lines ≡ marked_lines lent (managed_by (own_wire lent handle)) false
    → kind_at (described_kinds (part_at held.parts held.lines.who).desc.ports) handle ≡ Some kind.Manage
    → rung ≡ slice_set heard (managed_by (own_wire lent handle)) (stopped_part (part_at heard (managed_by (own_wire lent handle)))) → left ≡ marked_lines lent (managed_by (own_wire lent handle)) false
    → machines_of (left_by held rung memory left counts)
    ≡ after_log (network_of held) (map delivered (at_managed (managed_by_network (network_of held) held.lines.who handle) (λ (other : ℕ). to_part other Stop ∷ [])))
    (after_shown (network_of held) (machines_of held) held.lines.who core)
stopped_settled held stepped heard rung memory lent lines left core act ranges counts handle h same l sort b r =
    let it = is_command held handle h.is.kept h.is.who sort in
    let managed = managed_lent held lent handle same it in
    stopped_machines held stepped heard rung memory lines left core act ranges counts handle h it (l ∙ marked_lent held lent handle false same it)
    (b ∙ ap (λ (n : ℕ). slice_set heard n (stopped_part (part_at heard n))) managed) (r ∙ marked_lent held lent handle false same it)
    ∙ ap (λ (found : Option ℕ). after_log (network_of held) (map delivered (at_managed found (λ (other : ℕ). to_part other Stop ∷ []))) (after_shown (network_of held) (machines_of held) held.lines.who core))
    (sym it.names)

-- what a copy out of another partition notes
noted_settled : (held : Held) (stepped heard rung : List Member) (memory : List (List ℕ)) (lines left : Lines) (core : ℕ) (act : Told) (ranges : List Wrote) (counts : List Counts) (last : Copy)
    → IsHeard held stepped heard memory lines core act ranges → lines ≡ record held.lines { last = last } → rung ≡ heard → left ≡ lines
    → machines_of (left_by held rung memory left counts) ≡ after_log (network_of held) [] (after_shown (network_of held) (machines_of held) held.lines.who core)
noted_settled held stepped heard rung memory lines left core act ranges counts last h same r l =
    ap (λ (ps : List Member). machines_of (left_by held ps memory left counts)) r
    ∙ (ap (λ (ls : Lines). machines_of (left_by held heard memory ls counts)) l
    ∙ none_machines held stepped heard memory lines lines core act ranges counts h refl
    (λ part there ne. ap (λ (ls : Lines). machine_by (part_at heard part) ls memory part) same))

-- the pieces of a copy into another partition are what goes out by the list
abbrev pub HasPieces : Held → List (List ℕ) → Lines → List Piece → Told → Type 0
HasPieces held memory lent pieces (told.CopyTo handle count) = pieces ≡ pieces_out (part_at held.parts held.lines.who).desc.regions memory lent.last.entries
HasPieces held memory lent pieces _ = Unit {0}

-- a partition that its manager copied into
copied_settled : (held : Held) (stepped heard rung : List Member) (memory loaded : List (List ℕ)) (lent lines left : Lines) (core : ℕ) (act : Told) (ranges : List Wrote) (counts : List Counts) (handle : ℕ) (pieces : List Piece)
    → IsHeard held stepped heard memory lines core act ranges → lent ≡ record held.lines { last = lent.last } → lines ≡ lent
    → kind_at (described_kinds (part_at held.parts held.lines.who).desc.ports) handle ≡ Some kind.Manage → pieces ≡ pieces_out (part_at held.parts held.lines.who).desc.regions memory lent.last.entries
    → rung ≡ slice_set heard (managed_by (own_wire lent handle)) (copied_part lent.last.entries (part_at heard (managed_by (own_wire lent handle)))) → left ≡ lent
    → loaded ≡ written_into (told_by lent handle) (part_at heard held.lines.who).desc.regions lent.last.entries memory
    → machines_of (left_by held rung loaded left counts)
    ≡ after_log (network_of held) (map delivered (at_managed (managed_by_network (network_of held) held.lines.who handle) (λ (other : ℕ). map (copied_into other) pieces)))
    (after_shown (network_of held) (machines_of held) held.lines.who core)
copied_settled held stepped heard rung memory loaded lent lines left core act ranges counts handle pieces h same l sort has r b m =
    let it = is_command held handle h.is.kept h.is.who sort in
    let own : List Region = (part_at held.parts held.lines.who).desc.regions in
    let managed : managed_by (own_wire lent handle) ≡ it.managed = ap (λ (ls : Lines). managed_by (own_wire ls handle)) same ∙ ap managed_by it.wire in
    let tells : told_by lent handle ≡ Some (part_at held.parts it.managed).desc.regions = ap (λ (ls : Lines). told_by ls handle) same ∙ told_managed held handle h.is.kept h.is.who sort it in
    let written : loaded ≡ all_put (part_at held.parts it.managed).desc.regions pieces memory =
    m
    ∙ (ap (λ (t : Option (List Region)). written_into t (part_at heard held.lines.who).desc.regions lent.last.entries memory) tells
    ∙ (ap (λ (d : Desc). copied d.regions (part_at held.parts it.managed).desc.regions lent.last.entries memory) (heard_desc held stepped heard memory lines core act ranges held.lines.who h h.is.who)
    ∙ (copied_put own (part_at held.parts it.managed).desc.regions memory lent.last.entries (names_none held it.managed held.lines.who h.is.kept it.below h.is.who (λ e. it.apart (sym e)))
    ∙ ap (λ (ps : List Piece). all_put (part_at held.parts it.managed).desc.regions ps memory) (sym has)))) in
    copied_machines held stepped heard rung memory loaded lines left core act ranges counts handle lent.last pieces h it (l ∙ same) (b ∙ sym l)
    (r ∙ ap (λ (n : ℕ). slice_set heard n (copied_part lent.last.entries (part_at heard n))) managed) written
    (ap (map span_of) has ∙ spans_out own memory lent.last.entries)
    ∙ ap (λ (found : Option ℕ). after_log (network_of held) (map delivered (at_managed found (λ (other : ℕ). map (copied_into other) pieces))) (after_shown (network_of held) (machines_of held) held.lines.who core))
    (sym it.names)

by_act : (held : Held) (stepped heard rung : List Member) (memory loaded : List (List ℕ)) (lent lines left : Lines) (core : ℕ) (act : Told) (ranges : List Wrote) (counts new : List Counts)
    → IsHeard held stepped heard memory lines core act ranges → length held.lines.running ≡ length held.parts → Gives act held.lines lent → lines ≡ settled_lines act lent
    → HasHandle (described_kinds (part_at held.parts held.lines.who).desc.ports) act → (pieces : List Piece) → HasPieces held memory lent pieces act
    → Arrives held.wiring held.lines.who act heard rung memory loaded lent left counts new → IsSettled held rung loaded left new core (act_of pieces act)
unfolding brought
by_act held stepped heard rung memory loaded lent lines left core (told.Sent on bytes) ranges counts new h long did l handle pieces has s =
    ap (λ (m : List (List ℕ)). machines_of (left_by held rung m left new)) s.3
    ∙ sent_settled held stepped heard rung memory lines left core on bytes.items (told.Sent on bytes) ranges new h (sort_of held on h.is.kept h.is.who handle) (l ∙ did) s.0
    (s.1 ∙ ap (printed_lines (far_of (network_of held) held.lines.who on) on) (sym l))
by_act held stepped heard rung memory loaded lent lines left core (told.Took on count) ranges counts new h long did l handle pieces has s =
    ap (λ (m : List (List ℕ)). machines_of (left_by held rung m left new)) s.3
    ∙ taken_settled held stepped heard rung memory lines left core on count (told.Took on count) ranges new h (sort_of held on h.is.kept h.is.who handle) (l ∙ did) s.0 (s.1 ∙ sym l)
by_act held stepped heard rung memory loaded lent lines left core (told.Rang on) ranges counts new h long did l handle pieces has s =
    ap (λ (m : List (List ℕ)). machines_of (left_by held rung m left new)) s.3
    ∙ rung_settled held stepped heard rung memory lines left core on (told.Rang on) ranges new h (l ∙ did) s.0 (s.1 ∙ sym l)
by_act held stepped heard rung memory loaded lent lines left core (told.Start on entry load) ranges counts new h long did l handle pieces has s =
    begun_settled held stepped heard rung memory loaded lent lines left core (told.Start on entry load) ranges new on (Start entry load) h did l handle s.0 s.1
by_act held stepped heard rung memory loaded lent lines left core (told.Restart on) ranges counts new h long did l handle pieces has s =
    begun_settled held stepped heard rung memory loaded lent lines left core (told.Restart on) ranges new on Restart h did l handle s.0 s.1
by_act held stepped heard rung memory loaded lent lines left core (told.Stop on) ranges counts new h long did l handle pieces has s =
    ap (λ (m : List (List ℕ)). machines_of (left_by held rung m left new)) s.3
    ∙ stopped_settled held stepped heard rung memory lent lines left core (told.Stop on) ranges new on h did l handle s.0 s.1
by_act held stepped heard rung memory loaded lent lines left core told.SelfRestart ranges counts new h long did l handle pieces has s =
    ap (λ (m : List (List ℕ)). machines_of (left_by held rung m left new)) s.3
    ∙ (ap (λ (ps : List Member). machines_of (left_by held ps memory left new)) s.0
    ∙ (
    ap (λ (ls : Lines). machines_of (left_by held heard memory ls new)) (s.1 ∙ ap (emptied_lines lent) (sym (ap (λ (ls : Lines). ls.who) did)) ∙ sym l)
    ∙ self_restarted_machines held stepped heard memory lines core told.SelfRestart ranges new h (l ∙ ap (λ (ls : Lines). emptied_lines ls ls.who) did)))
by_act held stepped heard rung memory loaded lent lines left core told.SelfStop ranges counts new h long did l handle pieces has s =
    ap (λ (m : List (List ℕ)). machines_of (left_by held rung m left new)) s.3
    ∙ ended_settled held stepped heard rung memory lines left core told.SelfStop ranges new h long (l ∙ did) s.0 (s.1 ∙ ap (λ (ls : Lines). marked_lines ls held.lines.who false) (sym l))
by_act held stepped heard rung memory loaded lent lines left core told.Faulted ranges counts new h long did l handle pieces has s =
    ap (λ (m : List (List ℕ)). machines_of (left_by held rung m left new)) s.3
    ∙ ended_settled held stepped heard rung memory lines left core told.Faulted ranges new h long (l ∙ did) s.0 (s.1 ∙ ap (λ (ls : Lines). marked_lines ls held.lines.who false) (sym l))
by_act held stepped heard rung memory loaded lent lines left core told.None ranges counts new h long did l handle pieces has s =
    ap (λ (m : List (List ℕ)). machines_of (left_by held rung m left new)) s.3 ∙ quiet_settled held stepped heard rung memory lines left core told.None ranges new h (l ∙ did) s.0 (s.1 ∙ sym l)
by_act held stepped heard rung memory loaded lent lines left core (told.CopyTo on total) ranges counts new h long did l handle pieces has s =
    copied_settled held stepped heard rung memory loaded lent lines left core (told.CopyTo on total) ranges new on pieces h did l handle has s.0 s.1 s.3
by_act held stepped heard rung memory loaded lent lines left core (told.CopyFrom on total) ranges counts new h long did l handle pieces has s =
    ap (λ (m : List (List ℕ)). machines_of (left_by held rung m left new)) s.3
    ∙ noted_settled held stepped heard rung memory lines left core (told.CopyFrom on total) ranges new lent.last h (l ∙ did) s.0 (s.1 ∙ sym l)

-- the machines after a step and all that it brings
pub settled : (held : Held) (stepped heard rung : List Member) (memory loaded : List (List ℕ)) (lines left : Lines) (core : ℕ) (act : Told) (ranges : List Wrote) (counts new : List Counts)
    → (h : IsHeard held stepped heard memory lines core act ranges) → length held.lines.running ≡ length held.parts → lines ≡ settled_lines act h.is.lent → (pieces : List Piece) → HasPieces held memory h.is.lent pieces act
    → Arrives held.wiring held.lines.who act heard rung memory loaded h.is.lent left counts new → IsSettled held rung loaded left new core (act_of pieces act)
settled held stepped heard rung memory loaded lines left core act ranges counts new h long l pieces has s =
    by_act held stepped heard rung memory loaded h.is.lent lines left core act ranges counts new h long (step_gives held.parts stepped held.memory memory held.lines h.is.lent core act ranges h.is.step) l h.is.step.handle pieces has s
