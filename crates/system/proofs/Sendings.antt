-- What sending to and taking from another partition brings.
use Rattle.std.proofs.Common.{◌≡◌, ◌≢◌, ℕ, ◌<◌, ◌==◌, Bool, true, false, not, if◌then◌else◌, List, length, slice_index_or, Option, Some, refl, sym, ap, subst, ◌∙◌, arith}
use Rattle.std.proofs.lemmas.Bool.{and_parts, eqb-true, eq-eqb, false≢true}
use Rattle.std.proofs.lemmas.List.{length-map}
use Rattle.byte_channel.specs.declared.side.Side.{Side}
use Rattle.byte_channel.specs.declared.side.Side.TheVariants.{A, B}
use Rattle.byte_channel.specs.Waiting.{other_side}
use Rattle.machine_desc.specs.declared.wiring.PortRef.{PortRef}
use Rattle.machine_desc.specs.declared.wiring.End.{End as LinkEnd}
use Rattle.machine_desc.specs.declared.wiring.End.TheVariants.{Part, Console}
use Rattle.machine_desc.specs.declared.wiring.Link.{Link}
use Rattle.machine_desc.specs.Joined.{is_at, are_ends_apart, AreJoined}
use Rattle.partition.specs.declared.kind.Kind.TheVariants as kind
use Rattle.partition.specs.Port.{End, kind_at, come_on, freed_on}
use Rattle.partition.specs.Lending.{Part as Member, machine_of}
use Rattle.network.specs.Network.{Network, ref_to, far_of}
use Rattle.system.specs.declared.wire.Wire.{Wire}
use Rattle.system.specs.Board.{Lines, kinds_of, ends_of, wires_at, own_wire, sent_by, taken_by}
use Rattle.system.specs.Channels.{wires_of, come_far, freed_far}
use Rattle.system.specs.System.{Held, network_of, machine_by, IsSystem}
use Rattle.system.proofs.Tied.{joined_parts, no_link, end_at}
use Rattle.system.proofs.Far.{IsOwn, own, sent_bytes_come, taken_bytes_are_freed}
use Rattle.system.proofs.Delivered.{given_if}
use Rattle.system.proofs.Entered.{ends_apart, come_if}

-- ---- the far end is another partition's

two_parts : (ref : PortRef) (part handle : ℕ) (a b : LinkEnd) → is_at (ref_to part handle) a ≡ true → b ≡ Part ref → are_ends_apart a b ≡ true → ref.part ≡ part → ⊥
two_parts ref part handle (Console number) b h e k same = false≢true h
two_parts ref part handle (Part near) (Console number) h e k same = absurd cc
two_parts ref part handle (Part near) (Part far) h e k same =
    let at = eqb-true part near.part (and_parts (part == near.part) (handle == near.handle) h).0 in
    let there : far.part ≡ ref.part = ap (λ (end : LinkEnd). part_in end) e in
    false≢true (sym (ap not (eq-eqb near.part far.part (sym at ∙ (sym same ∙ sym there)))) ∙ k)
  where
    part_in : LinkEnd → ℕ
    part_in (Part it) = it.part
    part_in (Console it) = 0

apart_either : (a b : LinkEnd) → are_ends_apart a b ≡ true → are_ends_apart b a ≡ true
apart_either (Part one) (Part other) h = by_case (other.part == one.part) refl
  where
    by_case : (c : Bool) → (other.part == one.part) ≡ c → not (other.part == one.part) ≡ true
    by_case false e = ap not e
    by_case true e = absurd (false≢true (sym (ap not (eq-eqb one.part other.part (sym (eqb-true other.part one.part e)))) ∙ h))
apart_either (Part one) (Console other) h = refl
apart_either (Console one) (Part other) h = refl
apart_either (Console one) (Console other) h = h

pub far_elsewhere : (network : Network) (part handle : ℕ) (ref : PortRef) → AreJoined network.descs network.wiring → (it : IsOwn network part handle) → far_of network part handle ≡ Some (Part ref) → ref.part ≡ part → ⊥
far_elsewhere network part handle ref joined it far = by_side it.side it.at (some_same (sym it.far ∙ far))
  where
    link : Link
    link = slice_index_or network.wiring.links it.place no_link

    apart : are_ends_apart link.a link.b ≡ true
    apart = ends_apart network it.place (joined_parts network.descs network.wiring joined).links it.there

    some_same : {x y : LinkEnd} → Some x ≡ Some y → x ≡ y
    some_same {x} {y} e = cc

    by_side : (side : Side) → is_at (ref_to part handle) (end_at side link) ≡ true → end_at (other_side side) link ≡ Part ref → ref.part ≡ part → ⊥
    by_side A at e = two_parts ref part handle link.a link.b at e apart
    by_side B at e = two_parts ref part handle link.b link.a at e (apart_either link.a link.b apart)

-- ---- the machines

freed_if : (ref : PortRef) (count part : ℕ) (own : Member) (ends : List End) (memory : List (List ℕ)) (b : Bool) → (ref.part == part) ≡ b
    → machine_of own (freed_far (Some (Part ref)) count part ends) memory ≡ given_if b (λ (l : List End). freed_on l ref.handle count) (machine_of own ends memory)
freed_if ref count part own ends memory true e = ap (λ (t : Bool). machine_of own (if t then freed_on ends ref.handle count else ends) memory) e
freed_if ref count part own ends memory false e = ap (λ (t : Bool). machine_of own (if t then freed_on ends ref.handle count else ends) memory) e

-- what other partitions have once one sent
pub sent_other : (held : Held) (own : Member) (memory : List (List ℕ)) (handle part : ℕ) (bytes : List ℕ) (ref : PortRef) → IsSystem held → held.lines.who < length held.parts → part < length held.parts
    → part ≢ held.lines.who → kind_at (kinds_of (wires_at held.lines.wires held.lines.who)) handle ≡ Some kind.Channel → far_of (network_of held) held.lines.who handle ≡ Some (Part ref)
    → machine_by own (record held.lines { channels = sent_by held.lines.channels (own_wire held.lines handle) bytes }) memory part
    ≡ given_if (ref.part == part) (λ (l : List End). come_on l ref.handle bytes) (machine_by own held.lines memory part)
sent_other held own memory handle part bytes ref kept here there ne sort far =
    let lines : Lines = held.lines in
    let network : Network = network_of held in
    let long : length network.descs ≡ length held.parts = length-map held.parts (λ (p : Member). p.desc) in
    let law = sent_bytes_come network lines.channels lines.running lines.who handle part bytes kept.joined kept.channels (omega (arith, here, long)) (omega (arith, there, long)) ne
    (subst (λ (ws : List (List Wire)). kind_at (kinds_of (wires_at ws lines.who)) handle ≡ Some kind.Channel) kept.wires sort) in
    ap (λ (es : List End). machine_of own es memory)
    (ap (λ (ws : List (List Wire)). ends_of (sent_by lines.channels (wire_in ws) bytes) lines.running (wires_at ws part)) kept.wires
    ∙ (law
    ∙ (ap (λ (f : Option LinkEnd). come_far f bytes part (ends_of lines.channels lines.running (wires_at (wires_of network) part))) far
    ∙ ap (λ (ws : List (List Wire)). come_far (Some (Part ref)) bytes part (ends_of lines.channels lines.running (wires_at ws part))) (sym kept.wires))))
    ∙ come_if ref bytes part own (ends_of lines.channels lines.running (wires_at lines.wires part)) memory (ref.part == part) refl
  where
    wire_in : List (List Wire) → Wire
    wire_in ws = own_wire (record held.lines { wires = ws }) handle

-- and once it took
pub taken_other : (held : Held) (own : Member) (memory : List (List ℕ)) (handle part count : ℕ) (ref : PortRef) → IsSystem held → held.lines.who < length held.parts → part < length held.parts
    → part ≢ held.lines.who → kind_at (kinds_of (wires_at held.lines.wires held.lines.who)) handle ≡ Some kind.Channel → far_of (network_of held) held.lines.who handle ≡ Some (Part ref)
    → machine_by own (record held.lines { channels = taken_by held.lines.channels (own_wire held.lines handle) count }) memory part
    ≡ given_if (ref.part == part) (λ (l : List End). freed_on l ref.handle count) (machine_by own held.lines memory part)
taken_other held own memory handle part count ref kept here there ne sort far =
    let lines : Lines = held.lines in
    let network : Network = network_of held in
    let long : length network.descs ≡ length held.parts = length-map held.parts (λ (p : Member). p.desc) in
    let law = taken_bytes_are_freed network lines.channels lines.running lines.who handle part count kept.joined kept.channels (omega (arith, here, long)) (omega (arith, there, long)) ne
    (subst (λ (ws : List (List Wire)). kind_at (kinds_of (wires_at ws lines.who)) handle ≡ Some kind.Channel) kept.wires sort) in
    ap (λ (es : List End). machine_of own es memory)
    (ap (λ (ws : List (List Wire)). ends_of (taken_by lines.channels (wire_in ws) count) lines.running (wires_at ws part)) kept.wires
    ∙ (law
    ∙ (ap (λ (f : Option LinkEnd). freed_far f count part (ends_of lines.channels lines.running (wires_at (wires_of network) part))) far
    ∙ ap (λ (ws : List (List Wire)). freed_far (Some (Part ref)) count part (ends_of lines.channels lines.running (wires_at ws part))) (sym kept.wires))))
    ∙ freed_if ref count part own (ends_of lines.channels lines.running (wires_at lines.wires part)) memory (ref.part == part) refl
  where
    wire_in : List (List Wire) → Wire
    wire_in ws = own_wire (record held.lines { wires = ws }) handle

-- a take from a console is heard by none
pub taken_from_console : (held : Held) (own : Member) (memory : List (List ℕ)) (handle part count console : ℕ) → IsSystem held → held.lines.who < length held.parts → part < length held.parts
    → part ≢ held.lines.who → kind_at (kinds_of (wires_at held.lines.wires held.lines.who)) handle ≡ Some kind.Channel → far_of (network_of held) held.lines.who handle ≡ Some (Console console)
    → machine_by own (record held.lines { channels = taken_by held.lines.channels (own_wire held.lines handle) count }) memory part ≡ machine_by own held.lines memory part
taken_from_console held own memory handle part count console kept here there ne sort far =
    let lines : Lines = held.lines in
    let network : Network = network_of held in
    let long : length network.descs ≡ length held.parts = length-map held.parts (λ (p : Member). p.desc) in
    let law = taken_bytes_are_freed network lines.channels lines.running lines.who handle part count kept.joined kept.channels (omega (arith, here, long)) (omega (arith, there, long)) ne
    (subst (λ (ws : List (List Wire)). kind_at (kinds_of (wires_at ws lines.who)) handle ≡ Some kind.Channel) kept.wires sort) in
    ap (λ (es : List End). machine_of own es memory)
    (ap (λ (ws : List (List Wire)). ends_of (taken_by lines.channels (wire_in ws) count) lines.running (wires_at ws part)) kept.wires
    ∙ (law
    ∙ (ap (λ (f : Option LinkEnd). freed_far f count part (ends_of lines.channels lines.running (wires_at (wires_of network) part))) far
    ∙ ap (λ (ws : List (List Wire)). ends_of lines.channels lines.running (wires_at ws part)) (sym kept.wires))))
  where
    wire_in : List (List Wire) → Wire
    wire_in ws = own_wire (record held.lines { wires = ws }) handle
