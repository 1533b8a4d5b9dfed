-- What a partition received is dropped: its own ends, and those of all others.
use Rattle.std.proofs.Common.{◌≡◌, ◌≢◌, ℕ, zero, suc, ◌+◌, ◌-◌, ◌<◌, ◌==◌, Bool, true, false, if◌then◌else◌, List, [], ◌∷◌, ◌++◌, drop_of_length-le, length, map, slice_index_or, slice_set, Option, Some, None, refl, sym, ap, subst, ◌∙◌, arith, length-set}
use Rattle.std.specs.Prelude.{slice_get, nat_lt}
use Rattle.std.proofs.lemmas.Bool.{eqb-true, eqb-false, ltb-true, ltb-false}
use Rattle.std.proofs.lemmas.List.{get_or-set_same, get_or-set_other, get_or_past, set-get_or}
use Rattle.byte_channel.specs.declared.side.Side.{Side}
use Rattle.byte_channel.specs.declared.side.Side.TheVariants.{A, B}
use Rattle.byte_channel.specs.Waiting.{Waiting, waiting_at, empty_channel, after_receive, after_clear}
use Rattle.machine_desc.specs.declared.desc.Desc.{Desc}
use Rattle.machine_desc.specs.declared.wiring.PortRef.{PortRef}
use Rattle.machine_desc.specs.declared.wiring.End.{End as LinkEnd}
use Rattle.machine_desc.specs.declared.wiring.End.TheVariants.{Part, Console}
use Rattle.machine_desc.specs.Joined.{AreJoined}
use Rattle.partition.specs.Port.{End, empty_end, end_at, kind_at, freed_on, emptied}
use Rattle.partition.specs.Event.{Room, apply}
use Rattle.partition.specs.Machine.{Machine}
use Rattle.partition.specs.Reached.{Takes}
use Rattle.network.specs.Network.{Network, far_of}
use Rattle.network.specs.Change.{Change, Moves, changed, after_changes}
use Rattle.network.specs.World.{Delivery, delivered, changes_of}
use Rattle.network.specs.Effects.{room_for, room_from}
use Rattle.system.specs.declared.wire.Wire.{Wire}
use Rattle.system.specs.declared.wire.Wire.TheVariants.{Channel, Send, Receive, Manage}
use Rattle.system.specs.Board.{kind_of, kinds_of, channel_at, end_of, ends_of, no_wire, wires_at, taken_by, cleared_by, all_cleared, have_channel, is_tied, AreWires}
use Rattle.system.specs.Channels.{wires_of, wire_for, freed_far}
use Rattle.system.proofs.Seen.{map_same, elsewhere}
use Rattle.system.proofs.Far.{own, taken_bytes_are_freed}
use Rattle.system.proofs.Delivered.{with_ports}
use Rattle.system.proofs.Sendings.{far_elsewhere}

-- ---- the room that others have again

-- the ends of a partition, once each of another one's handles, from this number on, dropped what it received
abbrev pub freed_all : Network → ℕ → ℕ → List End → ℕ → List End → List End
freed_all network part handle [] other ends = ends
freed_all network part handle (owned ∷ owns) other ends = freed_all network part (handle + 1) owns other (freed_far (far_of network part handle) (length owned.received) other ends)

none_freed_on : (ends : List End) (handle : ℕ) → freed_on ends handle 0 ≡ ends
none_freed_on ends handle =
    ap (λ (n : ℕ). slice_set ends (handle - 1) (record (end_at ends handle) { outstanding = n })) (let same : (end_at ends handle).outstanding - 0 ≡ (end_at ends handle).outstanding = omega arith in same)
    ∙ set-get_or ends (handle - 1) empty_end

-- nothing was dropped
none_freed : (far : Option LinkEnd) (other : ℕ) (ends : List End) → freed_far far 0 other ends ≡ ends
none_freed None other ends = refl
none_freed (Some (Console console)) other ends = refl
none_freed (Some (Part ref)) other ends = by_part (ref.part == other)
  where
    by_part : (b : Bool) → (if b then freed_on ends ref.handle 0 else ends) ≡ ends
    by_part true = none_freed_on ends ref.handle
    by_part false = refl

-- one event of room, if there is one
room_frees : (far : Option LinkEnd) (received : List ℕ) (rest : List Delivery) (other : ℕ) (desc : Desc) (machine : Machine)
    → after_changes desc (changes_of other (map delivered (room_for far received ++ rest))) machine
    ≡ after_changes desc (changes_of other (map delivered rest)) (with_ports (freed_far far (length received) other machine.ports) machine)
unfolding changed apply
room_frees far [] rest other desc machine =
    ap (λ (ends : List End). after_changes desc (changes_of other (map delivered rest)) (with_ports ends machine)) (sym (none_freed far other machine.ports))
room_frees None (byte ∷ bytes) rest other desc machine = refl
room_frees (Some (Console console)) (byte ∷ bytes) rest other desc machine = refl
room_frees (Some (Part ref)) (byte ∷ bytes) rest other desc machine = by_part (ref.part == other)
  where
    log : List Change
    log = changes_of other (map delivered rest)

    by_part : (b : Bool)
        → after_changes desc (if b then Moves (Takes (Room ref.handle (length (byte ∷ bytes)))) ∷ log else log) machine
        ≡ after_changes desc log (with_ports (if b then freed_on machine.ports ref.handle (length (byte ∷ bytes)) else machine.ports) machine)
    by_part true = refl
    by_part false = refl

-- all of them
pub rooms_free : (network : Network) (part handle : ℕ) (owns : List End) (other : ℕ) (desc : Desc) (machine : Machine)
    → after_changes desc (changes_of other (map delivered (room_from network part handle owns))) machine ≡ with_ports (freed_all network part handle owns other machine.ports) machine
rooms_free network part handle [] other desc machine = refl
rooms_free network part handle (owned ∷ owns) other desc machine =
    room_frees (far_of network part handle) owned.received (room_from network part (handle + 1) owns) other desc machine
    ∙ rooms_free network part (handle + 1) owns other desc (with_ports (freed_far (far_of network part handle) (length owned.received) other machine.ports) machine)

-- ---- one end is cleared

-- to drop all that waits is to take it
after_all : (side : Side) (channel : Waiting) → after_clear side channel ≡ after_receive side (length (waiting_at side channel)) channel
after_all A channel = ap (λ (l : List ℕ). let it : Waiting = record { at_a = l; at_b = channel.at_b } in it) (sym (drop_of_length-le channel.at_a {i = length channel.at_a} (omega arith)))
after_all B channel = ap (λ (l : List ℕ). let it : Waiting = record { at_a = channel.at_a; at_b = l } in it) (sym (drop_of_length-le channel.at_b {i = length channel.at_b} (omega arith)))

pub cleared_long : (channels : List Waiting) (wire : Wire) → length (cleared_by channels wire) ≡ length channels
cleared_long channels (Channel link side) = length-set channels link _
cleared_long channels (Send bell) = refl
cleared_long channels (Receive bell) = refl
cleared_long channels (Manage part) = refl

pub all_cleared_long : (wires : List Wire) (channels : List Waiting) → length (all_cleared wires channels) ≡ length channels
all_cleared_long [] channels = refl
all_cleared_long (wire ∷ wires) channels = all_cleared_long wires (cleared_by channels wire) ∙ cleared_long channels wire

-- what leads elsewhere stays
cleared_apart : (channels : List Waiting) (running : List Bool) (wire other : Wire) → have_channel other wire ≡ false → end_of (cleared_by channels wire) running other ≡ end_of channels running other
cleared_apart channels running (Channel link side) other h = elsewhere channels running link side (after_clear side (channel_at channels link)) other h
cleared_apart channels running (Send bell) other h = refl
cleared_apart channels running (Receive bell) other h = refl
cleared_apart channels running (Manage part) other h = refl

all_apart : (wires : List Wire) (channels : List Waiting) (running : List Bool) (other : Wire) → ((k : ℕ) → k < length wires → have_channel other (slice_index_or wires k no_wire) ≡ false)
    → end_of (all_cleared wires channels) running other ≡ end_of channels running other
all_apart [] channels running other h = refl
all_apart (wire ∷ wires) channels running other h =
    all_apart wires (cleared_by channels wire) running other (λ k there. h (suc k) (omega (arith, there))) ∙ cleared_apart channels running wire other (h 0 (omega arith))

rest_wires : (channels parts : ℕ) (wire : Wire) (wires : List Wire) → AreWires channels parts (wire ∷ wires) → AreWires channels parts wires
rest_wires channels parts wire wires are = record {
  tied = λ k there. are.tied (suc k) (omega (arith, there));
  apart = λ k l there there_too ne. are.apart (suc k) (suc l) (omega (arith, there)) (omega (arith, there_too)) (λ (e : suc k ≡ suc l). ne (omega (arith, e)));
}

-- the other ends of its partition stay
rest_same : (channels : List Waiting) (running : List Bool) (parts : ℕ) (wire : Wire) (wires : List Wire) → AreWires (length channels) parts (wire ∷ wires)
    → ends_of (cleared_by channels wire) running wires ≡ ends_of channels running wires
rest_same channels running parts wire wires are =
    map_same (end_of (cleared_by channels wire) running) (end_of channels running) wires no_wire
    (λ k there. cleared_apart channels running wire (slice_index_or wires k no_wire) (are.apart (suc k) 0 (omega (arith, there)) (omega arith) (λ (e : suc k ≡ 0). omega (arith, e))))

abbrev emptied_end : End → End
emptied_end own_end = record own_end { received = [] }

cleared_end : (channels : List Waiting) (running : List Bool) (parts : ℕ) (wire : Wire) → is_tied (length channels) parts wire ≡ true → end_of (cleared_by channels wire) running wire ≡ emptied_end (end_of channels running wire)
cleared_end channels running parts (Send bell) h = refl
cleared_end channels running parts (Receive bell) h = refl
cleared_end channels running parts (Manage part) h = refl
cleared_end channels running parts (Channel link A) h = rw (get_or-set_same channels link (after_clear A (channel_at channels link)) empty_channel (ltb-true link (length channels) h)) refl
cleared_end channels running parts (Channel link B) h = rw (get_or-set_same channels link (after_clear B (channel_at channels link)) empty_channel (ltb-true link (length channels) h)) refl

-- ---- a partition's own ends

pub own_emptied : (wires : List Wire) (channels : List Waiting) (running : List Bool) (parts : ℕ) → AreWires (length channels) parts wires
    → ends_of (all_cleared wires channels) running wires ≡ emptied (ends_of channels running wires)
own_emptied [] channels running parts are = refl
own_emptied (wire ∷ wires) channels running parts are =
    let next : List Waiting = cleared_by channels wire in
    let rest = rest_wires (length channels) parts wire wires are in
    let head : end_of (all_cleared wires next) running wire ≡ emptied_end (end_of channels running wire) =
    all_apart wires next running wire (λ k there. are.apart 0 (suc k) (omega arith) (omega (arith, there)) (λ (e : 0 ≡ suc k). omega (arith, e)))
    ∙ cleared_end channels running parts wire (are.tied 0 (omega arith)) in
    let tail : ends_of (all_cleared wires next) running wires ≡ emptied (ends_of channels running wires) =
    own_emptied wires next running parts (subst (λ (n : ℕ). AreWires n parts wires) (sym (cleared_long channels wire)) rest) ∙ ap emptied (rest_same channels running parts wire wires are) in
    ap (λ (it : End). it ∷ ends_of (all_cleared wires next) running wires) head ∙ ap (λ (l : List End). emptied_end (end_of channels running wire) ∷ l) tail

-- ---- those of all others

-- these wires are those of a partition's handles from this number on
pub record AreFrom (network : Network) (part handle : ℕ) (wires : List Wire) : Type 0 where
  pub wire : (k : ℕ) → k < length wires → wire_for network part (handle + k) ≡ slice_index_or wires k no_wire
  pub sort : (k : ℕ) → k < length wires → kind_at (kinds_of (wires_at (wires_of network) part)) (handle + k) ≡ Some (kind_of (slice_index_or wires k no_wire))

from_next : (network : Network) (part handle : ℕ) (wire : Wire) (wires : List Wire) → AreFrom network part handle (wire ∷ wires) → AreFrom network part (handle + 1) wires
from_next network part handle wire wires are = record {
  wire = λ k there. ap (wire_for network part) (next k) ∙ are.wire (suc k) (omega (arith, there));
  sort = λ k there. ap (kind_at (kinds_of (wires_at (wires_of network) part))) (next k) ∙ are.sort (suc k) (omega (arith, there));
}
  where
    next : (k : ℕ) → (handle + 1) + k ≡ handle + suc k
    next k = omega arith

from_here : (network : Network) (part handle : ℕ) (wire : Wire) (wires : List Wire) → AreFrom network part handle (wire ∷ wires)
    → (wire_for network part handle ≡ wire) × (kind_at (kinds_of (wires_at (wires_of network) part)) handle ≡ Some (kind_of wire))
from_here network part handle wire wires are =
    let same : handle ≡ handle + 0 = omega arith in
    (ap (wire_for network part) same ∙ are.wire 0 (omega arith), ap (kind_at (kinds_of (wires_at (wires_of network) part))) same ∙ are.sort 0 (omega arith))

one_freed : (network : Network) (channels : List Waiting) (running : List Bool) (part handle other : ℕ) (wire : Wire) → AreJoined network.descs network.wiring → length channels ≡ length network.wiring.links
    → part < length network.descs → other < length network.descs → other ≢ part → wire_for network part handle ≡ wire → kind_at (kinds_of (wires_at (wires_of network) part)) handle ≡ Some (kind_of wire)
    → ends_of (cleared_by channels wire) running (wires_at (wires_of network) other)
    ≡ freed_far (far_of network part handle) (length (end_of channels running wire).received) other (ends_of channels running (wires_at (wires_of network) other))
one_freed network channels running part handle other (Send bell) joined long here there ne is sort = sym (none_freed (far_of network part handle) other (ends_of channels running (wires_at (wires_of network) other)))
one_freed network channels running part handle other (Receive bell) joined long here there ne is sort = sym (none_freed (far_of network part handle) other (ends_of channels running (wires_at (wires_of network) other)))
one_freed network channels running part handle other (Manage managed) joined long here there ne is sort = sym (none_freed (far_of network part handle) other (ends_of channels running (wires_at (wires_of network) other)))
one_freed network channels running part handle other (Channel link side) joined long here there ne is sort =
    let count : ℕ = length (waiting_at side (channel_at channels link)) in
    ap (λ (c : Waiting). ends_of (slice_set channels link c) running (wires_at (wires_of network) other)) (after_all side (channel_at channels link))
    ∙ (ap (λ (w : Wire). ends_of (taken_by channels w count) running (wires_at (wires_of network) other)) (sym is)
    ∙ taken_bytes_are_freed network channels running part handle other count joined long here there ne sort)

pub others_freed : (network : Network) (running : List Bool) (part other : ℕ) → AreJoined network.descs network.wiring → part < length network.descs → other < length network.descs → other ≢ part
    → (wires : List Wire) (handle : ℕ) (channels : List Waiting) → length channels ≡ length network.wiring.links → AreWires (length channels) (length network.descs) wires → AreFrom network part handle wires
    → ends_of (all_cleared wires channels) running (wires_at (wires_of network) other)
    ≡ freed_all network part handle (ends_of channels running wires) other (ends_of channels running (wires_at (wires_of network) other))
others_freed network running part other joined here there ne [] handle channels long are from = refl
others_freed network running part other joined here there ne (wire ∷ wires) handle channels long are from =
    let next : List Waiting = cleared_by channels wire in
    let parts : ℕ = length network.descs in
    let at = from_here network part handle wire wires from in
    let same = cleared_long channels wire in
    others_freed network running part other joined here there ne wires (handle + 1) next (same ∙ long) (subst (λ (n : ℕ). AreWires n parts wires) (sym same) (rest_wires (length channels) parts wire wires are))
    (from_next network part handle wire wires from)
    ∙ (ap (λ (owns : List End). freed_all network part (handle + 1) owns other (ends_of next running (wires_at (wires_of network) other))) (rest_same channels running parts wire wires are)
    ∙ ap (freed_all network part (handle + 1) (ends_of channels running wires) other) (one_freed network channels running part handle other wire joined long here there ne at.0 at.1))

-- ---- its own room

freed_elsewhere : (far : Option LinkEnd) (count part : ℕ) (ends : List End) → ((ref : PortRef) → far ≡ Some (Part ref) → ref.part ≡ part → ⊥) → freed_far far count part ends ≡ ends
freed_elsewhere None count part ends h = refl
freed_elsewhere (Some (Console console)) count part ends h = refl
freed_elsewhere (Some (Part ref)) count part ends h = by_part (ref.part == part) refl
  where
    by_part : (b : Bool) → (ref.part == part) ≡ b → (if b then freed_on ends ref.handle count else ends) ≡ ends
    by_part true e = absurd (h ref refl (eqb-true ref.part part e))
    by_part false e = refl

one_unfreed : (network : Network) (channels : List Waiting) (running : List Bool) (part handle : ℕ) (wire : Wire) (ends : List End) → AreJoined network.descs network.wiring → part < length network.descs
    → kind_at (kinds_of (wires_at (wires_of network) part)) handle ≡ Some (kind_of wire) → freed_far (far_of network part handle) (length (end_of channels running wire).received) part ends ≡ ends
one_unfreed network channels running part handle (Send bell) ends joined here sort = none_freed (far_of network part handle) part ends
one_unfreed network channels running part handle (Receive bell) ends joined here sort = none_freed (far_of network part handle) part ends
one_unfreed network channels running part handle (Manage managed) ends joined here sort = none_freed (far_of network part handle) part ends
one_unfreed network channels running part handle (Channel link side) ends joined here sort =
    freed_elsewhere (far_of network part handle) (length (waiting_at side (channel_at channels link))) part ends
    (λ ref far. far_elsewhere network part handle ref joined (own network part handle joined here sort) far)

-- no far end of a partition is its own
pub own_unfreed : (network : Network) (channels : List Waiting) (running : List Bool) (part : ℕ) → AreJoined network.descs network.wiring → part < length network.descs
    → (wires : List Wire) (handle : ℕ) (ends : List End) → AreFrom network part handle wires → freed_all network part handle (ends_of channels running wires) part ends ≡ ends
own_unfreed network channels running part joined here [] handle ends from = refl
own_unfreed network channels running part joined here (wire ∷ wires) handle ends from =
    let at = from_here network part handle wire wires from in
    own_unfreed network channels running part joined here wires (handle + 1) (freed_far (far_of network part handle) (length (end_of channels running wire).received) part ends) (from_next network part handle wire wires from)
    ∙ one_unfreed network channels running part handle wire ends joined here at.1

-- ---- all handles of a partition

kind_here : (wires : List Wire) (k : ℕ) → k < length wires → slice_get (map kind_of wires) k ≡ Some (kind_of (slice_index_or wires k no_wire))
kind_here [] k there = absurd (omega (arith, there))
kind_here (wire ∷ wires) zero there = refl
kind_here (wire ∷ wires) (suc k) there = kind_here wires k (omega (arith, there))

not_none : (k : ℕ) (b : Bool) → ((1 + k) == 0) ≡ b → ((1 + k) == 0) ≡ false
not_none k false e = e
not_none k true e = let none = eqb-true (1 + k) 0 e in absurd (omega (arith, none))

pub from_first : (network : Network) (part : ℕ) → AreFrom network part 1 (wires_at (wires_of network) part)
from_first network part = record {
  wire = λ k there. let same : (1 + k) - 1 ≡ k = omega arith in ap (λ (n : ℕ). slice_index_or (wires_at (wires_of network) part) n no_wire) same;
  sort = λ k there.
      let same : (1 + k) - 1 ≡ k = omega arith in
      let some : ((1 + k) == 0) ≡ false = not_none k ((1 + k) == 0) refl in
      ap (λ (b : Bool). if b then None else slice_get (kinds_of (wires_at (wires_of network) part)) ((1 + k) - 1)) some
      ∙ (ap (λ (n : ℕ). slice_get (kinds_of (wires_at (wires_of network) part)) n) same ∙ kind_here (wires_at (wires_of network) part) k there);
}

-- ---- consoles

-- nothing waits at a console's end, where nothing waited there
still_none : (channels : List Waiting) (wire : Wire) (link : ℕ) (side : Side) → waiting_at side (channel_at channels link) ≡ [] → waiting_at side (channel_at (cleared_by channels wire) link) ≡ []
still_none channels (Send bell) link side h = h
still_none channels (Receive bell) link side h = h
still_none channels (Manage part) link side h = h
still_none channels (Channel place at) link side h = by_place (link == place) refl (nat_lt place (length channels)) refl
  where
    beside : (s t : Side) → waiting_at t (channel_at channels place) ≡ [] → waiting_at t (after_clear s (channel_at channels place)) ≡ []
    beside A A e = refl
    beside A B e = e
    beside B A e = e
    beside B B e = refl

    by_place : (b : Bool) → (link == place) ≡ b → (c : Bool) → nat_lt place (length channels) ≡ c → waiting_at side (channel_at (slice_set channels place (after_clear at (channel_at channels place))) link) ≡ []
    by_place false e c f = ap (waiting_at side) (get_or-set_other channels place link _ empty_channel (eqb-false link place e)) ∙ h
    by_place true e true f =
        let same : link ≡ place = eqb-true link place e in
        ap (λ (n : ℕ). waiting_at side (channel_at (slice_set channels place (after_clear at (channel_at channels place))) n)) same
        ∙ (ap (waiting_at side) (get_or-set_same channels place _ empty_channel (ltb-true place (length channels) f))
        ∙ beside at side (ap (λ (n : ℕ). waiting_at side (channel_at channels n)) (sym same) ∙ h))
    by_place true e false f =
        let same : link ≡ place = eqb-true link place e in
        let past = ltb-false place (length channels) f in
        let long = length-set channels place (after_clear at (channel_at channels place)) in
        ap (waiting_at side) (get_or_past (slice_set channels place (after_clear at (channel_at channels place))) link empty_channel (omega (arith, same, past, long))) ∙ nothing side
      where
        nothing : (s : Side) → waiting_at s empty_channel ≡ []
        nothing A = refl
        nothing B = refl

pub all_still_none : (wires : List Wire) (channels : List Waiting) (link : ℕ) (side : Side) → waiting_at side (channel_at channels link) ≡ [] → waiting_at side (channel_at (all_cleared wires channels) link) ≡ []
all_still_none [] channels link side h = h
all_still_none (wire ∷ wires) channels link side h = all_still_none wires (cleared_by channels wire) link side (still_none channels wire link side h)
