-- The far end of a channel, by wires.
use Rattle.std.proofs.Common.{◌≡◌, ◌≢◌, ℕ, zero, suc, ◌+◌, ◌-◌, ◌<◌, ◌≤◌, ◌==◌, Bool, true, false, cond, ◌&&◌, if◌then◌else◌, List, [], ◌∷◌, ◌++◌, length, slice_index_or, slice_set, Option, Some, None, refl, sym, ap, subst, ◌∙◌, arith, length-drop}
use Rattle.std.specs.Prelude.{slice_get}
use Rattle.std.specs.List.{list_all}
use Rattle.std.specs.Option.{option_map_or}
use Rattle.std.proofs.lemmas.Bool.{and_parts, false≢true, eqb-true, eqb-false, eq-eqb}
use Rattle.std.proofs.lemmas.List.{get_or-set_same}
use Rattle.std.proofs.lemmas.List.Sums.{sum_by-cons}
use Rattle.byte_channel.specs.declared.side.Side.{Side}
use Rattle.byte_channel.specs.declared.side.Side.TheVariants.{A, B}
use Rattle.byte_channel.specs.Waiting.{Waiting, other_side, empty_channel, after_send, after_receive}
use Rattle.machine_desc.specs.declared.desc.Desc.{Desc}
use Rattle.machine_desc.specs.declared.desc.Port.{Port}
use Rattle.machine_desc.specs.declared.desc.Port.TheVariants as described
use Rattle.machine_desc.specs.declared.wiring.PortRef.{PortRef}
use Rattle.machine_desc.specs.declared.wiring.End.{End as LinkEnd}
use Rattle.machine_desc.specs.declared.wiring.End.TheVariants.{Part, Console}
use Rattle.machine_desc.specs.declared.wiring.Link.{Link}
use Rattle.machine_desc.specs.Joined.{same_ref, is_at, is_end, is_channel, are_ends_apart, is_link_joined, are_links_joined, ends_at, is_port_joined, AreJoined}
use Rattle.partition.specs.Port.{End, end_at as own_end_at, come_on, freed_on, kind_at}
use Rattle.partition.specs.declared.kind.Kind.TheVariants as kind
use Rattle.network.specs.Network.{Network, is_end as is_same_end, no_desc, ref_to, far_end, far_of}
use Rattle.system.specs.declared.wire.ChannelEnd.{ChannelEnd}
use Rattle.system.specs.declared.wire.Wire.{Wire}
use Rattle.system.specs.declared.wire.Wire.TheVariants.{Channel, Send, Receive, Manage}
use Rattle.system.specs.Board.{kind_of, kinds_of, channel_at, end_of, ends_of, no_wire, wire_at, wires_at, sent_by, taken_by, have_channel, AreWires}
use Rattle.system.specs.Wired.{side_from, channel_wire, console_side, console_side, wire_of}
use Rattle.system.specs.Channels.{wires_of, wire_for, come_far, freed_far}
use Rattle.system.proofs.Handles.{is_there}
use Rattle.system.proofs.Seen.{map_same, changed, elsewhere, end_here}
use Rattle.system.proofs.Tied.{joined_parts, all_at, no_link, end_at, side_at, console_found, console_once, found, ends_in, handle_joined, wires_length, wire_there, are_wires, wires_there, ports_joined}

-- ---- the channel of an end

abbrev count : Bool → ℕ
count b = cond b 1 0

one_if : (b : Bool) → b ≡ true → count b ≡ 1
one_if true h = refl
one_if false h = absurd (false≢true h)

counted : (link : Link) (links : List Link) (end : LinkEnd) → ends_in end (link ∷ links) ≡ (count (is_same_end end link.a) + count (is_same_end end link.b)) + ends_in end links
counted link links end =
    let firsts = sum_by-cons (λ (l : Link). cond (is_same_end end l.a) 1 0) link links in
    let seconds = sum_by-cons (λ (l : Link). cond (is_same_end end l.b) 1 0) link links in
    omega (arith, firsts, seconds)

-- an end at a place is counted
some_end : (links : List Link) (end : LinkEnd) (place : ℕ) (side : Side) → place < length links → is_same_end end (end_at side (slice_index_or links place no_link)) ≡ true → 1 ≤ ends_in end links
some_end [] end place side there at = absurd (omega arith)
some_end (link ∷ links) end zero A there at = let sum = counted link links end in let one = one_if (is_same_end end link.a) at in omega (arith, sum, one)
some_end (link ∷ links) end zero B there at = let sum = counted link links end in let one = one_if (is_same_end end link.b) at in omega (arith, sum, one)
some_end (link ∷ links) end (suc place) side there at = let sum = counted link links end in let rest = some_end links end place side (omega arith) at in omega (arith, sum, rest)

-- where a handle has one end, its wire leads there
led_by : (link : Link) (links : List Link) (end : LinkEnd) (number place : ℕ) (side : Side) (wire : ChannelEnd) → ends_in end (link ∷ links) ≤ 1 → 1 ≤ ends_in end links → wire ≡ side_at ((number + 1) + place) side
    → (b : Bool) → is_same_end end link.a ≡ b → (c : Bool) → is_same_end end link.b ≡ c → (if b then side_at number A else if c then side_at number B else wire) ≡ side_at (number + suc place) side
led_by link links end number place side wire few some is true e c f =
    let sum = counted link links end in let one = one_if (is_same_end end link.a) e in absurd (omega (arith, sum, one, few, some))
led_by link links end number place side wire few some is false e true f =
    let sum = counted link links end in let one = one_if (is_same_end end link.b) f in absurd (omega (arith, sum, one, few, some))
led_by link links end number place side wire few some is false e false f = is ∙ ap (λ (n : ℕ). side_at n side) (let same : (number + 1) + place ≡ number + suc place = omega arith in same)

second_end : (link : Link) (links : List Link) (end : LinkEnd) (number : ℕ) (wire : ChannelEnd) → ends_in end (link ∷ links) ≤ 1 → is_same_end end link.b ≡ true → (b : Bool) → is_same_end end link.a ≡ b
    → (if b then side_at number A else if is_same_end end link.b then side_at number B else wire) ≡ side_at (number + 0) B
second_end link links end number wire few at true e =
    let sum = counted link links end in
    let one = one_if (is_same_end end link.a) e in
    let two = one_if (is_same_end end link.b) at in
    absurd (omega (arith, sum, one, two, few))
second_end link links end number wire few at false e =
    ap (λ (b : Bool). if b then side_at number B else wire) at ∙ ap (λ (n : ℕ). side_at n B) (let same : number ≡ number + 0 = omega arith in same)

pub led : (links : List Link) (end : LinkEnd) (number place : ℕ) (side : Side) → ends_in end links ≤ 1 → place < length links → is_same_end end (end_at side (slice_index_or links place no_link)) ≡ true
    → side_from number links end ≡ side_at (number + place) side
led [] end number place side few there at = absurd (omega arith)
led (link ∷ links) end number zero A few there at =
    ap (λ (b : Bool). if b then side_at number A else if is_same_end end link.b then side_at number B else side_from (number + 1) links end) at
    ∙ ap (λ (n : ℕ). side_at n A) (let same : number ≡ number + 0 = omega arith in same)
led (link ∷ links) end number zero B few there at = second_end link links end number (side_from (number + 1) links end) few at (is_same_end end link.a) refl
led (link ∷ links) end number (suc place) side few there at =
    let some = some_end links end place side (omega arith) at in
    let sum = counted link links end in
    led_by link links end number place side (side_from (number + 1) links end) few some (led links end (number + 1) place side (omega (arith, sum, few)) (omega arith) at) (is_same_end end link.a) refl (is_same_end end link.b) refl

-- the other end of that channel is the far one
far_by : (link : Link) (far : Option LinkEnd) (end : LinkEnd) (rest : Option LinkEnd) → rest ≡ far → (b : Bool) → is_same_end end link.a ≡ b → (c : Bool) → is_same_end end link.b ≡ c → b ≡ false → c ≡ false
    → (if b then Some link.b else if c then Some link.a else rest) ≡ far
far_by link far end rest is true e c f not_a not_b = absurd cc
far_by link far end rest is false e true f not_a not_b = absurd cc
far_by link far end rest is false e false f not_a not_b = is

none_at : (link : Link) (links : List Link) (end : LinkEnd) → ends_in end (link ∷ links) ≤ 1 → 1 ≤ ends_in end links → (b c : Bool) → is_same_end end link.a ≡ b → is_same_end end link.b ≡ c → (b ≡ false) × (c ≡ false)
none_at link links end few some true c e f = let sum = counted link links end in let one = one_if (is_same_end end link.a) e in absurd (omega (arith, sum, one, few, some))
none_at link links end few some false true e f = let sum = counted link links end in let one = one_if (is_same_end end link.b) f in absurd (omega (arith, sum, one, few, some))
none_at link links end few some false false e f = (refl, refl)

only_b : (link : Link) (links : List Link) (end : LinkEnd) → ends_in end (link ∷ links) ≤ 1 → is_same_end end link.b ≡ true → (b : Bool) → is_same_end end link.a ≡ b → b ≡ false
only_b link links end few at true e =
    let sum = counted link links end in
    let one = one_if (is_same_end end link.a) e in
    let two = one_if (is_same_end end link.b) at in
    absurd (omega (arith, sum, one, two, few))
only_b link links end few at false e = refl

pub far_there : (links : List Link) (end : LinkEnd) (place : ℕ) (side : Side) → ends_in end links ≤ 1 → place < length links → is_same_end end (end_at side (slice_index_or links place no_link)) ≡ true
    → far_end links end ≡ Some (end_at (other_side side) (slice_index_or links place no_link))
far_there [] end place side few there at = absurd (omega arith)
far_there (link ∷ links) end zero A few there at = ap (λ (b : Bool). if b then Some link.b else if is_same_end end link.b then Some link.a else far_end links end) at
far_there (link ∷ links) end zero B few there at =
    ap (λ (b : Bool). if b then Some link.b else if is_same_end end link.b then Some link.a else far_end links end) (only_b link links end few at (is_same_end end link.a) refl)
    ∙ ap (λ (b : Bool). if b then Some link.a else far_end links end) at
far_there (link ∷ links) end (suc place) side few there at =
    let some = some_end links end place side (omega arith) at in
    let sum = counted link links end in
    let none = none_at link links end few some (is_same_end end link.a) (is_same_end end link.b) refl refl in
    far_by link (Some (end_at (other_side side) (slice_index_or links place no_link))) end (far_end links end) (far_there links end place side (omega (arith, sum, few)) (omega arith) at)
    (is_same_end end link.a) refl (is_same_end end link.b) refl none.0 none.1

-- ---- handles and the ends of channels

-- a handle that leads to an end of a channel, which the wiring has at that handle
pub record IsLed (network : Network) (part handle : ℕ) (wire : Wire) : Type 0 where
  pub place : ℕ
  pub side : Side
  pub there : place < length network.wiring.links
  pub is : wire ≡ Channel place side
  pub at : is_at (ref_to part handle) (end_at side (slice_index_or network.wiring.links place no_link)) ≡ true
  pub once : ends_in (Part (ref_to part handle)) network.wiring.links ≡ 1

channel_led : (network : Network) (part handle rx tx : ℕ) → is_port_joined network.descs network.wiring (ref_to part handle) (described.Channel rx tx) ≡ true
    → IsLed network part handle (channel_wire (side_from 0 network.wiring.links (Part (ref_to part handle))))
unfolding is_port_joined ends_at
channel_led network part handle rx tx h =
    let f = found network.wiring.links (Part (ref_to part handle)) 0 (let one = eqb-true (ends_in (Part (ref_to part handle)) network.wiring.links) 1 h in omega (arith, one)) in
    record {
      place = f.place;
      side = f.side;
      there = f.there;
      is = ap channel_wire f.is ∙ ap (λ (n : ℕ). Channel n f.side) (let same : 0 + f.place ≡ f.place = omega arith in same);
      at = f.at no_link;
      once = eqb-true (ends_in (Part (ref_to part handle)) network.wiring.links) 1 h;
    }

abbrev LeadsTo : Network → ℕ → ℕ → Wire → Type 0
LeadsTo network part handle (Channel link side) = IsLed network part handle (Channel link side)
LeadsTo network part handle _ = Unit {0}

leads_by : (network : Network) (part handle : ℕ) (wire : Wire) → IsLed network part handle wire → LeadsTo network part handle wire
leads_by network part handle (Channel link side) is = is
leads_by network part handle (Send bell) is = tt
leads_by network part handle (Receive bell) is = tt
leads_by network part handle (Manage other) is = tt

port_leads : (network : Network) (part handle : ℕ) (port : Port) → is_port_joined network.descs network.wiring (ref_to part handle) port ≡ true
    → LeadsTo network part handle (wire_of network.wiring (ref_to part handle) port)
port_leads network part handle (described.Channel rx tx) h = leads_by network part handle _ (channel_led network part handle rx tx h)
port_leads network part handle described.Send h = tt
port_leads network part handle (described.Receive irq) h = tt
port_leads network part handle (described.Manage other held spans) h = tt

-- of all handles of all partitions
pub wires_lead : (network : Network) (part k : ℕ) → AreJoined network.descs network.wiring → part < length network.descs → k < length (wires_at (wires_of network) part)
    → LeadsTo network part (1 + k) (slice_index_or (wires_at (wires_of network) part) k no_wire)
wires_lead network part k joined here there =
    let ports : List Port = (slice_index_or network.descs part no_desc).ports in
    let own = wires_there network.wiring 0 network.descs part part here (omega arith) in
    let long = ap length own ∙ wires_length network.wiring part 1 ports in
    let within : k < length ports = omega (arith, long, there) in
    let joins = joined_parts network.descs network.wiring joined in
    let port = handle_joined network.descs network.wiring part 1 ports k (1 + k) described.Send (ports_joined network.descs network.wiring part joins.ports here) within refl in
    subst (LeadsTo network part (1 + k)) (sym (ap (λ (ws : List Wire). slice_index_or ws k no_wire) own ∙ wire_there network.wiring part 1 ports k (1 + k) described.Send within refl))
    (port_leads network part (1 + k) (slice_index_or ports k described.Send) port)

pub part_wires : (network : Network) (part : ℕ) → AreJoined network.descs network.wiring → part < length network.descs
    → AreWires (length network.wiring.links) (length network.descs) (wires_at (wires_of network) part)
part_wires network part joined here =
    let joins = joined_parts network.descs network.wiring joined in
    subst (AreWires (length network.wiring.links) (length network.descs)) (sym (wires_there network.wiring 0 network.descs part part here (omega arith)))
    (are_wires network.descs network.wiring part (slice_index_or network.descs part no_desc).ports joins.links (ports_joined network.descs network.wiring part joins.ports here))

-- ---- handles that ends of channels name

-- a handle that is a channel's is there
record IsChannelAt (descs : List Desc) (part place : ℕ) : Type 0 where
  here : part < length descs
  there : place < length (slice_index_or descs part no_desc).ports
  sort : is_channel (slice_index_or (slice_index_or descs part no_desc).ports place described.Send) ≡ true

channel_among : (ports : List Port) (place : ℕ) → option_map_or is_channel (slice_get ports place) false ≡ true
    → (place < length ports) × (is_channel (slice_index_or ports place described.Send) ≡ true)
channel_among [] place h = absurd (false≢true h)
channel_among (port ∷ ports) zero h = (let some : 0 < length (port ∷ ports) = omega arith in some, h)
channel_among (port ∷ ports) (suc place) h = let rest = channel_among ports place h in let below = rest.0 in (let some : suc place < length (port ∷ ports) = omega (arith, below) in some, rest.1)

channel_in : (descs : List Desc) (part place : ℕ) → option_map_or is_channel (option_map_or (λ (desc : Desc). slice_get desc.ports place) (slice_get descs part) None) false ≡ true → IsChannelAt descs part place
channel_in [] part place h = absurd (false≢true h)
channel_in (desc ∷ descs) zero place h = let found = channel_among desc.ports place h in record { here = omega arith; there = found.0; sort = found.1 }
channel_in (desc ∷ descs) (suc part) place h = let rest = channel_in descs part place h in record { here = let below = rest.here in omega (arith, below); there = rest.there; sort = rest.sort }

record IsNamed (descs : List Desc) (ref : PortRef) : Type 0 where
  some : 0 < ref.handle
  is : IsChannelAt descs ref.part (ref.handle - 1)

named_by : (descs : List Desc) (ref : PortRef) (b : Bool) → (ref.handle == 0) ≡ b
    → option_map_or is_channel (if b then None else option_map_or (λ (desc : Desc). slice_get desc.ports (ref.handle - 1)) (slice_get descs ref.part) None) false ≡ true → IsNamed descs ref
named_by descs ref true e h = absurd (false≢true h)
named_by descs ref false e h = record { some = let apart = eqb-false ref.handle 0 e in omega (arith, apart); is = channel_in descs ref.part (ref.handle - 1) h }

pub link_end : (network : Network) (place : ℕ) (side : Side) → are_links_joined network.descs network.wiring ≡ true → place < length network.wiring.links
    → is_end network.descs network.wiring (end_at side (slice_index_or network.wiring.links place no_link)) ≡ true
unfolding are_links_joined
link_end network place side h there = by_side side
  where
    descs : List Desc
    descs = network.descs

    here : is_link_joined network.descs network.wiring (slice_index_or network.wiring.links place no_link) ≡ true
    here = all_at (is_link_joined network.descs network.wiring) network.wiring.links place no_link (and_parts (list_all (is_link_joined network.descs network.wiring) network.wiring.links) _ h).0 there

    both : (is_end network.descs network.wiring (slice_index_or network.wiring.links place no_link).a && is_end network.descs network.wiring (slice_index_or network.wiring.links place no_link).b) ≡ true
    both = (and_parts (is_end network.descs network.wiring (slice_index_or network.wiring.links place no_link).a && is_end network.descs network.wiring (slice_index_or network.wiring.links place no_link).b)
        (are_ends_apart (slice_index_or network.wiring.links place no_link).a (slice_index_or network.wiring.links place no_link).b) here).0

    by_side : (s : Side) → is_end network.descs network.wiring (end_at s (slice_index_or network.wiring.links place no_link)) ≡ true
    by_side A = (and_parts (is_end network.descs network.wiring (slice_index_or network.wiring.links place no_link).a) (is_end network.descs network.wiring (slice_index_or network.wiring.links place no_link).b) both).0
    by_side B = (and_parts (is_end network.descs network.wiring (slice_index_or network.wiring.links place no_link).a) (is_end network.descs network.wiring (slice_index_or network.wiring.links place no_link).b) both).1

same_at : (ref : PortRef) → same_ref ref ref ≡ true
same_at ref = rw (eq-eqb ref.part ref.part refl, eq-eqb ref.handle ref.handle refl) refl

channel_once : (network : Network) (ref : PortRef) (port : Port) → is_port_joined network.descs network.wiring ref port ≡ true → is_channel port ≡ true
    → (ends_in (Part ref) network.wiring.links ≡ 1) × (wire_of network.wiring ref port ≡ channel_wire (side_from 0 network.wiring.links (Part ref)))
unfolding is_port_joined ends_at
channel_once network ref (described.Channel rx tx) h k = (eqb-true (ends_in (Part ref) network.wiring.links) 1 h, refl)
channel_once network ref described.Send h k = absurd (false≢true k)
channel_once network ref (described.Receive irq) h k = absurd (false≢true k)
channel_once network ref (described.Manage part held spans) h k = absurd (false≢true k)

-- the handle that an end of a channel names leads there
pub record IsBack (network : Network) (ref : PortRef) (place : ℕ) (side : Side) : Type 0 where
  pub there : ref.handle - 1 < length (wires_at (wires_of network) ref.part)
  pub wire : wire_at (wires_at (wires_of network) ref.part) ref.handle ≡ Channel place side

pub leads_back : (network : Network) (ref : PortRef) (place : ℕ) (side : Side) → AreJoined network.descs network.wiring → place < length network.wiring.links
    → end_at side (slice_index_or network.wiring.links place no_link) ≡ Part ref → IsBack network ref place side
leads_back network ref place side joined there e =
    let joins = joined_parts network.descs network.wiring joined in
    let named = named_by network.descs ref (ref.handle == 0) refl (sym (ap (is_end network.descs network.wiring) e) ∙ link_end network place side joins.links there) in
    let some = named.some in
    let is = named.is in
    let ports : List Port = (slice_index_or network.descs ref.part no_desc).ports in
    let at : ref.handle ≡ 1 + (ref.handle - 1) = omega (arith, some) in
    let port = handle_joined network.descs network.wiring ref.part 1 ports (ref.handle - 1) ref.handle described.Send (ports_joined network.descs network.wiring ref.part joins.ports is.here) is.there at in
    let once = channel_once network ref (slice_index_or ports (ref.handle - 1) described.Send) port is.sort in
    let few : ends_in (Part ref) network.wiring.links ≤ 1 = let one = once.0 in omega (arith, one) in
    let here : is_at ref (end_at side (slice_index_or network.wiring.links place no_link)) ≡ true = ap (is_at ref) e ∙ same_at ref in
    let own = wires_there network.wiring 0 network.descs ref.part ref.part is.here (omega arith) in
    let long = ap length own ∙ wires_length network.wiring ref.part 1 ports in
    record {
      there = let below = is.there in omega (arith, long, below);
      wire = ap (λ (ws : List Wire). slice_index_or ws (ref.handle - 1) no_wire) own
          ∙ (wire_there network.wiring ref.part 1 ports (ref.handle - 1) ref.handle described.Send is.there at
          ∙ (once.1 ∙ (ap channel_wire (led network.wiring.links (Part ref) 0 place side few there here) ∙ ap (λ (n : ℕ). Channel n side) (let same : 0 + place ≡ place = omega arith in same))));
    }

-- ---- the ends of other partitions

part_of_at : (one other : PortRef) (end : LinkEnd) → is_at one end ≡ true → is_at other end ≡ true → one.part ≡ other.part
part_of_at one other (Console number) h k = absurd (false≢true h)
part_of_at one other (Part ref) h k =
    eqb-true one.part ref.part (and_parts (one.part == ref.part) (one.handle == ref.handle) h).0 ∙ sym (eqb-true other.part ref.part (and_parts (other.part == ref.part) (other.handle == ref.handle) k).0)

abbrev link_of : Wire → ℕ
link_of (Channel link side) = link
link_of _ = 0

abbrev side_of : Wire → Side
side_of (Channel link side) = side
side_of _ = A

-- a partition other than the two of a channel has no handle there
abbrev IsElsewhere : PortRef → LinkEnd → Type 0
IsElsewhere ref far = is_at ref far ≡ true → ⊥

not_true : (b : Bool) → (b ≡ true → ⊥) → b ≡ false
not_true true h = absurd (h refl)
not_true false h = refl

not_led : (network : Network) (place : ℕ) (side : Side) (other k : ℕ) (wire : Wire) → IsElsewhere (ref_to other (1 + k)) (end_at side (slice_index_or network.wiring.links place no_link))
    → IsElsewhere (ref_to other (1 + k)) (end_at (other_side side) (slice_index_or network.wiring.links place no_link)) → LeadsTo network other (1 + k) wire
    → have_channel wire (Channel place side) ≡ false
not_led network place side other k (Receive bell) near far is = refl
not_led network place side other k (Send bell) near far is = refl
not_led network place side other k (Manage managed) near far is = refl
not_led network place side other k (Channel link s) near far is =
    not_true (link == place)
    (
    λ same.
    let number : is.place ≡ place = sym (ap link_of is.is) ∙ eqb-true link place same in
    let here : is_at (ref_to other (1 + k)) (end_at is.side (slice_index_or network.wiring.links place no_link)) ≡ true =
    subst (λ (n : ℕ). is_at (ref_to other (1 + k)) (end_at is.side (slice_index_or network.wiring.links n no_link)) ≡ true) number is.at in
    by_sides side is.side near far here
    )
  where
    by_sides : (s t : Side) → IsElsewhere (ref_to other (1 + k)) (end_at s (slice_index_or network.wiring.links place no_link))
        → IsElsewhere (ref_to other (1 + k)) (end_at (other_side s) (slice_index_or network.wiring.links place no_link))
        → is_at (ref_to other (1 + k)) (end_at t (slice_index_or network.wiring.links place no_link)) ≡ true → ⊥
    by_sides A A f g h = f h
    by_sides A B f g h = g h
    by_sides B A f g h = g h
    by_sides B B f g h = f h

-- the ends of another partition, once the channel has changed
abbrev after_far : LinkEnd → ℕ → List End → End → List End
after_far (Console number) part ends end = ends
after_far (Part ref) part ends end = if ref.part == part then slice_set ends (ref.handle - 1) end else ends

untouched : (network : Network) (channels : List Waiting) (running : List Bool) (place : ℕ) (side : Side) (other : ℕ) (channel : Waiting) → AreJoined network.descs network.wiring → other < length network.descs
    → ((k : ℕ) → IsElsewhere (ref_to other (1 + k)) (end_at side (slice_index_or network.wiring.links place no_link)))
    → ((k : ℕ) → IsElsewhere (ref_to other (1 + k)) (end_at (other_side side) (slice_index_or network.wiring.links place no_link)))
    → ends_of (slice_set channels place channel) running (wires_at (wires_of network) other) ≡ ends_of channels running (wires_at (wires_of network) other)
untouched network channels running place side other channel joined here near far =
    map_same (end_of (slice_set channels place channel) running) (end_of channels running) (wires_at (wires_of network) other) no_wire
    (λ k there. elsewhere channels running place side channel (slice_index_or (wires_at (wires_of network) other) k no_wire)
    (not_led network place side other k (slice_index_or (wires_at (wires_of network) other) k no_wire) (near k) (far k) (wires_lead network other k joined here there)))

touched : (network : Network) (channels : List Waiting) (running : List Bool) (place : ℕ) (side : Side) (channel : Waiting) (ref : PortRef) (other : ℕ) → AreJoined network.descs network.wiring
    → length channels ≡ length network.wiring.links → place < length network.wiring.links → end_at side (slice_index_or network.wiring.links place no_link) ≡ Part ref → ref.part ≡ other → other < length network.descs
    → ends_of (slice_set channels place channel) running (wires_at (wires_of network) other)
    ≡ slice_set (ends_of channels running (wires_at (wires_of network) other)) (ref.handle - 1) (end_of (slice_set channels place channel) running (Channel place side))
touched network channels running place side channel ref other joined long there e same here =
    let back = leads_back network ref place side joined there e in
    let wires : List Wire = wires_at (wires_of network) other in
    let are : AreWires (length channels) (length network.descs) wires = subst (λ (n : ℕ). AreWires n (length network.descs) wires) (sym long) (part_wires network other joined here) in
    changed channels running wires (length network.descs) ref.handle place side channel are
    (subst (λ (n : ℕ). ref.handle - 1 < length (wires_at (wires_of network) n)) same back.there)
    (subst (λ (n : ℕ). wire_at (wires_at (wires_of network) n) ref.handle ≡ Channel place side) same back.wire)

pub others_after : (network : Network) (channels : List Waiting) (running : List Bool) (place : ℕ) (side : Side) (other : ℕ) (channel : Waiting) → AreJoined network.descs network.wiring
    → length channels ≡ length network.wiring.links → place < length network.wiring.links → ((k : ℕ) → IsElsewhere (ref_to other (1 + k)) (end_at side (slice_index_or network.wiring.links place no_link)))
    → other < length network.descs → (far : LinkEnd) → end_at (other_side side) (slice_index_or network.wiring.links place no_link) ≡ far
    → ends_of (slice_set channels place channel) running (wires_at (wires_of network) other)
    ≡ after_far far other (ends_of channels running (wires_at (wires_of network) other)) (end_of (slice_set channels place channel) running (Channel place (other_side side)))
others_after network channels running place side other channel joined long there near here (Console number) e =
    untouched network channels running place side other channel joined here near (λ k h. false≢true (sym (ap (is_at (ref_to other (1 + k))) e) ∙ h))
others_after network channels running place side other channel joined long there near here (Part ref) e = by_part (ref.part == other) refl
  where
    by_part : (b : Bool) → (ref.part == other) ≡ b
        → ends_of (slice_set channels place channel) running (wires_at (wires_of network) other)
        ≡ (if b then slice_set (ends_of channels running (wires_at (wires_of network) other)) (ref.handle - 1) (end_of (slice_set channels place channel) running (Channel place (other_side side)))
        else ends_of channels running (wires_at (wires_of network) other))
    by_part true f = touched network channels running place (other_side side) channel ref other joined long there e (eqb-true ref.part other f) here
    by_part false f =
        untouched network channels running place side other channel joined here near
        (λ k h. eqb-false ref.part other f (sym (eqb-true other ref.part (and_parts (other == ref.part) ((1 + k) == ref.handle) (sym (ap (is_at (ref_to other (1 + k))) e) ∙ h)).0)))

-- ---- what is sent and taken

-- the end that the handle's wire leads to, and the far one
pub record IsOwn (network : Network) (part handle : ℕ) : Type 0 where
  pub place : ℕ
  pub side : Side
  pub wire : wire_for network part handle ≡ Channel place side
  pub there : place < length network.wiring.links
  pub at : is_at (ref_to part handle) (end_at side (slice_index_or network.wiring.links place no_link)) ≡ true
  pub far : far_of network part handle ≡ Some (end_at (other_side side) (slice_index_or network.wiring.links place no_link))

own_by : (network : Network) (part handle : ℕ) (wire : Wire) → wire_for network part handle ≡ wire → kind_of wire ≡ kind.Channel → LeadsTo network part handle wire → IsOwn network part handle
own_by network part handle (Receive bell) e is led_there = absurd cc
own_by network part handle (Send bell) e is led_there = absurd cc
own_by network part handle (Manage managed) e is led_there = absurd cc
own_by network part handle (Channel link side) e is led_there =
    record {
      place = led_there.place;
      side = led_there.side;
      wire = e ∙ led_there.is;
      there = led_there.there;
      at = led_there.at;
      far = far_there network.wiring.links (Part (ref_to part handle)) led_there.place led_there.side (let one = led_there.once in omega (arith, one)) led_there.there led_there.at;
    }

pub own : (network : Network) (part handle : ℕ) → AreJoined network.descs network.wiring → part < length network.descs → kind_at (kinds_of (wires_at (wires_of network) part)) handle ≡ Some kind.Channel
    → IsOwn network part handle
own network part handle joined here e =
    let found_there = is_there (wires_at (wires_of network) part) handle kind.Channel e in
    let some = found_there.some in
    let same : 1 + (handle - 1) ≡ handle = omega (arith, some) in
    own_by network part handle (wire_for network part handle) refl found_there.is
    (subst (λ (n : ℕ). LeadsTo network part n (wire_for network part handle)) same (wires_lead network part (handle - 1) joined here found_there.there))

sent_far_end : (channels : List Waiting) (running : List Bool) (place : ℕ) (side : Side) (bytes : List ℕ) → place < length channels
    → end_of (sent_by channels (Channel place side) bytes) running (Channel place (other_side side))
    ≡ record (end_of channels running (Channel place (other_side side))) { received = (end_of channels running (Channel place (other_side side))).received ++ bytes }
sent_far_end channels running place A bytes h = rw (get_or-set_same channels place (after_send A bytes (channel_at channels place)) empty_channel h) refl
sent_far_end channels running place B bytes h = rw (get_or-set_same channels place (after_send B bytes (channel_at channels place)) empty_channel h) refl

taken_far_end : (channels : List Waiting) (running : List Bool) (place : ℕ) (side : Side) (count : ℕ) → place < length channels
    → end_of (taken_by channels (Channel place side) count) running (Channel place (other_side side))
    ≡ record (end_of channels running (Channel place (other_side side))) { outstanding = (end_of channels running (Channel place (other_side side))).outstanding - count }
taken_far_end channels running place A count h = rw (get_or-set_same channels place (after_receive A count (channel_at channels place)) empty_channel h, length-drop) refl
taken_far_end channels running place B count h = rw (get_or-set_same channels place (after_receive B count (channel_at channels place)) empty_channel h, length-drop) refl

-- what the machine of the far partition had
pub far_here : (network : Network) (channels : List Waiting) (running : List Bool) (place : ℕ) (side : Side) (ref : PortRef) (other : ℕ) → AreJoined network.descs network.wiring → place < length network.wiring.links
    → end_at side (slice_index_or network.wiring.links place no_link) ≡ Part ref → ref.part ≡ other
    → own_end_at (ends_of channels running (wires_at (wires_of network) other)) ref.handle ≡ end_of channels running (Channel place side)
far_here network channels running place side ref other joined there e same =
    let back = leads_back network ref place side joined there e in
    end_here channels running (wires_at (wires_of network) other) ref.handle (subst (λ (n : ℕ). ref.handle - 1 < length (wires_at (wires_of network) n)) same back.there)
    ∙ ap (end_of channels running) (subst (λ (n : ℕ). wire_at (wires_at (wires_of network) n) ref.handle ≡ Channel place side) same back.wire)

come_there : (network : Network) (channels : List Waiting) (running : List Bool) (place : ℕ) (side : Side) (bytes : List ℕ) (other : ℕ) → AreJoined network.descs network.wiring → place < length network.wiring.links
    → place < length channels → (far : LinkEnd) → end_at (other_side side) (slice_index_or network.wiring.links place no_link) ≡ far
    → after_far far other (ends_of channels running (wires_at (wires_of network) other)) (end_of (sent_by channels (Channel place side) bytes) running (Channel place (other_side side)))
    ≡ come_far (Some far) bytes other (ends_of channels running (wires_at (wires_of network) other))
come_there network channels running place side bytes other joined there below (Console number) e = refl
come_there network channels running place side bytes other joined there below (Part ref) e = by_part (ref.part == other) refl
  where
    by_part : (b : Bool) → (ref.part == other) ≡ b
        → (if b then slice_set (ends_of channels running (wires_at (wires_of network) other)) (ref.handle - 1) (end_of (sent_by channels (Channel place side) bytes) running (Channel place (other_side side)))
        else ends_of channels running (wires_at (wires_of network) other))
        ≡ (if b then come_on (ends_of channels running (wires_at (wires_of network) other)) ref.handle bytes else ends_of channels running (wires_at (wires_of network) other))
    by_part false f = refl
    by_part true f =
        ap (slice_set (ends_of channels running (wires_at (wires_of network) other)) (ref.handle - 1))
        (sent_far_end channels running place side bytes below
        ∙ ap (λ (end : End). let next : End = record end { received = end.received ++ bytes } in next)
        (sym (far_here network channels running place (other_side side) ref other joined there e (eqb-true ref.part other f))))

free_there : (network : Network) (channels : List Waiting) (running : List Bool) (place : ℕ) (side : Side) (count other : ℕ) → AreJoined network.descs network.wiring → place < length network.wiring.links
    → place < length channels → (far : LinkEnd) → end_at (other_side side) (slice_index_or network.wiring.links place no_link) ≡ far
    → after_far far other (ends_of channels running (wires_at (wires_of network) other)) (end_of (taken_by channels (Channel place side) count) running (Channel place (other_side side)))
    ≡ freed_far (Some far) count other (ends_of channels running (wires_at (wires_of network) other))
free_there network channels running place side count other joined there below (Console number) e = refl
free_there network channels running place side count other joined there below (Part ref) e = by_part (ref.part == other) refl
  where
    by_part : (b : Bool) → (ref.part == other) ≡ b
        → (if b then slice_set (ends_of channels running (wires_at (wires_of network) other)) (ref.handle - 1) (end_of (taken_by channels (Channel place side) count) running (Channel place (other_side side)))
        else ends_of channels running (wires_at (wires_of network) other))
        ≡ (if b then freed_on (ends_of channels running (wires_at (wires_of network) other)) ref.handle count else ends_of channels running (wires_at (wires_of network) other))
    by_part false f = refl
    by_part true f =
        ap (slice_set (ends_of channels running (wires_at (wires_of network) other)) (ref.handle - 1))
        (taken_far_end channels running place side count below
        ∙ ap (λ (end : End). let next : End = record end { outstanding = end.outstanding - count } in next)
        (sym (far_here network channels running place (other_side side) ref other joined there e (eqb-true ref.part other f))))

pub sent_bytes_come : (network : Network) (channels : List Waiting) (running : List Bool) (part handle other : ℕ) (bytes : List ℕ) → AreJoined network.descs network.wiring
    → length channels ≡ length network.wiring.links → part < length network.descs → other < length network.descs → other ≢ part
    → kind_at (kinds_of (wires_at (wires_of network) part)) handle ≡ Some kind.Channel
    → ends_of (sent_by channels (wire_for network part handle) bytes) running (wires_at (wires_of network) other)
    ≡ come_far (far_of network part handle) bytes other (ends_of channels running (wires_at (wires_of network) other))
sent_bytes_come network channels running part handle other bytes joined long here other_here ne e =
    let it = own network part handle joined here e in
    let far : LinkEnd = end_at (other_side it.side) (slice_index_or network.wiring.links it.place no_link) in
    let below : it.place < length channels = let t = it.there in omega (arith, long, t) in
    ap (λ (w : Wire). ends_of (sent_by channels w bytes) running (wires_at (wires_of network) other)) it.wire
    ∙ (others_after network channels running it.place it.side other (after_send it.side bytes (channel_at channels it.place)) joined long it.there (λ k h. ne (part_of_at (ref_to other (1 + k)) (ref_to part handle) (end_at it.side (slice_index_or network.wiring.links it.place no_link)) h it.at)) other_here far refl
    ∙ (come_there network channels running it.place it.side bytes other joined it.there below far refl
    ∙ ap (λ (f : Option LinkEnd). come_far f bytes other (ends_of channels running (wires_at (wires_of network) other))) (sym it.far)))

pub taken_bytes_are_freed : (network : Network) (channels : List Waiting) (running : List Bool) (part handle other count : ℕ) → AreJoined network.descs network.wiring
    → length channels ≡ length network.wiring.links → part < length network.descs → other < length network.descs → other ≢ part
    → kind_at (kinds_of (wires_at (wires_of network) part)) handle ≡ Some kind.Channel
    → ends_of (taken_by channels (wire_for network part handle) count) running (wires_at (wires_of network) other)
    ≡ freed_far (far_of network part handle) count other (ends_of channels running (wires_at (wires_of network) other))
taken_bytes_are_freed network channels running part handle other count joined long here other_here ne e =
    let it = own network part handle joined here e in
    let far : LinkEnd = end_at (other_side it.side) (slice_index_or network.wiring.links it.place no_link) in
    let below : it.place < length channels = let t = it.there in omega (arith, long, t) in
    ap (λ (w : Wire). ends_of (taken_by channels w count) running (wires_at (wires_of network) other)) it.wire
    ∙ (others_after network channels running it.place it.side other (after_receive it.side count (channel_at channels it.place)) joined long it.there (λ k h. ne (part_of_at (ref_to other (1 + k)) (ref_to part handle) (end_at it.side (slice_index_or network.wiring.links it.place no_link)) h it.at)) other_here far refl
    ∙ (free_there network channels running it.place it.side count other joined it.there below far refl
    ∙ ap (λ (f : Option LinkEnd). freed_far f count other (ends_of channels running (wires_at (wires_of network) other))) (sym it.far)))

-- ---- what enters from a console

at_console : (console : ℕ) (ref : PortRef) (end : LinkEnd) → is_same_end (Console console) end ≡ true → IsElsewhere ref end
at_console console ref (Part other) h k = false≢true h
at_console console ref (Console other) h k = false≢true k

pub entered_bytes_come : (network : Network) (channels : List Waiting) (running : List Bool) (console other : ℕ) (bytes : List ℕ) → AreJoined network.descs network.wiring
    → length channels ≡ length network.wiring.links → console < length network.wiring.consoles → other < length network.descs
    → ends_of (sent_by channels (channel_wire (console_side network.wiring.links console)) bytes) running (wires_at (wires_of network) other)
    ≡ come_far (far_end network.wiring.links (Console console)) bytes other (ends_of channels running (wires_at (wires_of network) other))
entered_bytes_come network channels running console other bytes joined long here other_here =
    let joins = joined_parts network.descs network.wiring joined in
    let it = console_found network.descs network.wiring console joins.links here in
    let once = console_once network.descs network.wiring console joins.links here in
    let far : LinkEnd = end_at (other_side it.side) (slice_index_or network.wiring.links it.place no_link) in
    let below : it.place < length channels = let t = it.there in omega (arith, long, t) in
    let wire : channel_wire (console_side network.wiring.links console) ≡ Channel it.place it.side =
    ap channel_wire it.is ∙ ap (λ (n : ℕ). Channel n it.side) (let same : 0 + it.place ≡ it.place = omega arith in same) in
    ap (λ (w : Wire). ends_of (sent_by channels w bytes) running (wires_at (wires_of network) other)) wire
    ∙ (others_after network channels running it.place it.side other (after_send it.side bytes (channel_at channels it.place)) joined long it.there
    (λ k. at_console console (ref_to other (1 + k)) (end_at it.side (slice_index_or network.wiring.links it.place no_link)) (it.at no_link)) other_here far refl
    ∙ (come_there network channels running it.place it.side bytes other joined it.there below far refl
    ∙ ap (λ (f : Option LinkEnd). come_far f bytes other (ends_of channels running (wires_at (wires_of network) other)))
    (sym (far_there network.wiring.links (Console console) it.place it.side (omega (arith, once)) it.there (it.at no_link)))))
