-- What is known of descriptions and a wiring that joins them.
use Rattle.std.proofs.Common.{◌≡◌, ℕ, zero, suc, ◌+◌, ◌-◌, ◌<◌, ◌≤◌, ◌==◌, Bool, true, false, not, ◌&&◌, ◌||◌, List, [], ◌∷◌, length, Option, Some, None, refl, sym, ap, subst, ◌∙◌, if◌then◌else◌, arith}
use Rattle.std.specs.Prelude.{slice_get, slice_index_or}
use Rattle.std.specs.List.{list_all, list_any, range_with_len}
use Rattle.std.specs.Option.{option_map, option_map_or}
use Rattle.std.proofs.lemmas.Bool.{and_parts, false≢true, eqb-true, eqb-false, ltb-true}
use Rattle.std.proofs.lemmas.Option.{slice_get-map}
use Rattle.std.proofs.lemmas.List.FromFn.{get_or-range_with_len, length-range_with_len}
use Rattle.machine_desc.specs.declared.desc.Desc.{Desc}
use Rattle.machine_desc.specs.declared.desc.Span.{Span}
use Rattle.machine_desc.specs.declared.desc.Port.{Port}
use Rattle.machine_desc.specs.declared.desc.Port.TheVariants as described
use Rattle.machine_desc.specs.declared.wiring.PortRef.{PortRef}
use Rattle.machine_desc.specs.declared.wiring.End.{End}
use Rattle.machine_desc.specs.declared.wiring.End.TheVariants.{Part, Console}
use Rattle.machine_desc.specs.declared.wiring.Bell.{Bell}
use Rattle.machine_desc.specs.declared.wiring.Wiring.{Wiring}
use Rattle.machine_desc.specs.Private.{is_private_range}
use Rattle.machine_desc.specs.Joined.{same_ref, same_bool, port_at, is_channel, is_send, is_receive, is_manager, names_port, is_end as is_joined_end, is_link_joined, is_console_linked, ends_at, ends_at_console, are_links_joined, is_bell_joined, are_bells_joined, are_private_spans, is_managed_as, is_part_managed_as, is_manager_of, is_manage_joined, is_manager_right, are_managers_right, are_managers_joined, is_port_joined, are_handles_joined, are_handles_joined_from, are_ports_joined, are_joined, AreJoined}
use Rattle.copy_lists.specs.Spans.{is_in_spans}
use Rattle.copy_lists.proofs.Meaning.{spans_are_private}
use Rattle.partition.specs.declared.kind.Kind.{Kind}
use Rattle.partition.specs.declared.kind.Kind.TheVariants as kind
use Rattle.partition.specs.Port.{kind_of, kinds_of, kind_at}
use Rattle.network.specs.Network.{Network, no_desc, desc_at, ref_to, far_end, hears, manager_of}
use Rattle.isolation.proofs.Links.{same_refs, ends_in, linked_both, far_found, far_sort, none_in}

-- ---- what a handle is

-- of which kind a handle is, of whichever partition
abbrev pub sort_of : Network → PortRef → Option Kind
sort_of network ref = kind_at (kinds_of (desc_at network ref.part).ports) ref.handle

-- the handle among those of its partition
pub there_at : (descs : List Desc) (part place : ℕ) → option_map_or (λ (desc : Desc). slice_get desc.ports place) (slice_get descs part) None ≡ slice_get (slice_index_or descs part no_desc).ports place
there_at [] part place = refl
there_at (desc ∷ descs) zero place = refl
there_at (desc ∷ descs) (suc part) place = there_at descs part place

sort_by : (b : Bool) (descs : List Desc) (part place : ℕ)
    → (if b then None else slice_get (kinds_of (slice_index_or descs part no_desc).ports) place)
    ≡ option_map kind_of (if b then None else option_map_or (λ (desc : Desc). slice_get desc.ports place) (slice_get descs part) None)
sort_by true descs part place = refl
sort_by false descs part place = slice_get-map kind_of (slice_index_or descs part no_desc).ports place ∙ ap (option_map kind_of) (sym (there_at descs part place))

pub sort_is : (network : Network) (ref : PortRef) → sort_of network ref ≡ option_map kind_of (port_at network.descs ref)
sort_is network ref = sort_by (ref.handle == 0) network.descs ref.part (ref.handle - 1)

pub sort_at : (network : Network) (ref : PortRef) (port : Port) → port_at network.descs ref ≡ Some port → sort_of network ref ≡ Some (kind_of port)
sort_at network ref port e = sort_is network ref ∙ ap (option_map kind_of) e

place_by : (b : Bool) (descs : List Desc) (part place : ℕ) (port : Port) → (if b then None else option_map_or (λ (desc : Desc). slice_get desc.ports place) (slice_get descs part) None) ≡ Some port
    → slice_get (slice_index_or descs part no_desc).ports place ≡ Some port
place_by true descs part place port e = absurd (let f = e in cc)
place_by false descs part place port e = sym (there_at descs part place) ∙ e

pub place_at : (network : Network) (ref : PortRef) (port : Port) → port_at network.descs ref ≡ Some port → slice_get (desc_at network ref.part).ports (ref.handle - 1) ≡ Some port
place_at network ref port e = place_by (ref.handle == 0) network.descs ref.part (ref.handle - 1) port e

-- ---- joined descriptions

record Parts (descs : List Desc) (wiring : Wiring) : Type 0 where
  links : are_links_joined descs wiring ≡ true
  bells : are_bells_joined descs wiring ≡ true
  managers : are_managers_joined descs wiring ≡ true
  ports : are_ports_joined descs wiring ≡ true

parts_of : (descs : List Desc) (wiring : Wiring) → AreJoined descs wiring → Parts descs wiring
unfolding are_joined
parts_of descs wiring h =
    let a = and_parts _ (are_ports_joined descs wiring) h in
    let b = and_parts _ (are_managers_joined descs wiring) a.0 in
    let c = and_parts _ (are_bells_joined descs wiring) b.0 in
    let d = and_parts _ (are_links_joined descs wiring) c.0 in
    record { links = d.1; bells = c.1; managers = b.1; ports = a.1 }

-- ---- each handle

handle_joined : (descs : List Desc) (wiring : Wiring) (part first : ℕ) (ports : List Port) (k at : ℕ) (port : Port) → are_handles_joined descs wiring part first ports ≡ true → slice_get ports k ≡ Some port → at ≡ first + k
    → is_port_joined descs wiring (ref_to part at) port ≡ true
handle_joined descs wiring part first [] k at port h e place = absurd (let f = e in cc)
handle_joined descs wiring part first (own ∷ ports) zero at port h e place =
    let same : first ≡ at = omega (arith, place) in
    let q : own ≡ port = cc in
    subst (λ (n : ℕ). is_port_joined descs wiring (ref_to part n) port ≡ true) same
    (subst (λ (p : Port). is_port_joined descs wiring (ref_to part first) p ≡ true) q (and_parts (is_port_joined descs wiring (ref_to part first) own) (are_handles_joined descs wiring part (first + 1) ports) h).0)
handle_joined descs wiring part first (own ∷ ports) (suc k) at port h e place =
    handle_joined descs wiring part (first + 1) ports k at port (and_parts (is_port_joined descs wiring (ref_to part first) own) (are_handles_joined descs wiring part (first + 1) ports) h).1 e (omega (arith, place))

part_joined : (descs : List Desc) (wiring : Wiring) (first : ℕ) (rest : List Desc) (k at : ℕ) (desc : Desc) → are_handles_joined_from descs wiring first rest ≡ true → slice_get rest k ≡ Some desc → at ≡ first + k
    → are_handles_joined descs wiring at 1 desc.ports ≡ true
part_joined descs wiring first [] k at desc h e place = absurd (let f = e in cc)
part_joined descs wiring first (own ∷ rest) zero at desc h e place =
    let same : first ≡ at = omega (arith, place) in
    let q : own ≡ desc = cc in
    subst (λ (n : ℕ). are_handles_joined descs wiring n 1 desc.ports ≡ true) same
    (subst (λ (d : Desc). are_handles_joined descs wiring first 1 d.ports ≡ true) q (and_parts (are_handles_joined descs wiring first 1 own.ports) (are_handles_joined_from descs wiring (first + 1) rest) h).0)
part_joined descs wiring first (own ∷ rest) (suc k) at desc h e place =
    part_joined descs wiring (first + 1) rest k at desc (and_parts (are_handles_joined descs wiring first 1 own.ports) (are_handles_joined_from descs wiring (first + 1) rest) h).1 e (omega (arith, place))

record IsThere (descs : List Desc) (ref : PortRef) (port : Port) : Type 0 where
  some : 0 < ref.handle
  desc : Desc
  part : slice_get descs ref.part ≡ Some desc
  at : slice_get desc.ports (ref.handle - 1) ≡ Some port

there_in : (descs : List Desc) (ref : PortRef) (port : Port) → 0 < ref.handle → (o : Option Desc) → slice_get descs ref.part ≡ o → option_map_or (λ (desc : Desc). slice_get desc.ports (ref.handle - 1)) o None ≡ Some port
    → IsThere descs ref port
there_in descs ref port some None e h = absurd (let f = h in cc)
there_in descs ref port some (Some desc) e h = record { some = some; desc = desc; part = e; at = h }

there_by : (descs : List Desc) (ref : PortRef) (port : Port) (b : Bool) → (ref.handle == 0) ≡ b → (if b then None else option_map_or (λ (desc : Desc). slice_get desc.ports (ref.handle - 1)) (slice_get descs ref.part) None) ≡ Some port
    → IsThere descs ref port
there_by descs ref port true e h = absurd (let f = h in cc)
there_by descs ref port false e h =
    let apart = eqb-false ref.handle 0 e in there_in descs ref port (omega (arith, apart)) (slice_get descs ref.part) refl h

there : (descs : List Desc) (ref : PortRef) (port : Port) → port_at descs ref ≡ Some port → IsThere descs ref port
there descs ref port h = there_by descs ref port (ref.handle == 0) refl h

port_joined : (descs : List Desc) (wiring : Wiring) (ref : PortRef) (port : Port) → are_ports_joined descs wiring ≡ true → port_at descs ref ≡ Some port → is_port_joined descs wiring ref port ≡ true
unfolding are_ports_joined
port_joined descs wiring ref port h e =
    let t = there descs ref port e in
    let some = t.some in
    handle_joined descs wiring ref.part 1 t.desc.ports (ref.handle - 1) ref.handle port (part_joined descs wiring 0 descs ref.part ref.part t.desc h t.part (omega arith)) t.at (omega (arith, some))

-- ---- channels

-- a handle of some sort is there
named_by : (test : Port → Bool) (o : Option Port) → option_map_or test o false ≡ true → (port : Port) × (o ≡ Some port) × (test port ≡ true)
named_by test None h = absurd (false≢true h)
named_by test (Some port) h = (port, refl, h)

channel_kind : (port : Port) → is_channel port ≡ true → kind_of port ≡ kind.Channel
channel_kind (described.Channel rx tx) h = refl
channel_kind described.Send h = absurd (false≢true h)
channel_kind (described.Receive irq) h = absurd (false≢true h)
channel_kind (described.Manage part held private) h = absurd (false≢true h)

receive_kind : (port : Port) → is_receive port ≡ true → kind_of port ≡ kind.Receive
receive_kind (described.Channel rx tx) h = absurd (false≢true h)
receive_kind described.Send h = absurd (false≢true h)
receive_kind (described.Receive irq) h = refl
receive_kind (described.Manage part held private) h = absurd (false≢true h)

-- and by its kind
channel_port : (o : Option Port) → option_map kind_of o ≡ Some kind.Channel → (port : Port) × (o ≡ Some port) × (is_channel port ≡ true)
channel_port None h = absurd (let e = h in cc)
channel_port (Some (described.Channel rx tx)) h = (described.Channel rx tx, refl, refl)
channel_port (Some described.Send) h = absurd (let e = h in cc)
channel_port (Some (described.Receive irq)) h = absurd (let e = h in cc)
channel_port (Some (described.Manage part held private)) h = absurd (let e = h in cc)

channel_once : (descs : List Desc) (wiring : Wiring) (ref : PortRef) (port : Port) → is_channel port ≡ true → is_port_joined descs wiring ref port ≡ true → ends_in (Part ref) wiring.links ≡ 1
unfolding is_port_joined ends_at
channel_once descs wiring ref (described.Channel rx tx) c h = eqb-true (ends_in (Part ref) wiring.links) 1 h
channel_once descs wiring ref described.Send c h = absurd (false≢true c)
channel_once descs wiring ref (described.Receive irq) c h = absurd (false≢true c)
channel_once descs wiring ref (described.Manage part held private) c h = absurd (false≢true c)

all_at : {X : Type 0} (test : X → Bool) (xs : List X) (k : ℕ) (d : X) → list_all test xs ≡ true → k < length xs → test (slice_index_or xs k d) ≡ true
all_at test [] k d h here = absurd (omega (arith, here))
all_at test (x ∷ xs) zero d h here = (and_parts (test x) (list_all test xs) h).0
all_at test (x ∷ xs) (suc k) d h here = all_at test xs k d (and_parts (test x) (list_all test xs) h).1 (omega (arith, here))

console_once : (descs : List Desc) (wiring : Wiring) (console : ℕ) → are_links_joined descs wiring ≡ true → console < length wiring.consoles → ends_in (Console console) wiring.links ≡ 1
unfolding are_links_joined ends_at_console
console_once descs wiring console h here =
    let all = (and_parts (list_all (is_link_joined descs wiring) wiring.links) (list_all (is_console_linked wiring.links) (range_with_len 0 (length wiring.consoles))) h).1 in
    let count = length-range_with_len 0 (length wiring.consoles) in
    let linked = all_at (is_console_linked wiring.links) (range_with_len 0 (length wiring.consoles)) console 0 all (omega (arith, count, here)) in
    let at = get_or-range_with_len 0 (length wiring.consoles) console 0 here in
    let number : slice_index_or (range_with_len 0 (length wiring.consoles)) console 0 ≡ console = omega (arith, at) in
    eqb-true (ends_in (Console console) wiring.links) 1 (subst (λ (n : ℕ). is_console_linked wiring.links n ≡ true) number linked)

all_links : (descs : List Desc) (wiring : Wiring) → are_links_joined descs wiring ≡ true → list_all (is_link_joined descs wiring) wiring.links ≡ true
unfolding are_links_joined
all_links descs wiring h = (and_parts (list_all (is_link_joined descs wiring) wiring.links) (list_all (is_console_linked wiring.links) (range_with_len 0 (length wiring.consoles))) h).0

once_joined : (descs : List Desc) (wiring : Wiring) → Parts descs wiring → (end : End) → is_joined_end descs wiring end ≡ true → ends_in end wiring.links ≡ 1
once_joined descs wiring parts (Part ref) h =
    let p = named_by is_channel (port_at descs ref) h in channel_once descs wiring ref p.0 p.2 (port_joined descs wiring ref p.0 parts.ports p.1)
once_joined descs wiring parts (Console number) h = console_once descs wiring number parts.links (ltb-true number (length wiring.consoles) h)

ends_once : (descs : List Desc) (wiring : Wiring) → Parts descs wiring → (end : End) → ends_in end wiring.links ≤ 1
ends_once descs wiring parts end = by_test (is_joined_end descs wiring end) refl
  where
    by_test : (b : Bool) → is_joined_end descs wiring end ≡ b → ends_in end wiring.links ≤ 1
    by_test true e = let one = once_joined descs wiring parts end e in omega (arith, one)
    by_test false e = let none = none_in descs wiring wiring.links end (all_links descs wiring parts.links) e in omega (arith, none)

-- ---- managers

-- what is known of a handle that manages a partition
pub record Manages (network : Network) (ref : PortRef) (part : ℕ) (held : Bool) (spans : List Span) : Type 0 where
  pub named : manager_of network part ≡ Some ref
  pub apart : ref.part ≡ part → ⊥
  pub here : part < length network.descs
  pub begins : held ≡ (desc_at network part).held
  pub private : (at size : ℕ) → is_in_spans spans at size ≡ true → is_private_range (desc_at network part).regions at size ≡ true

named_manager : (managers : List (Option PortRef)) (part : ℕ) (ref : PortRef) → is_manager_of managers ref part ≡ true → slice_index_or managers part None ≡ Some ref
named_manager [] part ref h = absurd (false≢true h)
named_manager (None ∷ managers) zero ref h = absurd (false≢true h)
named_manager (Some other ∷ managers) zero ref h = ap Some (sym (same_refs ref other h))
named_manager (manager ∷ managers) (suc part) ref h = named_manager managers part ref h

record IsManaged (descs : List Desc) (part : ℕ) (held : Bool) (spans : List Span) : Type 0 where
  here : part < length descs
  as_is : is_managed_as held spans (slice_index_or descs part no_desc) ≡ true

managed_at : (descs : List Desc) (part : ℕ) (held : Bool) (spans : List Span) → is_part_managed_as descs part held spans ≡ true → IsManaged descs part held spans
managed_at [] part held spans h = absurd (false≢true h)
managed_at (desc ∷ descs) zero held spans h = record { here = omega arith; as_is = h }
managed_at (desc ∷ descs) (suc part) held spans h = let rest = managed_at descs part held spans h in record { here = (let below = rest.here in omega (arith, below)); as_is = rest.as_is }

same_bools : (one other : Bool) → same_bool one other ≡ true → one ≡ other
same_bools true other h = sym h
same_bools false true h = absurd (false≢true h)
same_bools false false h = refl

not_same : (a b : ℕ) → not (a == b) ≡ true → b ≡ a → ⊥
not_same a b h q = by_test (a == b) refl h
  where
    by_test : (c : Bool) → (a == b) ≡ c → not c ≡ true → ⊥
    by_test true e f = false≢true f
    by_test false e f = eqb-false a b e (sym q)

manage_parts : (network : Network) (ref : PortRef) (part : ℕ) (held : Bool) (spans : List Span) → is_port_joined network.descs network.wiring ref (described.Manage part held spans) ≡ true → Manages network ref part held spans
unfolding is_port_joined is_manage_joined
manage_parts network ref part held spans h =
    let a = and_parts (not (part == ref.part) && is_part_managed_as network.descs part held spans) (is_manager_of network.wiring.managers ref part) h in
    let b = and_parts (not (part == ref.part)) (is_part_managed_as network.descs part held spans) a.0 in
    let m = managed_at network.descs part held spans b.1 in
    let d = and_parts (same_bool held (desc_at network part).held) (are_private_spans spans (desc_at network part).regions) m.as_is in
    record {
      named = named_manager network.wiring.managers part ref a.1;
      apart = not_same part ref.part b.0;
      here = m.here;
      begins = same_bools held (desc_at network part).held d.0;
      private = λ at size within. sym (spans_are_private spans (desc_at network part).regions at size d.1) ∙ within;
    }

-- the handle that the wiring names manages
right_at : (descs : List Desc) (first place at : ℕ) (managers : List (Option PortRef)) (ref : PortRef) → are_managers_right descs first managers ≡ true → slice_index_or managers place None ≡ Some ref → at ≡ first + place
    → names_port (is_manager at) descs ref ≡ true
right_at descs first place at [] ref h e is = absurd (let f = e in cc)
right_at descs first zero at (manager ∷ managers) ref h e is =
    let same : first ≡ at = omega (arith, is) in
    subst (λ (n : ℕ). names_port (is_manager n) descs ref ≡ true) same
    (subst (λ (m : Option PortRef). is_manager_right descs first m ≡ true) e (and_parts (is_manager_right descs first manager) (are_managers_right descs (first + 1) managers) h).0)
right_at descs first (suc place) at (manager ∷ managers) ref h e is =
    right_at descs (first + 1) place at managers ref (and_parts (is_manager_right descs first manager) (are_managers_right descs (first + 1) managers) h).1 e (omega (arith, is))

manager_port : (part : ℕ) (port : Port) → is_manager part port ≡ true → (held : Bool) × (spans : List Span) × (port ≡ described.Manage part held spans)
manager_port part (described.Channel rx tx) h = absurd (false≢true h)
manager_port part described.Send h = absurd (false≢true h)
manager_port part (described.Receive irq) h = absurd (false≢true h)
manager_port part (described.Manage other held spans) h = (held, spans, ap (λ (n : ℕ). described.Manage n held spans) (eqb-true other part h))

managed_by_ref : (network : Network) → Parts network.descs network.wiring → (part : ℕ) (ref : PortRef) → manager_of network part ≡ Some ref
    → (held : Bool) × (spans : List Span) × (port_at network.descs ref ≡ Some (described.Manage part held spans))
unfolding are_managers_joined
managed_by_ref network parts part ref e =
    let right = (and_parts (length network.wiring.managers == length network.descs) (are_managers_right network.descs 0 network.wiring.managers) parts.managers).1 in
    let p = named_by (is_manager part) (port_at network.descs ref) (right_at network.descs 0 part part network.wiring.managers ref right e (omega arith)) in
    let m = manager_port part p.0 p.2 in
    (m.0, m.1, p.1 ∙ ap Some m.2)

-- ---- doorbells

among_by : (test : PortRef → Bool) (b : Bool) (ref other : PortRef) (refs : List PortRef) → same_ref ref other ≡ b → test other ≡ true → (list_any (same_ref ref) refs ≡ true → test ref ≡ true) → (b || list_any (same_ref ref) refs) ≡ true → test ref ≡ true
among_by test true ref other refs e own rest h = ap test (same_refs ref other e) ∙ own
among_by test false ref other refs e own rest h = rest h

among : (test : PortRef → Bool) (refs : List PortRef) (ref : PortRef) → list_all test refs ≡ true → list_any (same_ref ref) refs ≡ true → test ref ≡ true
among test [] ref h k = absurd (false≢true k)
among test (other ∷ refs) ref h k =
    let p = and_parts (test other) (list_all test refs) h in among_by test (same_ref ref other) ref other refs refl p.0 (among test refs ref p.1) k

abbrev bell_hears : Bell → PortRef → PortRef → Bool
bell_hears bell sender receiver = list_any (same_ref sender) bell.senders && list_any (same_ref receiver) bell.receivers

rung_one : (descs : List Desc) (b : Bool) (bell : Bell) (bells : List Bell) (sender receiver : PortRef) → bell_hears bell sender receiver ≡ b → is_bell_joined descs bell ≡ true
    → (hears bells sender receiver ≡ true → names_port is_receive descs receiver ≡ true) → (b || hears bells sender receiver) ≡ true → names_port is_receive descs receiver ≡ true
rung_one descs true bell bells sender receiver e own rest h =
    among (names_port is_receive descs) bell.receivers receiver (and_parts (list_all (names_port is_send descs) bell.senders) (list_all (names_port is_receive descs) bell.receivers) own).1
    (and_parts (list_any (same_ref sender) bell.senders) (list_any (same_ref receiver) bell.receivers) e).1
rung_one descs false bell bells sender receiver e own rest h = rest h

rung_by : (descs : List Desc) (bells : List Bell) (sender receiver : PortRef) → list_all (is_bell_joined descs) bells ≡ true → hears bells sender receiver ≡ true → names_port is_receive descs receiver ≡ true
rung_by descs [] sender receiver h k = absurd (false≢true k)
rung_by descs (bell ∷ bells) sender receiver h k =
    let p = and_parts (is_bell_joined descs bell) (list_all (is_bell_joined descs) bells) h in
    rung_one descs (bell_hears bell sender receiver) bell bells sender receiver refl p.0 (rung_by descs bells sender receiver p.1) k

heard_by : (network : Network) → Parts network.descs network.wiring → (sender receiver : PortRef) → hears network.wiring.bells sender receiver ≡ true → sort_of network receiver ≡ Some kind.Receive
unfolding are_bells_joined
heard_by network parts sender receiver h =
    let p = named_by is_receive (port_at network.descs receiver) (rung_by network.descs network.wiring.bells sender receiver parts.bells h) in
    sort_at network receiver p.0 p.1 ∙ ap Some (receive_kind p.0 p.2)

-- ---- all that is needed

pub record Joins (network : Network) : Type 0 where
  -- the other end's other end is this one
  pub both_ends : (one other : End) → far_end network.wiring.links one ≡ Some other → far_end network.wiring.links other ≡ Some one
  -- ends at partitions are channel handles, and all of them
  pub ends : (ref : PortRef) (end : End) → far_end network.wiring.links (Part ref) ≡ Some end → sort_of network ref ≡ Some kind.Channel
  pub linked : (ref : PortRef) → sort_of network ref ≡ Some kind.Channel → (end : End) × (far_end network.wiring.links (Part ref) ≡ Some end)
  -- a handle that manages a partition, and the handle that the wiring names
  pub manages : (ref : PortRef) (part : ℕ) (held : Bool) (spans : List Span) → port_at network.descs ref ≡ Some (described.Manage part held spans) → Manages network ref part held spans
  pub managed : (part : ℕ) (ref : PortRef) → manager_of network part ≡ Some ref → (held : Bool) × (spans : List Span) × (port_at network.descs ref ≡ Some (described.Manage part held spans))
  -- what hears a ring is a receive handle
  pub heard : (sender receiver : PortRef) → hears network.wiring.bells sender receiver ≡ true → sort_of network receiver ≡ Some kind.Receive

pub joins : (network : Network) → AreJoined network.descs network.wiring → Joins network
joins network joined =
    let parts = parts_of network.descs network.wiring joined in
    record {
      both_ends = linked_both network.wiring.links (ends_once network.descs network.wiring parts);
      ends = λ ref end e.
          let p = named_by is_channel (port_at network.descs ref) (far_sort network.descs network.wiring network.wiring.links (Part ref) end (all_links network.descs network.wiring parts.links) e) in
          sort_at network ref p.0 p.1 ∙ ap Some (channel_kind p.0 p.2);
      linked = λ ref e.
          let p = channel_port (port_at network.descs ref) (sym (sort_is network ref) ∙ e) in
          far_found network.wiring.links (Part ref) (let one = channel_once network.descs network.wiring ref p.0 p.2 (port_joined network.descs network.wiring ref p.0 parts.ports p.1) in omega (arith, one));
      manages = λ ref part held spans e. manage_parts network ref part held spans (port_joined network.descs network.wiring ref (described.Manage part held spans) parts.ports e);
      managed = managed_by_ref network parts;
      heard = heard_by network parts;
    }
