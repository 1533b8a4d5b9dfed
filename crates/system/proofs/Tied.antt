-- What joined descriptions' handles lead to is there, and no two handles of one partition lead to one channel.
use Rattle.std.proofs.Common.{◌≡◌, ◌≢◌, ℕ, zero, suc, ◌+◌, ◌<◌, ◌≤◌, ◌==◌, Bool, true, false, not, cond, ◌&&◌, if◌then◌else◌, List, [], ◌∷◌, length, map, replicate, slice_index_or, refl, sym, ap, subst, ◌∙◌, arith, lt-ltb}
use Rattle.std.specs.Prelude.{count_by, slice_get}
use Rattle.std.specs.List.{list_all, range_with_len}
use Rattle.std.specs.Option.{option_map_or}
use Rattle.std.proofs.lemmas.Bool.{and_parts, false≢true, eqb-true, eq-eqb, leb-true}
use Rattle.std.proofs.lemmas.List.{length-map, length-replicate}
use Rattle.std.proofs.lemmas.List.Sums.{sum_by-cons}
use Rattle.std.proofs.lemmas.List.FromFn.{get_or-map-range_with_len, get_or-range_with_len, length-map-range_with_len, length-range_with_len}
use Rattle.byte_channel.specs.declared.side.Side.{Side}
use Rattle.byte_channel.specs.declared.side.Side.TheVariants.{A, B}
use Rattle.byte_channel.specs.Waiting.{empty_channel}
use Rattle.machine_desc.specs.declared.desc.Desc.{Desc}
use Rattle.machine_desc.specs.declared.desc.Span.{Span}
use Rattle.machine_desc.specs.declared.desc.Port.{Port}
use Rattle.machine_desc.specs.declared.desc.Port.TheVariants as described
use Rattle.machine_desc.specs.declared.wiring.PortRef.{PortRef}
use Rattle.machine_desc.specs.declared.wiring.End.{End}
use Rattle.machine_desc.specs.declared.wiring.End.TheVariants.{Part, Console}
use Rattle.machine_desc.specs.declared.wiring.Link.{Link}
use Rattle.machine_desc.specs.declared.wiring.Wiring.{Wiring}
use Rattle.machine_desc.specs.Sound.{is_sound, are_counts_kept}
use Rattle.machine_desc.specs.Joined.{is_at, are_ends_apart, is_link_joined, are_links_joined, is_console_linked, ends_at, ends_at_console, is_managed_as, is_part_managed_as, is_manager_of, is_manage_joined, is_port_joined, are_handles_joined, are_handles_joined_from, are_ports_joined, are_cores_apart, are_extents_sound, are_regions_joined, are_bells_joined, are_managers_joined, are_joined, AreJoined}
use Rattle.network.specs.Network.{is_end, no_desc, ref_to}
use Rattle.system.specs.declared.wire.ChannelEnd.{ChannelEnd}
use Rattle.system.specs.declared.wire.Wire.{Wire}
use Rattle.system.specs.Board.{no_wire, no_side, console_at, wires_at, is_tied, have_channel, AreWires, AreLines}
use Rattle.system.specs.Wired.{side_from, channel_wire, console_side, wire_of, wires_from, all_wires, begins_running, opening_lines, regions_of, HaveFewHandles}

-- ---- what joined descriptions keep

pub record Joins (descs : List Desc) (wiring : Wiring) : Type 0 where
  pub few : length descs ≤ 16
  pub sound : list_all is_sound descs ≡ true
  pub extents : are_extents_sound wiring ≡ true
  pub regions : are_regions_joined descs wiring ≡ true
  pub links : are_links_joined descs wiring ≡ true
  pub managers : are_managers_joined descs wiring ≡ true
  pub ports : are_ports_joined descs wiring ≡ true

pub joined_parts : (descs : List Desc) (wiring : Wiring) → AreJoined descs wiring → Joins descs wiring
unfolding are_joined
joined_parts descs wiring h =
    let a = and_parts _ (are_ports_joined descs wiring) h in
    let b = and_parts _ (are_managers_joined descs wiring) a.0 in
    let c = and_parts _ (are_bells_joined descs wiring) b.0 in
    let d = and_parts _ (are_links_joined descs wiring) c.0 in
    let e = and_parts _ (are_regions_joined descs wiring) d.0 in
    let f = and_parts _ (are_extents_sound wiring) e.0 in
    let g = and_parts _ (are_cores_apart descs) f.0 in
    let i = and_parts _ (list_all is_sound descs) g.0 in
    record { few = leb-true (length descs) 16 i.0; sound = i.1; extents = f.1; regions = e.1; links = d.1; managers = b.1; ports = a.1 }

pub all_at : {X : Type 0} (test : X → Bool) (xs : List X) (k : ℕ) (d : X) → list_all test xs ≡ true → k < length xs → test (slice_index_or xs k d) ≡ true
all_at test [] k d h there = absurd (omega arith)
all_at test (x ∷ xs) zero d h there = (and_parts (test x) (list_all test xs) h).0
all_at test (x ∷ xs) (suc k) d h there = all_at test xs k d (and_parts (test x) (list_all test xs) h).1 (omega arith)

-- ---- ends of channels

abbrev pub no_link : Link
no_link = record { a = Console 0; b = Console 0 }

abbrev pub end_at : Side → Link → End
end_at A link = link.a
end_at B link = link.b

abbrev pub side_at : ℕ → Side → ChannelEnd
side_at number side = record { link = number; side = side }

-- the channel's side is that end
pub record IsFound (links : List Link) (end : End) (number : ℕ) (it : ChannelEnd) : Type 0 where
  pub place : ℕ
  pub side : Side
  pub there : place < length links
  pub is : it ≡ side_at (number + place) side
  pub at : (d : Link) → is_end end (end_at side (slice_index_or links place d)) ≡ true

abbrev pub ends_in : End → List Link → ℕ
ends_in end links = count_by (λ (link : Link). is_end end link.a) links + count_by (λ (link : Link). is_end end link.b) links

found_by : (link : Link) (links : List Link) (end : End) (number : ℕ) → (1 ≤ ends_in end links → IsFound links end (number + 1) (side_from (number + 1) links end))
    → 1 ≤ ends_in end (link ∷ links) → (b : Bool) → is_end end link.a ≡ b → (c : Bool) → is_end end link.b ≡ c
    → IsFound (link ∷ links) end number (if b then side_at number A else if c then side_at number B else side_from (number + 1) links end)
found_by link links end number rest some true e c f = record {
  place = 0;
  side = A;
  there = omega arith;
  is = ap (λ (n : ℕ). side_at n A) (let same : number ≡ number + 0 = omega arith in same);
  at = λ d. e;
}
found_by link links end number rest some false e true f = record {
  place = 0;
  side = B;
  there = omega arith;
  is = ap (λ (n : ℕ). side_at n B) (let same : number ≡ number + 0 = omega arith in same);
  at = λ d. f;
}
found_by link links end number rest some false e false f =
    let firsts : count_by (λ (l : Link). is_end end l.a) (link ∷ links) ≡ 0 + count_by (λ (l : Link). is_end end l.a) links =
    sum_by-cons (λ (l : Link). cond (is_end end l.a) 1 0) link links ∙ ap (λ (b : Bool). cond b 1 0 + count_by (λ (l : Link). is_end end l.a) links) e in
    let seconds : count_by (λ (l : Link). is_end end l.b) (link ∷ links) ≡ 0 + count_by (λ (l : Link). is_end end l.b) links =
    sum_by-cons (λ (l : Link). cond (is_end end l.b) 1 0) link links ∙ ap (λ (b : Bool). cond b 1 0 + count_by (λ (l : Link). is_end end l.b) links) f in
    let found = rest (omega (arith, firsts, seconds, some)) in
    record {
      place = suc found.place;
      side = found.side;
      there = let t = found.there in omega arith;
      is = found.is ∙ ap (λ (n : ℕ). side_at n found.side) (let same : (number + 1) + found.place ≡ number + suc found.place = omega arith in same);
      at = found.at;
    }

pub found : (links : List Link) (end : End) (number : ℕ) → 1 ≤ ends_in end links → IsFound links end number (side_from number links end)
found [] end number some = absurd (omega arith)
found (link ∷ links) end number some = found_by link links end number (found links end (number + 1)) some (is_end end link.a) refl (is_end end link.b) refl

-- one end is at one handle
pub at_once : (one other : PortRef) (end : End) → is_at one end ≡ true → is_at other end ≡ true → one.handle ≡ other.handle
at_once one other (Console number) h k = absurd (false≢true h)
at_once one other (Part ref) h k =
    let p = and_parts (one.part == ref.part) (one.handle == ref.handle) h in
    let q = and_parts (other.part == ref.part) (other.handle == ref.handle) k in
    eqb-true one.handle ref.handle p.1 ∙ sym (eqb-true other.handle ref.handle q.1)

-- and two ends are at two partitions
at_two : (one other : PortRef) (a b : End) → is_at one a ≡ true → is_at other b ≡ true → are_ends_apart a b ≡ true → one.part ≡ other.part → ⊥
at_two one other (Console number) b h k apart same = absurd (false≢true h)
at_two one other (Part ref) (Console number) h k apart same = absurd (false≢true k)
at_two one other (Part ref) (Part far) h k apart same =
    let p = eqb-true one.part ref.part (and_parts (one.part == ref.part) (one.handle == ref.handle) h).0 in
    let q = eqb-true other.part far.part (and_parts (other.part == far.part) (other.handle == far.handle) k).0 in
    let together : (ref.part == far.part) ≡ true = eq-eqb ref.part far.part (sym p ∙ same ∙ q) in
    false≢true (sym (ap not together) ∙ apart)

one_end : (link : Link) (one other : PortRef) (s t : Side) → are_ends_apart link.a link.b ≡ true → one.part ≡ other.part
    → is_at one (end_at s link) ≡ true → is_at other (end_at t link) ≡ true → one.handle ≡ other.handle
one_end link one other A A apart same h k = at_once one other link.a h k
one_end link one other A B apart same h k = absurd (at_two one other link.a link.b h k apart same)
one_end link one other B A apart same h k = absurd (at_two other one link.a link.b k h apart (sym same))
one_end link one other B B apart same h k = at_once one other link.b h k

pub link_apart : (descs : List Desc) (wiring : Wiring) (place : ℕ) → are_links_joined descs wiring ≡ true → place < length wiring.links
    → are_ends_apart (slice_index_or wiring.links place no_link).a (slice_index_or wiring.links place no_link).b ≡ true
unfolding are_links_joined
link_apart descs wiring place h there =
    let all = (and_parts (list_all (is_link_joined descs wiring) wiring.links) _ h).0 in
    let here = all_at (is_link_joined descs wiring) wiring.links place no_link all there in
    (and_parts _ (are_ends_apart (slice_index_or wiring.links place no_link).a (slice_index_or wiring.links place no_link).b) here).1

-- ---- handles

pub channel_there : (descs : List Desc) (wiring : Wiring) (ref : PortRef) (rx tx : ℕ) → is_port_joined descs wiring ref (described.Channel rx tx) ≡ true
    → IsFound wiring.links (Part ref) 0 (side_from 0 wiring.links (Part ref))
unfolding is_port_joined ends_at
channel_there descs wiring ref rx tx h = found wiring.links (Part ref) 0 (let one = eqb-true (ends_in (Part ref) wiring.links) 1 h in omega (arith, one))

some_there : {X : Type 0} (test : X → Bool) (xs : List X) (k : ℕ) → option_map_or test (slice_get xs k) false ≡ true → k < length xs
some_there test [] k h = absurd (false≢true h)
some_there test (x ∷ xs) zero h = omega arith
some_there test (x ∷ xs) (suc k) h = let there = some_there test xs k h in omega arith

managed_there : (descs : List Desc) (wiring : Wiring) (ref : PortRef) (part : ℕ) (held : Bool) (spans : List Span) → is_port_joined descs wiring ref (described.Manage part held spans) ≡ true → part < length descs
unfolding is_port_joined is_manage_joined
managed_there descs wiring ref part held spans h =
    let two = (and_parts (not (part == ref.part) && is_part_managed_as descs part held spans) (is_manager_of wiring.managers ref part) h).0 in
    some_there (is_managed_as held spans) descs part (and_parts (not (part == ref.part)) (is_part_managed_as descs part held spans) two).1

pub leads_there : (descs : List Desc) (wiring : Wiring) (ref : PortRef) (port : Port) → is_port_joined descs wiring ref port ≡ true
    → is_tied (length wiring.links) (length descs) (wire_of wiring ref port) ≡ true
leads_there descs wiring ref (described.Channel rx tx) h =
    let f = channel_there descs wiring ref rx tx h in
    let below = f.there in
    ap (λ (it : ChannelEnd). is_tied (length wiring.links) (length descs) (channel_wire it)) f.is ∙ lt-ltb (0 + f.place) (length wiring.links) (omega (arith, below))
leads_there descs wiring ref described.Send h = refl
leads_there descs wiring ref (described.Receive irq) h = refl
leads_there descs wiring ref (described.Manage part held spans) h = lt-ltb part (length descs) (managed_there descs wiring ref part held spans h)

not_true : (b : Bool) → (b ≡ true → ⊥) → b ≡ false
not_true true h = absurd (h refl)
not_true false h = refl

two_channels : (descs : List Desc) (wiring : Wiring) (one other : PortRef) (w x : ChannelEnd) → are_links_joined descs wiring ≡ true → one.part ≡ other.part → one.handle ≢ other.handle
    → IsFound wiring.links (Part one) 0 w → IsFound wiring.links (Part other) 0 x → (w.link == x.link) ≡ true → ⊥
two_channels descs wiring one other w x joined same apart f g meet =
    let numbers : 0 + f.place ≡ 0 + g.place = sym (ap (λ (it : ChannelEnd). it.link) f.is) ∙ (eqb-true w.link x.link meet ∙ ap (λ (it : ChannelEnd). it.link) g.is) in
    let place : g.place ≡ f.place = omega (arith, numbers) in
    let second : is_at other (end_at g.side (slice_index_or wiring.links f.place no_link)) ≡ true = subst (λ (n : ℕ). is_at other (end_at g.side (slice_index_or wiring.links n no_link)) ≡ true) place (g.at no_link) in
    apart (one_end (slice_index_or wiring.links f.place no_link) one other f.side g.side (link_apart descs wiring f.place joined f.there) same (f.at no_link) second)

handles_apart : (descs : List Desc) (wiring : Wiring) (one other : PortRef) (p q : Port) → are_links_joined descs wiring ≡ true → one.part ≡ other.part → one.handle ≢ other.handle
    → is_port_joined descs wiring one p ≡ true → is_port_joined descs wiring other q ≡ true → have_channel (wire_of wiring one p) (wire_of wiring other q) ≡ false
handles_apart descs wiring one other described.Send q joined same apart h k = refl
handles_apart descs wiring one other (described.Receive irq) q joined same apart h k = refl
handles_apart descs wiring one other (described.Manage part held spans) q joined same apart h k = refl
handles_apart descs wiring one other (described.Channel rx tx) described.Send joined same apart h k = refl
handles_apart descs wiring one other (described.Channel rx tx) (described.Receive irq) joined same apart h k = refl
handles_apart descs wiring one other (described.Channel rx tx) (described.Manage part held spans) joined same apart h k = refl
handles_apart descs wiring one other (described.Channel rx tx) (described.Channel rx' tx') joined same apart h k =
    not_true ((side_from 0 wiring.links (Part one)).link == (side_from 0 wiring.links (Part other)).link)
    (two_channels descs wiring one other (side_from 0 wiring.links (Part one)) (side_from 0 wiring.links (Part other)) joined same apart (channel_there descs wiring one rx tx h) (channel_there descs wiring other rx' tx' k))

-- ---- the handles of one partition

pub handle_joined : (descs : List Desc) (wiring : Wiring) (part first : ℕ) (ports : List Port) (k at : ℕ) (d : Port) → are_handles_joined descs wiring part first ports ≡ true → k < length ports → at ≡ first + k
    → is_port_joined descs wiring (ref_to part at) (slice_index_or ports k d) ≡ true
handle_joined descs wiring part first [] k at d h there place = absurd (omega arith)
handle_joined descs wiring part first (port ∷ ports) zero at d h there place =
    subst (λ (n : ℕ). is_port_joined descs wiring (ref_to part n) port ≡ true) (let same : first ≡ at = omega (arith, place) in same) (and_parts (is_port_joined descs wiring (ref_to part first) port) _ h).0
handle_joined descs wiring part first (port ∷ ports) (suc k) at d h there place =
    handle_joined descs wiring part (first + 1) ports k at d (and_parts (is_port_joined descs wiring (ref_to part first) port) _ h).1 (omega arith) (omega (arith, place))

pub wires_length : (wiring : Wiring) (part first : ℕ) (ports : List Port) → length (wires_from wiring part first ports) ≡ length ports
wires_length wiring part first [] = refl
wires_length wiring part first (port ∷ ports) = let rest = wires_length wiring part (first + 1) ports in omega (arith, rest)

pub wire_there : (wiring : Wiring) (part first : ℕ) (ports : List Port) (k at : ℕ) (d : Port) → k < length ports → at ≡ first + k
    → slice_index_or (wires_from wiring part first ports) k no_wire ≡ wire_of wiring (ref_to part at) (slice_index_or ports k d)
wire_there wiring part first [] k at d there place = absurd (omega arith)
wire_there wiring part first (port ∷ ports) zero at d there place = ap (λ (n : ℕ). wire_of wiring (ref_to part n) port) (let same : first ≡ at = omega (arith, place) in same)
wire_there wiring part first (port ∷ ports) (suc k) at d there place = wire_there wiring part (first + 1) ports k at d (omega arith) (omega (arith, place))

pub are_wires : (descs : List Desc) (wiring : Wiring) (part : ℕ) (ports : List Port) → are_links_joined descs wiring ≡ true → are_handles_joined descs wiring part 1 ports ≡ true
    → AreWires (length wiring.links) (length descs) (wires_from wiring part 1 ports)
are_wires descs wiring part ports links handles =
    let d : Port = described.Send in
    let long = wires_length wiring part 1 ports in
    record {
      tied = λ k here.
          let there : k < length ports = omega (arith, long, here) in
          ap (is_tied (length wiring.links) (length descs)) (wire_there wiring part 1 ports k (1 + k) d there refl)
          ∙ leads_there descs wiring (ref_to part (1 + k)) (slice_index_or ports k d) (handle_joined descs wiring part 1 ports k (1 + k) d handles there refl);
      apart = λ k l here here_too ne.
          let there : k < length ports = omega (arith, long, here) in
          let there_too : l < length ports = omega (arith, long, here_too) in
          ap (λ (w : Wire). have_channel w (slice_index_or (wires_from wiring part 1 ports) l no_wire)) (wire_there wiring part 1 ports k (1 + k) d there refl)
          ∙ (ap (have_channel (wire_of wiring (ref_to part (1 + k)) (slice_index_or ports k d))) (wire_there wiring part 1 ports l (1 + l) d there_too refl)
          ∙ handles_apart descs wiring (ref_to part (1 + k)) (ref_to part (1 + l)) (slice_index_or ports k d) (slice_index_or ports l d) links refl (λ (e : 1 + k ≡ 1 + l). ne (omega (arith, e)))
          (handle_joined descs wiring part 1 ports k (1 + k) d handles there refl) (handle_joined descs wiring part 1 ports l (1 + l) d handles there_too refl));
    }

-- ---- consoles

pub console_once : (descs : List Desc) (wiring : Wiring) (console : ℕ) → are_links_joined descs wiring ≡ true → console < length wiring.consoles → ends_in (Console console) wiring.links ≡ 1
unfolding are_links_joined ends_at_console
console_once descs wiring console h here =
    let all = (and_parts (list_all (is_link_joined descs wiring) wiring.links) (list_all (is_console_linked wiring.links) (range_with_len 0 (length wiring.consoles))) h).1 in
    let count = length-range_with_len 0 (length wiring.consoles) in
    let linked = all_at (is_console_linked wiring.links) (range_with_len 0 (length wiring.consoles)) console 0 all (omega (arith, count, here)) in
    let at = get_or-range_with_len 0 (length wiring.consoles) console 0 here in
    let number : slice_index_or (range_with_len 0 (length wiring.consoles)) console 0 ≡ console = omega (arith, at) in
    eqb-true (ends_in (Console console) wiring.links) 1 (subst (λ (n : ℕ). is_console_linked wiring.links n ≡ true) number linked)

pub console_found : (descs : List Desc) (wiring : Wiring) (console : ℕ) → are_links_joined descs wiring ≡ true → console < length wiring.consoles
    → IsFound wiring.links (Console console) 0 (console_side wiring.links console)
console_found descs wiring console h here = found wiring.links (Console console) 0 (let one = console_once descs wiring console h here in omega (arith, one))

-- ---- all partitions

part_joined : (descs : List Desc) (wiring : Wiring) (first : ℕ) (rest : List Desc) (part at : ℕ) → are_handles_joined_from descs wiring first rest ≡ true → part < length rest → at ≡ first + part
    → are_handles_joined descs wiring at 1 (slice_index_or rest part no_desc).ports ≡ true
part_joined descs wiring first [] part at h there place = absurd (omega arith)
part_joined descs wiring first (desc ∷ rest) zero at h there place =
    subst (λ (n : ℕ). are_handles_joined descs wiring n 1 desc.ports ≡ true) (let same : first ≡ at = omega (arith, place) in same) (and_parts (are_handles_joined descs wiring first 1 desc.ports) _ h).0
part_joined descs wiring first (desc ∷ rest) (suc part) at h there place =
    part_joined descs wiring (first + 1) rest part at (and_parts (are_handles_joined descs wiring first 1 desc.ports) _ h).1 (omega arith) (omega (arith, place))

pub all_length : (wiring : Wiring) (first : ℕ) (descs : List Desc) → length (all_wires wiring first descs) ≡ length descs
all_length wiring first [] = refl
all_length wiring first (desc ∷ descs) = let rest = all_length wiring (first + 1) descs in omega (arith, rest)

pub wires_there : (wiring : Wiring) (first : ℕ) (descs : List Desc) (part at : ℕ) → part < length descs → at ≡ first + part
    → wires_at (all_wires wiring first descs) part ≡ wires_from wiring at 1 (slice_index_or descs part no_desc).ports
wires_there wiring first [] part at there place = absurd (omega arith)
wires_there wiring first (desc ∷ descs) zero at there place = ap (λ (n : ℕ). wires_from wiring n 1 desc.ports) (let same : first ≡ at = omega (arith, place) in same)
wires_there wiring first (desc ∷ descs) (suc part) at there place = wires_there wiring (first + 1) descs part at (omega arith) (omega (arith, place))

pub ports_joined : (descs : List Desc) (wiring : Wiring) (part : ℕ) → are_ports_joined descs wiring ≡ true → part < length descs
    → are_handles_joined descs wiring part 1 (slice_index_or descs part no_desc).ports ≡ true
unfolding are_ports_joined
ports_joined descs wiring part h there = part_joined descs wiring 0 descs part part h there (omega arith)

pub opening_kept : (descs : List Desc) (wiring : Wiring) → AreJoined descs wiring → AreLines (opening_lines descs wiring)
unfolding opening_lines
opening_kept descs wiring joined =
    let parts = joined_parts descs wiring joined in
    let long = all_length wiring 0 descs in
    let same : length (replicate (length wiring.links) empty_channel) ≡ length wiring.links = length-replicate _ _ in
    record {
      running = length-map descs begins_running ∙ sym long;
      maps = length-map descs regions_of ∙ sym long;
      each = λ part here.
          let there : part < length descs = omega (arith, long, here) in
          let wires = are_wires descs wiring part (slice_index_or descs part no_desc).ports parts.links (ports_joined descs wiring part parts.ports there) in
          subst (λ (n : ℕ). AreWires n (length (all_wires wiring 0 descs)) (wires_at (all_wires wiring 0 descs) part)) (sym same)
          (subst (λ (n : ℕ). AreWires (length wiring.links) n (wires_at (all_wires wiring 0 descs) part)) (sym long)
          (subst (λ (ws : List Wire). AreWires (length wiring.links) (length descs) ws) (sym (wires_there wiring 0 descs part part there (omega arith))) wires));
      consoles = λ console here.
          let count = length-map-range_with_len (console_side wiring.links) 0 (length wiring.consoles) in
          let within : console < length wiring.consoles = omega (arith, count, here) in
          let f = console_found descs wiring console parts.links within in
          let at = get_or-map-range_with_len (console_side wiring.links) 0 (length wiring.consoles) console console no_side within (omega arith) in
          let number : (console_at (map (console_side wiring.links) (range_with_len 0 (length wiring.consoles))) console).link ≡ 0 + f.place = ap (λ (it : ChannelEnd). it.link) (at ∙ f.is) in
          let below = f.there in
          omega (arith, number, below, same);
    }

pub few_of : (desc : Desc) → is_sound desc ≡ true → length desc.ports ≤ 64
unfolding is_sound are_counts_kept
few_of desc h = grind arith

pub few_handles : (descs : List Desc) (wiring : Wiring) → AreJoined descs wiring → HaveFewHandles descs
few_handles descs wiring joined = record { few = λ part there. few_of (slice_index_or descs part no_desc) (all_at is_sound descs part no_desc (joined_parts descs wiring joined).sound there) }
