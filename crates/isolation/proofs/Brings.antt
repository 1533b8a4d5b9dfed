-- What a step's act brings others is what it sent, and the room of what it took.
use Rattle.std.proofs.Common.{◌≡◌, ℕ, zero, suc, ◌+◌, ◌-◌, ◌<◌, ◌==◌, Bool, true, false, nat_lt, ◌&&◌, subst, List, [], ◌∷◌, ◌++◌, ◌⊎◌, map, length, Option, Some, None, refl, sym, ap, ◌∙◌, inl, inr, if◌then◌else◌, arith}
use Rattle.std.specs.Prelude.{filter, slice_get, slice_index_or}
use Rattle.std.specs.List.{list_all}
use Rattle.std.proofs.lemmas.Bool.{eq-eqb, ne_eqb, and_parts, cases_eq}
use Rattle.machine_desc.specs.declared.desc.Desc.{Desc}
use Rattle.machine_desc.specs.declared.desc.Span.{Span}
use Rattle.machine_desc.specs.declared.wiring.PortRef.{PortRef}
use Rattle.machine_desc.specs.declared.wiring.End.{End}
use Rattle.machine_desc.specs.declared.wiring.End.TheVariants.{Part, Console}
use Rattle.machine_desc.specs.Private.{is_private_range}
use Rattle.copy_lists.specs.Spans.{is_in_spans}
use Rattle.copy_lists.specs.Pieces.{Piece}
use Rattle.partition.specs.declared.kind.Kind.{Kind}
use Rattle.partition.specs.declared.kind.Kind.TheVariants as kind
use Rattle.partition.specs.Port.{kinds_of, kind_at}
use Rattle.partition.specs.Act.{Act, Sent, Took, Rang}
use Rattle.partition.specs.Acting.{LieIn}
use Rattle.partition.specs.Event.{Event, Bytes, Room}
use Rattle.network.specs.Network.{Network, no_desc, desc_at, ref_to, far_end, far_of, hears, handles_from, receivers_of, manager_of}
use Rattle.network.specs.World.{Delivery}
use Rattle.network.specs.Effects.{sent_to, room_at, ring_at, copied_into, tell_manager}
use Rattle.isolation.proofs.Joins.{Joins, sort_of, sort_at}
use Rattle.isolation.proofs.Ports.{came_by, gone_by, sent_by, took_by}
use Rattle.isolation.proofs.Flow.{came_in, gone_in, AreLight}

-- ---- references

pub ref_cases : (a b : PortRef) → (a ≡ b) ⊎ (a ≡ b → ⊥)
ref_cases a b = by_parts (cases_eq a.part b.part) (cases_eq a.handle b.handle)
  where
    by_parts : (a.part ≡ b.part) ⊎ (a.part ≡ b.part → ⊥) → (a.handle ≡ b.handle) ⊎ (a.handle ≡ b.handle → ⊥) → (a ≡ b) ⊎ (a ≡ b → ⊥)
    by_parts (inl p) (inl h) = inl (ap (λ (n : ℕ). ref_to n a.handle) p ∙ ap (λ (n : ℕ). ref_to b.part n) h)
    by_parts (inr p) h = inr (λ q. p (ap (λ (r : PortRef). r.part) q))
    by_parts (inl p) (inr h) = inr (λ q. h (ap (λ (r : PortRef). r.handle) q))

-- so many at one reference, and none elsewhere
abbrev pub amount : PortRef → PortRef → ℕ → ℕ
amount a b n = if a.part == b.part then (if a.handle == b.handle then n else 0) else 0

pub amount_same : (a b : PortRef) (n : ℕ) → a ≡ b → amount a b n ≡ n
amount_same a b n h = subst (λ (c : PortRef). amount a c n ≡ n) h (rw (eq-eqb a.part a.part refl, eq-eqb a.handle a.handle refl) refl)

pub cond_none : (b : Bool) → ◌≡◌ {A = ℕ} (if b then 0 else 0) 0
cond_none true = refl
cond_none false = refl

amount_by : (a b : PortRef) (n : ℕ) → (a.handle ≡ b.handle) ⊎ (a.handle ≡ b.handle → ⊥) → (a.part ≡ b.part) ⊎ (a.part ≡ b.part → ⊥) → (a ≡ b → ⊥) → amount a b n ≡ 0
amount_by a b n (inl h) (inl p) ne = absurd (ne (ap (λ (k : ℕ). ref_to k a.handle) p ∙ ap (λ (k : ℕ). ref_to b.part k) h))
amount_by a b n (inr h) p ne = ap (λ (c : Bool). if a.part == b.part then (if c then n else 0) else 0) (ne_eqb a.handle b.handle h) ∙ cond_none (a.part == b.part)
amount_by a b n (inl h) (inr p) ne = ap (λ (c : Bool). if c then (if a.handle == b.handle then n else 0) else 0) (ne_eqb a.part b.part p)

pub amount_other : (a b : PortRef) (n : ℕ) → (a ≡ b → ⊥) → amount a b n ≡ 0
amount_other a b n ne = amount_by a b n (cases_eq a.handle b.handle) (cases_eq a.part b.part) ne

same_part : (a b : PortRef) → Some (Part a) ≡ Some (Part b) → a ≡ b
same_part a b h = cc

-- Links are one to one: what is meant for the other end of one is of that one.
pub amount_linked : (network : Network) → Joins network → (a r one other : PortRef) (n : ℕ) → far_end network.wiring.links (Part a) ≡ Some (Part r) → far_end network.wiring.links (Part one) ≡ Some (Part other)
    → amount r other n ≡ amount a one n
amount_linked network joins a r one other n h k = by_case (ref_cases a one)
  where
    by_case : (a ≡ one) ⊎ (a ≡ one → ⊥) → amount r other n ≡ amount a one n
    by_case (inl q) = amount_same r other n (same_part r other (sym h ∙ (ap (λ (p : PortRef). far_end network.wiring.links (Part p)) q ∙ k))) ∙ sym (amount_same a one n q)
    by_case (inr ne) =
        amount_other r other n
        (λ q. ne (same_part a one (sym (joins.both_ends (Part a) (Part r) h) ∙ (ap (λ (p : PortRef). far_end network.wiring.links (Part p)) q ∙ joins.both_ends (Part one) (Part other) k))))
        ∙ sym (amount_other a one n ne)

pub apart_console : (network : Network) (a b : PortRef) (r : PortRef) (c : ℕ) → far_end network.wiring.links (Part a) ≡ Some (Part r) → far_end network.wiring.links (Part b) ≡ Some (Console c) → a ≡ b → ⊥
apart_console network a b r c h k q = let e : Some (Part r) ≡ Some (Console c) = sym h ∙ (ap (λ (p : PortRef). far_end network.wiring.links (Part p)) q ∙ k) in cc

-- ---- handles that there are are of partitions that there are

no_kind : (b : Bool) (place : ℕ) (k : Kind) → (if b then None else slice_get (kinds_of []) place) ≡ Some k → ⊥
no_kind true place k h = let e = h in cc
no_kind false place k h = let e = h in cc

in_range : (descs : List Desc) (part handle : ℕ) (k : Kind) → kind_at (kinds_of (slice_index_or descs part no_desc).ports) handle ≡ Some k → part < length descs
in_range [] part handle k h = absurd (no_kind (handle == 0) (handle - 1) k h)
in_range (desc ∷ descs) zero handle k h = omega arith
in_range (desc ∷ descs) (suc part) handle k h = let below = in_range descs part handle k h in omega (arith, below)

pub sort_part : (network : Network) (ref : PortRef) (k : Kind) → sort_of network ref ≡ Some k → ref.part < length network.descs
sort_part network ref k h = in_range network.descs ref.part ref.handle k h

-- ---- an act

abbrev pub sent_at : ℕ → Act → PortRef → ℕ
sent_at part act ref = if part == ref.part then sent_by act ref.handle else 0

abbrev pub took_at : ℕ → Act → PortRef → ℕ
took_at part act ref = if part == ref.part then took_by act ref.handle else 0

pub record Brings (network : Network) (part : ℕ) (act : Act) (deliveries : List Delivery) : Type 0 where
  pub light : AreLight network deliveries
  pub sends : (one other : PortRef) → far_end network.wiring.links (Part one) ≡ Some (Part other) → came_in deliveries other ≡ sent_at part act one
  pub takes : (one other : PortRef) → far_end network.wiring.links (Part one) ≡ Some (Part other) → gone_in deliveries one ≡ took_at part act other
  pub console_out : (one : PortRef) (c : ℕ) → far_end network.wiring.links (Part one) ≡ Some (Console c) → gone_in deliveries one ≡ sent_at part act one
  pub console_in : (one : PortRef) (c : ℕ) → far_end network.wiring.links (Part one) ≡ Some (Console c) → came_in deliveries one ≡ 0

-- events that move nothing
abbrev pub IsStill : Event → Type 0
IsStill (Bytes handle bytes) = ⊥
IsStill (Room handle count) = ⊥
IsStill _ = Unit {0}

abbrev pub AreStill : List Delivery → Type 0
AreStill [] = Unit {0}
AreStill (delivery ∷ deliveries) = IsStill delivery.event × AreStill deliveries

still_came : (event : Event) (b : Bool) (handle : ℕ) → IsStill event → (if b then came_by event handle else 0) ≡ 0
still_came (Bytes other bytes) b handle h = absurd h
still_came (Room other count) b handle h = absurd h
still_came _ b handle h = cond_none b

still_gone : (event : Event) (b : Bool) (handle : ℕ) → IsStill event → (if b then gone_by event handle else 0) ≡ 0
still_gone (Bytes other bytes) b handle h = absurd h
still_gone (Room other count) b handle h = absurd h
still_gone _ b handle h = cond_none b

none_came : (deliveries : List Delivery) (ref : PortRef) → AreStill deliveries → came_in deliveries ref ≡ 0
none_came [] ref h = refl
none_came (delivery ∷ deliveries) ref h =
    let a = still_came delivery.event (delivery.part == ref.part) ref.handle h.0 in let b = none_came deliveries ref h.1 in omega (arith, a, b)

none_gone : (deliveries : List Delivery) (ref : PortRef) → AreStill deliveries → gone_in deliveries ref ≡ 0
none_gone [] ref h = refl
none_gone (delivery ∷ deliveries) ref h =
    let a = still_gone delivery.event (delivery.part == ref.part) ref.handle h.0 in let b = none_gone deliveries ref h.1 in omega (arith, a, b)

-- an act that neither sends nor takes
pub brings_still : (network : Network) (part : ℕ) (act : Act) (deliveries : List Delivery) → ((handle : ℕ) → sent_by act handle ≡ 0) → ((handle : ℕ) → took_by act handle ≡ 0)
    → AreLight network deliveries → AreStill deliveries → Brings network part act deliveries
brings_still network part act deliveries s t light still = record {
  light = light;
  sends = λ one other linked. none_came deliveries other still ∙ sym (zero_if (part == one.part) (sent_by act one.handle) (s one.handle));
  takes = λ one other linked. none_gone deliveries one still ∙ sym (zero_if (part == other.part) (took_by act other.handle) (t other.handle));
  console_out = λ one c linked. none_gone deliveries one still ∙ sym (zero_if (part == one.part) (sent_by act one.handle) (s one.handle));
  console_in = λ one c linked. none_came deliveries one still;
}
  where
    zero_if : (b : Bool) (n : ℕ) → n ≡ 0 → (if b then n else 0) ≡ 0
    zero_if true n h = h
    zero_if false n h = refl

pub plus_zero : (n : ℕ) → n + 0 ≡ n
plus_zero n = omega arith

-- ---- channels

pub brings_sent : (network : Network) → Joins network → (part handle : ℕ) (bytes : List ℕ) → sort_of network (ref_to part handle) ≡ Some kind.Channel → (end : End) → far_of network part handle ≡ Some end
    → Brings network part (Sent handle bytes) (sent_to (Some end) part handle bytes)
brings_sent network joins part handle bytes is (Part ref) linked =
    let own : PortRef = ref_to part handle in
    let sort = joins.ends ref (Part own) (joins.both_ends (Part own) (Part ref) linked) in
    record {
      light = (sort_part network ref kind.Channel sort, sort, tt);
      sends = λ one other h. plus_zero _ ∙ amount_linked network joins own ref one other (length bytes) linked h;
      takes = λ one other h. plus_zero _ ∙ (cond_none (ref.part == one.part) ∙ sym (cond_none (part == other.part)));
      console_out = λ one c h. plus_zero _ ∙ (cond_none (ref.part == one.part) ∙ sym (amount_other own one (length bytes) (apart_console network own one ref c linked h)));
      console_in = λ one c h. plus_zero _ ∙ amount_other ref one (length bytes) (apart_console network ref one own c (joins.both_ends (Part own) (Part ref) linked) h);
    }
brings_sent network joins part handle bytes is (Console console) linked =
    let own : PortRef = ref_to part handle in
    record {
      light = (sort_part network own kind.Channel is, is, tt);
      sends = λ one other h. plus_zero _ ∙ (cond_none (part == other.part) ∙ sym (amount_other own one (length bytes) (λ q. apart_console network one own other console h linked (sym q))));
      takes = λ one other h. plus_zero _ ∙ (amount_other own one (length bytes) (λ q. apart_console network one own other console h linked (sym q)) ∙ sym (cond_none (part == other.part)));
      console_out = λ one c h. plus_zero _;
      console_in = λ one c h. plus_zero _ ∙ cond_none (part == one.part);
    }

pub brings_took : (network : Network) → Joins network → (part handle count : ℕ) → sort_of network (ref_to part handle) ≡ Some kind.Channel → (end : End) → far_of network part handle ≡ Some end
    → Brings network part (Took handle count) (room_at (Some end) count)
brings_took network joins part handle count is (Part ref) linked =
    let own : PortRef = ref_to part handle in
    let sort = joins.ends ref (Part own) (joins.both_ends (Part own) (Part ref) linked) in
    record {
      light = (sort_part network ref kind.Channel sort, sort, tt);
      sends = λ one other h. plus_zero _ ∙ (cond_none (ref.part == other.part) ∙ sym (cond_none (part == one.part)));
      takes = λ one other h. plus_zero _ ∙ amount_linked network joins own ref other one count linked (joins.both_ends (Part one) (Part other) h);
      console_out = λ one c h. plus_zero _ ∙ (amount_other ref one count (apart_console network ref one own c (joins.both_ends (Part own) (Part ref) linked) h) ∙ sym (cond_none (part == one.part)));
      console_in = λ one c h. plus_zero _ ∙ cond_none (ref.part == one.part);
    }
brings_took network joins part handle count is (Console console) linked =
    let own : PortRef = ref_to part handle in
    record {
      light = tt;
      sends = λ one other h. sym (cond_none (part == one.part));
      takes = λ one other h. sym (amount_other own other count (λ q. apart_console network other own one console (joins.both_ends (Part one) (Part other) h) linked (sym q)));
      console_out = λ one c h. sym (cond_none (part == one.part));
      console_in = λ one c h. refl;
    }

-- ---- doorbells, copies, managers

pub light_both : (network : Network) (a b : List Delivery) → AreLight network a → AreLight network b → AreLight network (a ++ b)
light_both network [] b h k = k
light_both network (delivery ∷ a) b h k = (h.0, h.1, light_both network a b h.2 k)

-- of what passes a test some facts hold
light_if : (network : Network) (test : PortRef → Bool) (b : Bool) (ref : PortRef) (refs : List PortRef) → test ref ≡ b → ((one : PortRef) → test one ≡ true → sort_of network one ≡ Some kind.Receive)
    → AreLight network (map ring_at refs) → AreLight network (map ring_at (if b then ref ∷ refs else refs))
light_if network test true ref refs e heard h = (sort_part network ref kind.Receive (heard ref e), heard ref e, h)
light_if network test false ref refs e heard h = h

ring_light : (network : Network) (test : PortRef → Bool) (refs : List PortRef) → ((one : PortRef) → test one ≡ true → sort_of network one ≡ Some kind.Receive) → AreLight network (map ring_at (filter test refs))
ring_light network test [] heard = tt
ring_light network test (ref ∷ refs) heard = light_if network test (test ref) ref (filter test refs) refl heard (ring_light network test refs heard)

ring_still : (refs : List PortRef) → AreStill (map ring_at refs)
ring_still [] = tt
ring_still (ref ∷ refs) = (tt, ring_still refs)

pub brings_ring : (network : Network) → Joins network → (part handle : ℕ) → Brings network part (Rang handle) (map ring_at (receivers_of network part handle))
brings_ring network joins part handle =
    brings_still network part (Rang handle) (map ring_at (receivers_of network part handle)) (λ k. refl) (λ k. refl)
    (ring_light network (hears network.wiring.bells (ref_to part handle)) (handles_from 0 network.descs) (joins.heard (ref_to part handle)))
    (ring_still (receivers_of network part handle))

pub copies_light : (network : Network) (other : ℕ) (spans : List Span) (pieces : List Piece) → other < length network.descs
    → ((at size : ℕ) → is_in_spans spans at size ≡ true → is_private_range (desc_at network other).regions at size ≡ true) → LieIn spans pieces → AreLight network (map (copied_into other) pieces)
copies_light network other spans [] here private h = tt
copies_light network other spans (piece ∷ pieces) here private h =
    let test : Piece → Bool = λ (one : Piece). nat_lt 0 (length one.bytes) && is_in_spans spans one.at (length one.bytes) in
    let p = and_parts (test piece) (list_all test pieces) h in
    let q = and_parts (nat_lt 0 (length piece.bytes)) (is_in_spans spans piece.at (length piece.bytes)) p.0 in
    (here, private piece.at (length piece.bytes) q.1, copies_light network other spans pieces here private p.1)

pub copies_still : (other : ℕ) (pieces : List Piece) → AreStill (map (copied_into other) pieces)
copies_still other [] = tt
copies_still other (piece ∷ pieces) = (tt, copies_still other pieces)

manager_light : (network : Network) → Joins network → (part : ℕ) (manager : Option PortRef) → manager_of network part ≡ manager → AreLight network (tell_manager manager)
manager_light network joins part None e = tt
manager_light network joins part (Some ref) e =
    let m = joins.managed part ref e in
    let is : sort_of network ref ≡ Some kind.Manage = sort_at network ref _ m.2 in
    (sort_part network ref kind.Manage is, is, tt)

manager_still : (manager : Option PortRef) → AreStill (tell_manager manager)
manager_still None = tt
manager_still (Some ref) = (tt, tt)

pub brings_told : (network : Network) → Joins network → (part : ℕ) (act : Act) → ((handle : ℕ) → sent_by act handle ≡ 0) → ((handle : ℕ) → took_by act handle ≡ 0)
    → Brings network part act (tell_manager (manager_of network part))
brings_told network joins part act s t = brings_still network part act _ s t (manager_light network joins part (manager_of network part) refl) (manager_still (manager_of network part))

-- ---- two lists of events

pub came_both : (a b : List Delivery) (ref : PortRef) → came_in (a ++ b) ref ≡ came_in a ref + came_in b ref
came_both [] b ref = omega arith
came_both (delivery ∷ a) b ref = let h = came_both a b ref in omega (arith, h)

pub gone_both : (a b : List Delivery) (ref : PortRef) → gone_in (a ++ b) ref ≡ gone_in a ref + gone_in b ref
gone_both [] b ref = omega arith
gone_both (delivery ∷ a) b ref = let h = gone_both a b ref in omega (arith, h)
