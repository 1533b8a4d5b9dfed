-- Where received bytes go, the other ends get just their room.
use Rattle.std.proofs.Common.{◌≡◌, ℕ, zero, suc, ◌+◌, ◌-◌, ◌<◌, ◌≤◌, ◌==◌, Bool, true, false, List, [], ◌∷◌, length, Option, Some, None, refl, sym, ap, ◌∙◌, if◌then◌else◌, arith}
use Rattle.std.specs.Prelude.{slice_index_or}
use Rattle.std.proofs.lemmas.Bool.{eqb-true, eqb-false}
use Rattle.machine_desc.specs.declared.wiring.PortRef.{PortRef}
use Rattle.machine_desc.specs.declared.wiring.End.{End}
use Rattle.machine_desc.specs.declared.wiring.End.TheVariants.{Part, Console}
use Rattle.partition.specs.declared.kind.Kind.TheVariants as kind
use Rattle.partition.specs.Port.{End as OwnEnd, empty_end, end_at}
use Rattle.partition.specs.Machine.{Machine}
use Rattle.network.specs.Network.{Network, ref_to, far_end, far_of}
use Rattle.network.specs.World.{Delivery, machine_at}
use Rattle.network.specs.Effects.{room_at, room_for, room_from}
use Rattle.isolation.proofs.Joins.{Joins}
use Rattle.isolation.proofs.Flow.{came_in, gone_in, AreLight, positive, Flows, recv, outs}
use Rattle.isolation.proofs.Brings.{amount, amount_same, amount_other, amount_linked, apart_console, sort_part, light_both, came_both, gone_both, cond_none, plus_zero}

-- what lay at an end, from this handle on
abbrev kept : ℕ → ℕ → List OwnEnd → PortRef → ℕ
kept part handle [] ref = 0
kept part handle (own ∷ ends) ref = amount (ref_to part handle) ref (length own.received) + kept part (handle + 1) ends ref

record Piece (network : Network) (part handle count : ℕ) (deliveries : List Delivery) : Type 0 where
  light : AreLight network deliveries
  none : (ref : PortRef) → came_in deliveries ref ≡ 0
  back : (one other : PortRef) → far_end network.wiring.links (Part one) ≡ Some (Part other) → gone_in deliveries one ≡ amount (ref_to part handle) other count
  console : (one : PortRef) (c : ℕ) → far_end network.wiring.links (Part one) ≡ Some (Console c) → gone_in deliveries one ≡ 0

amount_zero : (a b : PortRef) → amount a b 0 ≡ 0
amount_zero a b = ap (λ (n : ℕ). if a.part == b.part then n else 0) (cond_none (a.handle == b.handle)) ∙ cond_none (a.part == b.part)

some_not_none : (end : End) → Some end ≡ None → ⊥
some_not_none end h = cc

piece_at : (network : Network) → Joins network → (part handle count : ℕ) (end : Option End) → far_of network part handle ≡ end → Piece network part handle count (room_at end count)
piece_at network joins part handle count None e = record {
  light = tt;
  none = λ ref. refl;
  back = λ one other h.
      sym (amount_other (ref_to part handle) other count
      (λ q. some_not_none (Part one) (sym (joins.both_ends (Part one) (Part other) h) ∙ (ap (λ (p : PortRef). far_end network.wiring.links (Part p)) (sym q) ∙ e))));
  console = λ one c h. refl;
}
piece_at network joins part handle count (Some (Console console)) e = record {
  light = tt;
  none = λ ref. refl;
  back = λ one other h. sym (amount_other (ref_to part handle) other count (λ q. apart_console network other (ref_to part handle) one console (joins.both_ends (Part one) (Part other) h) e (sym q)));
  console = λ one c h. refl;
}
piece_at network joins part handle count (Some (Part ref)) e =
    let own : PortRef = ref_to part handle in
    let sort = joins.ends ref (Part own) (joins.both_ends (Part own) (Part ref) e) in
    record {
      light = (sort_part network ref kind.Channel sort, sort, tt);
      none = λ other. plus_zero _ ∙ cond_none (ref.part == other.part);
      back = λ one other h. plus_zero _ ∙ amount_linked network joins own ref other one count e (joins.both_ends (Part one) (Part other) h);
      console = λ one c h. plus_zero _ ∙ amount_other ref one count (apart_console network ref one own c (joins.both_ends (Part own) (Part ref) e) h);
    }

piece_for : (network : Network) → Joins network → (part handle : ℕ) (received : List ℕ) → Piece network part handle (length received) (room_for (far_of network part handle) received)
piece_for network joins part handle [] = record {
  light = tt;
  none = λ ref. refl;
  back = λ one other h. sym (amount_zero (ref_to part handle) other);
  console = λ one c h. refl;
}
piece_for network joins part handle (byte ∷ received) = piece_at network joins part handle (length (byte ∷ received)) (far_of network part handle) refl

-- all of it
pub record Back (network : Network) (part handle : ℕ) (ends : List OwnEnd) (deliveries : List Delivery) : Type 0 where
  pub light : AreLight network deliveries
  pub none : (ref : PortRef) → came_in deliveries ref ≡ 0
  pub back : (one other : PortRef) → far_end network.wiring.links (Part one) ≡ Some (Part other) → gone_in deliveries one ≡ kept part handle ends other
  pub console : (one : PortRef) (c : ℕ) → far_end network.wiring.links (Part one) ≡ Some (Console c) → gone_in deliveries one ≡ 0

pub backs : (network : Network) → Joins network → (part handle : ℕ) (ends : List OwnEnd) → Back network part handle ends (room_from network part handle ends)
backs network joins part handle [] = record { light = tt; none = λ ref. refl; back = λ one other h. refl; console = λ one c h. refl }
backs network joins part handle (own ∷ ends) =
    let first : List Delivery = room_for (far_of network part handle) own.received in
    let rest : List Delivery = room_from network part (handle + 1) ends in
    let a = piece_for network joins part handle own.received in
    let b = backs network joins part (handle + 1) ends in
    record {
      light = light_both network first rest a.light b.light;
      none = λ ref. came_both first rest ref ∙ (let x = a.none ref in let y = b.none ref in omega (arith, x, y));
      back = λ one other h. gone_both first rest one ∙ (let x = a.back one other h in let y = b.back one other h in omega (arith, x, y));
      console = λ one c h. gone_both first rest one ∙ (let x = a.console one c h in let y = b.console one c h in omega (arith, x, y));
    }

-- ---- what lay there

kept_elsewhere : (part handle : ℕ) (ends : List OwnEnd) (ref : PortRef) → (part ≡ ref.part → ⊥) → kept part handle ends ref ≡ 0
kept_elsewhere part handle [] ref ne = refl
kept_elsewhere part handle (own ∷ ends) ref ne =
    let a = amount_other (ref_to part handle) ref (length own.received) (λ q. ne (ap (λ (r : PortRef). r.part) q)) in let b = kept_elsewhere part (handle + 1) ends ref ne in omega (arith, a, b)

kept_before : (part handle : ℕ) (ends : List OwnEnd) (ref : PortRef) → ref.handle < handle → kept part handle ends ref ≡ 0
kept_before part handle [] ref h = refl
kept_before part handle (own ∷ ends) ref h =
    let a = amount_other (ref_to part handle) ref (length own.received) (λ q. let e = ap (λ (r : PortRef). r.handle) q in absurd (omega (arith, e, h))) in
    let b = kept_before part (handle + 1) ends ref (omega (arith, h)) in omega (arith, a, b)

kept_at : (part handle : ℕ) (ends : List OwnEnd) (i : ℕ) (ref : PortRef) → part ≡ ref.part → ref.handle ≡ handle + i → kept part handle ends ref ≡ length (slice_index_or ends i empty_end).received
kept_at part handle [] i ref p h = refl
kept_at part handle (own ∷ ends) zero ref p h =
    let same : handle ≡ ref.handle = omega (arith, h) in
    let q : ref_to part handle ≡ ref = ap (λ (n : ℕ). ref_to n handle) p ∙ ap (ref_to ref.part) same in
    let a = amount_same (ref_to part handle) ref (length own.received) q in let b = kept_before part (handle + 1) ends ref (omega (arith, h)) in omega (arith, a, b)
kept_at part handle (own ∷ ends) (suc i) ref p h =
    let a = amount_other (ref_to part handle) ref (length own.received) (λ q. let e = ap (λ (r : PortRef). r.handle) q in absurd (omega (arith, e, h))) in
    let b = kept_at part (handle + 1) ends i ref p (omega (arith, h)) in omega (arith, a, b)

kept_all : (part : ℕ) (ends : List OwnEnd) (ref : PortRef) → 0 < ref.handle → (b : Bool) → (part == ref.part) ≡ b → kept part 1 ends ref ≡ (if b then length (end_at ends ref.handle).received else 0)
kept_all part ends ref h true e = kept_at part 1 ends (ref.handle - 1) ref (eqb-true part ref.part e) (omega (arith, h))
kept_all part ends ref h false e = kept_elsewhere part 1 ends ref (eqb-false part ref.part e)

-- Where a partition's received bytes go, and all else at the ends stays, the room of these bytes is under way.
pub emptying : (network : Network) → Joins network → (part : ℕ) (old new : List Machine) → Flows network old [] → length new ≡ length old
    → ((other : ℕ) → length (machine_at new other).ports ≡ length (machine_at old other).ports)
    → ((ref : PortRef) → 0 < ref.handle → recv new ref ≡ (if part == ref.part then 0 else recv old ref)) → ((ref : PortRef) → 0 < ref.handle → outs new ref ≡ outs old ref)
    → Flows network new (room_from network part 1 (machine_at old part).ports)
emptying network joins part old new flows size ends r o =
    let deliveries : List Delivery = room_from network part 1 (machine_at old part).ports in
    let b = backs network joins part 1 (machine_at old part).ports in
    record {
      size = size ∙ flows.size;
      ends = λ other. ends other ∙ flows.ends other;
      channel = λ one other h.
          let hs = positive network one (joins.ends one (Part other) h) in
          let ks = positive network other (joins.ends other (Part one) (joins.both_ends (Part one) (Part other) h)) in
          sum_up (part == other.part) (outs new one) (outs old one) (recv new other) (recv old other) (came_in deliveries other) (gone_in deliveries one) _ (o one hs) (flows.channel one other h) (r other ks) (b.none other)
          (b.back one other h ∙ kept_all part (machine_at old part).ports other ks (part == other.part) refl) (λ e. ap (λ (n : ℕ). received_of old n other.handle) (eqb-true part other.part e));
      console = λ one c h.
          let hs = positive network one (joins.ends one (Console c) h) in o one hs ∙ (flows.console one c h ∙ sym (b.console one c h));
      bounded = λ one is. held (part == one.part) (recv new one) (recv old one) (came_in deliveries one) (r one (positive network one is)) (flows.bounded one is) (b.none one);
    }
  where
    received_of : List Machine → ℕ → ℕ → ℕ
    received_of machines n handle = length (end_at (machine_at machines n).ports handle).received

    held : (c : Bool) (rn ro came : ℕ) → rn ≡ (if c then 0 else ro) → ro + 0 ≤ 256 → came ≡ 0 → rn + came ≤ 256
    held true rn ro came a b c = omega (arith, a, b, c)
    held false rn ro came a b c = omega (arith, a, b, c)

    sum_up : (c : Bool) (on oo rn ro came gone own : ℕ) → on ≡ oo → oo ≡ ro + 0 + 0 → rn ≡ (if c then 0 else ro) → came ≡ 0 → gone ≡ (if c then own else 0) → (c ≡ true → own ≡ ro) → on ≡ rn + came + gone
    sum_up true on oo rn ro came gone own a b c d e f = let g = f refl in omega (arith, a, b, c, d, e, g)
    sum_up false on oo rn ro came gone own a b c d e f = omega (arith, a, b, c, d, e)
