-- What each act brings may be given, and leaves the ends in agreement.
use Rattle.std.proofs.Common.{◌≡◌, ℕ, ◌-◌, ◌<◌, ◌==◌, Bool, true, false, subst, not, List, [], ◌∷◌, map, length, Option, Some, None, refl, sym, ap, ◌∙◌, if◌then◌else◌, arith}
use Rattle.std.specs.Prelude.{slice_get, slice_index_or}
use Rattle.std.specs.Option.{option_map, option_map_or, option_and_then}
use Rattle.std.proofs.lemmas.Bool.{eqb-true, eqb-false}
use Rattle.machine_desc.specs.declared.act.State.{State}
use Rattle.machine_desc.specs.declared.act.State.TheVariants.{Running, Stopped}
use Rattle.machine_desc.specs.declared.desc.Desc.{Desc}
use Rattle.machine_desc.specs.declared.desc.Port.{Port}
use Rattle.machine_desc.specs.declared.desc.Port.TheVariants as described
use Rattle.machine_desc.specs.declared.desc.Span.{Span}
use Rattle.machine_desc.specs.declared.wiring.PortRef.{PortRef}
use Rattle.machine_desc.specs.declared.wiring.End.{End}
use Rattle.machine_desc.specs.declared.wiring.End.TheVariants.{Part, Console}
use Rattle.machine_desc.specs.Joined.{port_at}
use Rattle.copy_lists.specs.Lists.{spans_of_port, managed_spans}
use Rattle.copy_lists.specs.Pieces.{Piece}
use Rattle.partition.specs.declared.kind.Kind.TheVariants as kind
use Rattle.partition.specs.Port.{End as OwnEnd, kind_of, end_at}
use Rattle.partition.specs.Act.{Act, Nothing, Sent, Took, Rang, Start as Starts, Stop as Stops, Restart as Restarts, CopyTo, CopyFrom, SelfStop, SelfRestart, Faulted, state_after}
use Rattle.partition.specs.Acting.{LieIn, MayAct}
use Rattle.partition.specs.Event.{Event, Tells, Start, Stop, Restart}
use Rattle.partition.specs.Machine.{Machine}
use Rattle.recording.specs.Alone.{is_running}
use Rattle.recording.specs.Fits.{allows}
use Rattle.network.specs.Network.{Network, no_desc, desc_at, ref_to, far_of, receivers_of, managed, managed_by, manager_of}
use Rattle.network.specs.World.{Delivery, to_part, machine_at}
use Rattle.network.specs.Effects.{sent_to, room_at, room_from, returned_room, ring_at, at_managed, copied_into, tell_manager, brought}
use Rattle.isolation.proofs.Joins.{Joins, sort_of, sort_is, there_at}
use Rattle.isolation.proofs.Ports.{sent_by, took_by, is_emptying, runs_after}
use Rattle.isolation.proofs.Flow.{after_event, Flows, AreLight, recv, runs, positive, all_land, lands}
use Rattle.isolation.proofs.Brings.{Brings, brings_still, brings_sent, brings_took, brings_ring, brings_told, copies_light, copies_still, cond_none}
use Rattle.isolation.proofs.Returns.{backs, emptying}
use Rattle.isolation.proofs.Keeps.{Changes, flows_after, Sound, Lets, light_act, command_act, runs_else, runs_there, still_steady, flows_still, state_new, AreSteady, Leaves, after_start, after_restart, after_stop, commanded, runs_same, manager_positive, manager_same, some_same}

-- ---- channels and doorbells

sent_steady : (end : End) (part handle : ℕ) (bytes : List ℕ) → AreSteady (sent_to (Some end) part handle bytes)
sent_steady (Part ref) part handle bytes = (tt, tt)
sent_steady (Console console) part handle bytes = (tt, tt)

room_steady : (end : End) (count : ℕ) → AreSteady (room_at (Some end) count)
room_steady (Part ref) count = (tt, tt)
room_steady (Console console) count = tt

ring_steady : (refs : List PortRef) → AreSteady (map ring_at refs)
ring_steady [] = tt
ring_steady (ref ∷ refs) = (tt, ring_steady refs)

copies_steady : (other : ℕ) (pieces : List Piece) → AreSteady (map (copied_into other) pieces)
copies_steady other [] = tt
copies_steady other (piece ∷ pieces) = (tt, copies_steady other pieces)

act_sent : (network : Network) → Joins network → (part handle : ℕ) (bytes : List ℕ) (old new : List Machine) → Sound network old → Changes part (Sent handle bytes) old new
    → is_running (machine_at old part).inner.state ≡ true → MayAct (desc_at network part).ports (machine_at old part).ports (Sent handle bytes)
    → Lets network (sent_to (far_of network part handle) part handle bytes) new
act_sent network joins part handle bytes old new sound c run may =
    let l = joins.linked (ref_to part handle) may.0 in
    let b = brings_sent network joins part handle bytes may.0 l.0 l.1 in
    subst (λ (o : Option End). Lets network (sent_to o part handle bytes) new) (sym l.1)
    (light_act network joins part (Sent handle bytes) (sent_to (Some l.0) part handle bytes) old new sound c run
    (flows_after network joins part (Sent handle bytes) (sent_to (Some l.0) part handle bytes) old new sound.flows c refl may b) b.light (sent_steady l.0 part handle bytes) refl (λ h o. refl))

act_took : (network : Network) → Joins network → (part handle count : ℕ) (old new : List Machine) → Sound network old → Changes part (Took handle count) old new
    → is_running (machine_at old part).inner.state ≡ true → MayAct (desc_at network part).ports (machine_at old part).ports (Took handle count)
    → Lets network (room_at (far_of network part handle) count) new
act_took network joins part handle count old new sound c run may =
    let l = joins.linked (ref_to part handle) may.0 in
    let b = brings_took network joins part handle count may.0 l.0 l.1 in
    subst (λ (o : Option End). Lets network (room_at o count) new) (sym l.1)
    (light_act network joins part (Took handle count) (room_at (Some l.0) count) old new sound c run
    (flows_after network joins part (Took handle count) (room_at (Some l.0) count) old new sound.flows c refl may b) b.light (room_steady l.0 count) refl (λ h o. refl))

-- ---- a partition that stops tells its manager

tell : (network : Network) → Joins network → (part : ℕ) (act : Act) (old new : List Machine) → Sound network old → Changes part act old new → is_running (state_after act) ≡ false → is_emptying act ≡ false
    → MayAct (desc_at network part).ports (machine_at old part).ports act → ((handle : ℕ) → sent_by act handle ≡ 0) → ((handle : ℕ) → took_by act handle ≡ 0) → ((handle : ℕ) (b : Bool) → runs_after act handle b ≡ b)
    → (manager : Option PortRef) → manager_of network part ≡ manager → Lets network (tell_manager manager) new
tell network joins part act old new sound c stops e may s t same None m =
    let flows = flows_still network joins part act old new sound.flows c e may s t in (
      tt,
      record {
        flows = flows;
        agrees = record {
          agree = λ ref other held spans k.
              let ne : other ≡ part → ⊥ = λ q. nothing ref (sym (joins.manages ref other held spans k).named ∙ (ap (manager_of network) q ∙ m)) in
              runs_same part act old new c same ref (manager_positive network ref other held spans k) ∙ (sound.agrees.agree ref other held spans k ∙ sym (ap is_running (state_new part act old new c other ne)));
        };
      },
    )
  where
    nothing : (ref : PortRef) → Some ref ≡ None → ⊥
    nothing ref h = cc
tell network joins part act old new sound c stops e may s t same (Some manager) m =
    let b = brings_told network joins part act s t in
    let deliveries : List Delivery = tell_manager (Some manager) in
    let light : AreLight network deliveries = subst (λ (o : Option PortRef). AreLight network (tell_manager o)) m b.light in
    let flows : Flows network new deliveries = flows_after network joins part act deliveries old new sound.flows c e may (subst (λ (o : Option PortRef). Brings network part act (tell_manager o)) m b) in
    let l = all_land network joins deliveries new light flows in
    let at = λ (other : ℕ). lands network (to_part manager.part (Tells manager.handle false)) new other (let k = flows.size in let j = light.0 in omega (arith, k, j)) light.1 (flows.ends other) (manager.part == other) refl in (
      l.0,
      record {
        flows = l.1;
        agrees = record {
          agree = λ ref other held spans k.
              (at ref.part).runs ref.handle (manager_positive network ref other held spans k) ∙ (by_case ref other held spans k (part == other) refl ∙ sym (ap is_running (at other).state_same));
        };
      },
    )
  where
    by_case : (ref : PortRef) (other : ℕ) (held : Bool) (spans : List Span) → port_at network.descs ref ≡ Some (described.Manage other held spans) → (b : Bool) → (part == other) ≡ b
        → (if manager.part == ref.part then (if manager.handle == ref.handle then false else runs new ref) else runs new ref) ≡ is_running (machine_at new other).inner.state
    by_case ref other held spans k true f =
        let q : part ≡ other = eqb-true part other f in
        let one : ref ≡ manager = some_same ref manager (sym (joins.manages ref other held spans k).named ∙ (ap (manager_of network) (sym q) ∙ m)) in
        subst (λ (p : PortRef). (if manager.part == p.part then (if manager.handle == p.handle then false else runs new ref) else runs new ref) ≡ false) (sym one) (runs_there manager.part manager.handle false (runs new ref))
        ∙ sym (ap is_running (c.states other ∙ ap (λ (b : Bool). if b then state_after act else (machine_at old other).inner.state) f) ∙ stops)
    by_case ref other held spans k false f =
        let d = joins.managed part manager m in
        let ne : ref ≡ manager → ⊥ = λ q. eqb-false part other f (manager_same part other d.0 held d.1 spans (sym d.2 ∙ (ap (port_at network.descs) (sym q) ∙ k))) in
        runs_else manager.part manager.handle ref false (runs new ref) ne (manager.part == ref.part) (manager.handle == ref.handle) refl refl
        ∙ (runs_same part act old new c same ref (manager_positive network ref other held spans k)
        ∙ (sound.agrees.agree ref other held spans k ∙ sym (ap is_running (state_new part act old new c other (λ q. eqb-false part other f (sym q))))))

-- ---- handles that manage

manage_port : (o : Option Port) → option_map kind_of o ≡ Some kind.Manage → (other : ℕ) × (held : Bool) × (spans : List Span) × (o ≡ Some (described.Manage other held spans))
manage_port None h = absurd (let e = h in cc)
manage_port (Some (described.Channel rx tx)) h = absurd (let e = h in cc)
manage_port (Some described.Send) h = absurd (let e = h in cc)
manage_port (Some (described.Receive irq)) h = absurd (let e = h in cc)
manage_port (Some (described.Manage other held spans)) h = (other, held, spans, refl)

managing : (network : Network) (part handle : ℕ) → sort_of network (ref_to part handle) ≡ Some kind.Manage
    → (other : ℕ) × (held : Bool) × (spans : List Span) × (port_at network.descs (ref_to part handle) ≡ Some (described.Manage other held spans))
managing network part handle h = manage_port (port_at network.descs (ref_to part handle)) (sym (sort_is network (ref_to part handle)) ∙ h)

managed_at : (network : Network) (part handle other : ℕ) (held : Bool) (spans : List Span) → port_at network.descs (ref_to part handle) ≡ Some (described.Manage other held spans) → managed_by network part handle ≡ Some other
managed_at network part handle other held spans e = ap (option_and_then managed) e

spans_by : (b : Bool) (descs : List Desc) (part place : ℕ)
    → option_map_or spans_of_port (if b then None else slice_get (slice_index_or descs part no_desc).ports place) []
    ≡ option_map_or spans_of_port (if b then None else option_map_or (λ (desc : Desc). slice_get desc.ports place) (slice_get descs part) None) []
spans_by true descs part place = refl
spans_by false descs part place = ap (λ (o : Option Port). option_map_or spans_of_port o []) (sym (there_at descs part place))

-- what a handle tells of the private memory of its partition
spans_at : (network : Network) (part handle other : ℕ) (held : Bool) (spans : List Span) → port_at network.descs (ref_to part handle) ≡ Some (described.Manage other held spans)
    → managed_spans (desc_at network part).ports handle ≡ spans
spans_at network part handle other held spans e =
    spans_by (handle == 0) network.descs part (handle - 1) ∙ ap (λ (o : Option Port). option_map_or spans_of_port o []) e

act_copies : (network : Network) → Joins network → (part handle : ℕ) (pieces : List Piece) (old new : List Machine) → Sound network old → Changes part (CopyTo handle pieces) old new
    → is_running (machine_at old part).inner.state ≡ true → MayAct (desc_at network part).ports (machine_at old part).ports (CopyTo handle pieces)
    → Lets network (at_managed (managed_by network part handle) (λ other. map (copied_into other) pieces)) new
act_copies network joins part handle pieces old new sound c run may =
    let k = managing network part handle may.0 in
    let other : ℕ = k.0 in
    let j = joins.manages (ref_to part handle) other k.1 k.2 k.3 in
    let within = subst (λ (s : List Span). LieIn s pieces) (spans_at network part handle other k.1 k.2 k.3) may.1 in
    let deliveries : List Delivery = map (copied_into other) pieces in
    let light = copies_light network other k.2 pieces j.here j.private within in
    let b = brings_still network part (CopyTo handle pieces) deliveries (λ h. refl) (λ h. refl) light (copies_still other pieces) in
    subst (λ (o : Option ℕ). Lets network (at_managed o (λ (n : ℕ). map (copied_into n) pieces)) new) (sym (managed_at network part handle other k.1 k.2 k.3))
    (light_act network joins part (CopyTo handle pieces) deliveries old new sound c run
    (flows_after network joins part (CopyTo handle pieces) deliveries old new sound.flows c refl may b) light (copies_steady other pieces) refl (λ h o. refl))

-- ---- start, stop and restart

-- the state of a managed partition is the one that its manager knows
known : (network : Network) → Joins network → (part handle other : ℕ) (held : Bool) (spans : List Span) (act : Act) (old new : List Machine) → port_at network.descs (ref_to part handle) ≡ Some (described.Manage other held spans)
    → Sound network old → Changes part act old new → is_running (machine_at new other).inner.state ≡ (end_at (machine_at old part).ports handle).runs
known network joins part handle other held spans act old new kind sound c =
    ap is_running (state_new part act old new c other (λ q. (joins.manages (ref_to part handle) other held spans kind).apart (sym q))) ∙ sym (sound.agrees.agree (ref_to part handle) other held spans kind)

other_ports : (network : Network) → Joins network → (part handle other : ℕ) (held : Bool) (spans : List Span) (act : Act) (old new : List Machine) → port_at network.descs (ref_to part handle) ≡ Some (described.Manage other held spans)
    → Changes part act old new → (machine_at new other).ports ≡ (machine_at old other).ports
other_ports network joins part handle other held spans act old new kind c = c.others other (λ q. (joins.manages (ref_to part handle) other held spans kind).apart (sym q))

-- the emptied ends' room is under way behind the command
behind : (network : Network) → Joins network → (other : ℕ) (event : Event) (to : State) (old new : List Machine) → Flows network new [] → other < length new → Leaves event true to
    → (machine_at new other).ports ≡ (machine_at old other).ports → Flows network (after_event network (to_part other event) new) (returned_room network old other)
behind network joins other event to old new flows here leaves same =
    let k = commanded network other event true to new leaves here in
    subst (λ (p : List OwnEnd). Flows network (after_event network (to_part other event) new) (room_from network other 1 p)) same
    (emptying network joins other new (after_event network (to_part other event) new) flows k.size k.ends k.recvs k.outss)

act_starts : (network : Network) → Joins network → (part handle entry : ℕ) (load : Bool) (old new : List Machine) → Sound network old → Changes part (Starts handle entry load) old new
    → is_running (machine_at old part).inner.state ≡ true → MayAct (desc_at network part).ports (machine_at old part).ports (Starts handle entry load)
    → Lets network (at_managed (managed_by network part handle) (λ other. to_part other (Start entry load) ∷ returned_room network old other)) new
unfolding allows
act_starts network joins part handle entry load old new sound c run may =
    let act : Act = Starts handle entry load in
    let k = managing network part handle may.0 in
    let other : ℕ = k.0 in
    let j = joins.manages (ref_to part handle) other k.1 k.2 k.3 in
    let flows = flows_still network joins part act old new sound.flows c refl may (λ h. refl) (λ h. refl) in
    let here : other < length new = let a = j.here in let b = flows.size in omega (arith, a, b) in
    let p = manager_positive network (ref_to part handle) other k.1 k.2 k.3 in
    let tail : List Delivery = returned_room network old other in
    subst (λ (o : Option ℕ). Lets network (at_managed o (λ (n : ℕ). to_part n (Start entry load) ∷ returned_room network old n)) new) (sym (managed_at network part handle other k.1 k.2 k.3))
    (command_act network joins part handle other k.1 k.2 (Start entry load) true Running act tail old new k.3 sound c run refl
    (c.runss (ref_to part handle) p ∙ runs_there part handle true (runs old (ref_to part handle)))
    (λ ref h ne. c.runss ref h ∙ runs_else part handle ref true (runs old ref) ne (part == ref.part) (handle == ref.handle) refl refl)
    (ap not (known network joins part handle other k.1 k.2 act old new k.3 sound c ∙ may.1)) (after_start entry load) here
    (behind network joins other (Start entry load) Running old new flows here (after_start entry load) (other_ports network joins part handle other k.1 k.2 act old new k.3 c))
    (backs network joins other 1 (machine_at old other).ports).light (still_steady network other 1 (machine_at old other).ports))

act_restarts : (network : Network) → Joins network → (part handle : ℕ) (old new : List Machine) → Sound network old → Changes part (Restarts handle) old new
    → is_running (machine_at old part).inner.state ≡ true → MayAct (desc_at network part).ports (machine_at old part).ports (Restarts handle)
    → Lets network (at_managed (managed_by network part handle) (λ other. to_part other Restart ∷ returned_room network old other)) new
unfolding allows
act_restarts network joins part handle old new sound c run may =
    let act : Act = Restarts handle in
    let k = managing network part handle may.0 in
    let other : ℕ = k.0 in
    let j = joins.manages (ref_to part handle) other k.1 k.2 k.3 in
    let flows = flows_still network joins part act old new sound.flows c refl may (λ h. refl) (λ h. refl) in
    let here : other < length new = let a = j.here in let b = flows.size in omega (arith, a, b) in
    let p = manager_positive network (ref_to part handle) other k.1 k.2 k.3 in
    let tail : List Delivery = returned_room network old other in
    subst (λ (o : Option ℕ). Lets network (at_managed o (λ (n : ℕ). to_part n Restart ∷ returned_room network old n)) new) (sym (managed_at network part handle other k.1 k.2 k.3))
    (command_act network joins part handle other k.1 k.2 Restart true Running act tail old new k.3 sound c run refl
    (c.runss (ref_to part handle) p ∙ runs_there part handle true (runs old (ref_to part handle)))
    (λ ref h ne. c.runss ref h ∙ runs_else part handle ref true (runs old ref) ne (part == ref.part) (handle == ref.handle) refl refl)
    (known network joins part handle other k.1 k.2 act old new k.3 sound c ∙ may.1) after_restart here
    (behind network joins other Restart Running old new flows here after_restart (other_ports network joins part handle other k.1 k.2 act old new k.3 c))
    (backs network joins other 1 (machine_at old other).ports).light (still_steady network other 1 (machine_at old other).ports))

-- a stop moves no bytes
stopped_flows : (network : Network) → Joins network → (other : ℕ) (new : List Machine) → Flows network new [] → other < length new → Flows network (after_event network (to_part other Stop) new) []
stopped_flows network joins other new flows here =
    let k = commanded network other Stop false Stopped new after_stop here in
    let same : (ref : PortRef) → 0 < ref.handle → recv (after_event network (to_part other Stop) new) ref ≡ recv new ref = λ ref h. k.recvs ref h ∙ either (other == ref.part) (recv new ref) in
    record {
      size = k.size ∙ flows.size;
      ends = λ n. k.ends n ∙ flows.ends n;
      channel = λ one end h.
          let a = k.outss one (positive network one (joins.ends one (Part end) h)) in
          let b = same end (positive network end (joins.ends end (Part one) (joins.both_ends (Part one) (Part end) h))) in
          let d = flows.channel one end h in omega (arith, a, b, d);
      console = λ one n h. let a = k.outss one (positive network one (joins.ends one (Console n) h)) in let d = flows.console one n h in omega (arith, a, d);
      bounded = λ one is. let a = same one (positive network one is) in let d = flows.bounded one is in omega (arith, a, d);
    }
  where
    either : (b : Bool) (n : ℕ) → (if b then (if false then 0 else n) else n) ≡ n
    either true n = refl
    either false n = refl

act_stops : (network : Network) → Joins network → (part handle : ℕ) (old new : List Machine) → Sound network old → Changes part (Stops handle) old new
    → is_running (machine_at old part).inner.state ≡ true → MayAct (desc_at network part).ports (machine_at old part).ports (Stops handle)
    → Lets network (at_managed (managed_by network part handle) (λ other. to_part other Stop ∷ [])) new
unfolding allows
act_stops network joins part handle old new sound c run may =
    let act : Act = Stops handle in
    let k = managing network part handle may.0 in
    let other : ℕ = k.0 in
    let j = joins.manages (ref_to part handle) other k.1 k.2 k.3 in
    let flows = flows_still network joins part act old new sound.flows c refl may (λ h. refl) (λ h. refl) in
    let here : other < length new = let a = j.here in let b = flows.size in omega (arith, a, b) in
    let p = manager_positive network (ref_to part handle) other k.1 k.2 k.3 in
    subst (λ (o : Option ℕ). Lets network (at_managed o (λ (n : ℕ). to_part n Stop ∷ [])) new) (sym (managed_at network part handle other k.1 k.2 k.3))
    (command_act network joins part handle other k.1 k.2 Stop false Stopped act [] old new k.3 sound c run refl
    (c.runss (ref_to part handle) p ∙ runs_there part handle false (runs old (ref_to part handle)))
    (λ ref h ne. c.runss ref h ∙ runs_else part handle ref false (runs old ref) ne (part == ref.part) (handle == ref.handle) refl refl)
    (known network joins part handle other k.1 k.2 act old new k.3 sound c ∙ may.1) after_stop here (stopped_flows network joins other new flows here) tt tt)

-- a restart of its own partition
act_restarts_itself : (network : Network) → Joins network → (part : ℕ) (old new : List Machine) → Sound network old → Changes part SelfRestart old new
    → is_running (machine_at old part).inner.state ≡ true → Lets network (returned_room network old part) new
act_restarts_itself network joins part old new sound c run =
    light_act network joins part SelfRestart (returned_room network old part) old new sound c run
    (emptying network joins part old new sound.flows c.size c.ends c.recvs (λ ref h. let a = c.outss ref h in let b = cond_none (part == ref.part) in omega (arith, a, b)))
    (backs network joins part 1 (machine_at old part).ports).light (still_steady network part 1 (machine_at old part).ports) refl (λ h o. refl)

-- ---- all acts

pub brought_keeps : (network : Network) → Joins network → (machines : List Machine) (part : ℕ) (act : Act) (new : List Machine) → Sound network machines → Changes part act machines new
    → is_running (machine_at machines part).inner.state ≡ true → MayAct (desc_at network part).ports (machine_at machines part).ports act → Lets network (brought network machines part act) new
unfolding brought
brought_keeps network joins machines part Nothing new sound c run may =
    light_act network joins part Nothing [] machines new sound c run (flows_still network joins part Nothing machines new sound.flows c refl may (λ h. refl) (λ h. refl)) tt tt refl (λ h o. refl)
brought_keeps network joins machines part (Sent handle bytes) new sound c run may = act_sent network joins part handle bytes machines new sound c run may
brought_keeps network joins machines part (Took handle count) new sound c run may = act_took network joins part handle count machines new sound c run may
brought_keeps network joins machines part (Rang handle) new sound c run may =
    let b = brings_ring network joins part handle in
    let deliveries : List Delivery = map ring_at (receivers_of network part handle) in
    light_act network joins part (Rang handle) deliveries machines new sound c run (flows_after network joins part (Rang handle) deliveries machines new sound.flows c refl may b) b.light
    (ring_steady (receivers_of network part handle)) refl (λ h o. refl)
brought_keeps network joins machines part (Starts handle entry load) new sound c run may = act_starts network joins part handle entry load machines new sound c run may
brought_keeps network joins machines part (Stops handle) new sound c run may = act_stops network joins part handle machines new sound c run may
brought_keeps network joins machines part (Restarts handle) new sound c run may = act_restarts network joins part handle machines new sound c run may
brought_keeps network joins machines part (CopyTo handle pieces) new sound c run may = act_copies network joins part handle pieces machines new sound c run may
brought_keeps network joins machines part (CopyFrom handle count) new sound c run may =
    light_act network joins part (CopyFrom handle count) [] machines new sound c run (flows_still network joins part (CopyFrom handle count) machines new sound.flows c refl may (λ h. refl) (λ h. refl)) tt tt refl (λ h o. refl)
brought_keeps network joins machines part SelfStop new sound c run may =
    tell network joins part SelfStop machines new sound c refl refl may (λ h. refl) (λ h. refl) (λ h o. refl) (manager_of network part) refl
brought_keeps network joins machines part SelfRestart new sound c run may = act_restarts_itself network joins part machines new sound c run
brought_keeps network joins machines part Faulted new sound c run may =
    tell network joins part Faulted machines new sound c refl refl may (λ h. refl) (λ h. refl) (λ h o. refl) (manager_of network part) refl
