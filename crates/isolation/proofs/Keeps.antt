-- Each event of a turn is one that its partition may be given, and what lies at two ends stays in agreement.
use Rattle.std.proofs.Common.{◌≡◌, ◌≢◌, ℕ, ◌+◌, ◌-◌, ◌<◌, ◌≤◌, ◌==◌, Bool, true, false, subst, List, [], ◌∷◌, ◌++◌, ◌⊎◌, map, length, Option, Some, None, refl, sym, ap, ◌∙◌, inl, inr, if◌then◌else◌, arith, length-set}
use Rattle.std.proofs.lemmas.Bool.{eqb-true, eqb-false, eq-eqb, ne_eqb, cases_lt}
use Rattle.std.proofs.lemmas.List.{get_or_past}
use Rattle.machine_desc.specs.declared.act.State.{State}
use Rattle.machine_desc.specs.declared.act.State.TheVariants.{Running, Stopped}
use Rattle.machine_desc.specs.declared.desc.Desc.{Desc}
use Rattle.machine_desc.specs.declared.desc.Port.TheVariants as described
use Rattle.machine_desc.specs.declared.desc.Span.{Span}
use Rattle.machine_desc.specs.declared.wiring.PortRef.{PortRef}
use Rattle.machine_desc.specs.declared.wiring.End.{End}
use Rattle.machine_desc.specs.declared.wiring.End.TheVariants.{Part, Console}
use Rattle.machine_desc.specs.Joined.{port_at}
use Rattle.partition.specs.declared.kind.Kind.TheVariants as kind
use Rattle.partition.specs.Port.{End as OwnEnd, end_at, emptied}
use Rattle.partition.specs.Act.{Act, state_after}
use Rattle.partition.specs.Acting.{Acts, MayAct}
use Rattle.partition.specs.Event.{Event, Tells, Start, Stop, Restart, apply}
use Rattle.partition.specs.Machine.{Machine, fresh}
use Rattle.partition.specs.Step.{Stepped}
use Rattle.partition.specs.Reached.{Steps, Takes}
use Rattle.partition.proofs.Acting.{steps_so}
use Rattle.recording.specs.Alone.{is_running}
use Rattle.recording.specs.Fits.{allows}
use Rattle.recording.specs.Laws.{IsAllowed}
use Rattle.network.specs.Network.{Network, no_desc, desc_at, ref_to, far_end, far_of}
use Rattle.network.specs.Change.{Change as MachineChange, Moves, Shared, changed}
use Rattle.network.specs.World.{Entry, entry_for, Delivery, to_part, delivered, machine_at, after_entry, after_log}
use Rattle.network.specs.Effects.{room_at, room_for, room_from}
use Rattle.network.specs.Turn.{feed_for, done_by}
use Rattle.isolation.proofs.Each.{own_entry, other_entry, own_move, Each, IsShown, AreShown}
use Rattle.isolation.proofs.Joins.{Joins, sort_of, sort_at}
use Rattle.isolation.proofs.Ports.{named, received_at, outstanding_at, runs_at, runs_by, acted, sent_by, took_by, is_emptying, runs_after, took_there, sent_fits, empty_length, empty_at, plus_none}
use Rattle.isolation.proofs.Flow.{after_event, own_event, other_event, Flows, AreLight, recv, outs, runs, came_in, positive, all_land, lands, flows_on}
use Rattle.isolation.proofs.Brings.{Brings, sent_at, took_at, brings_still}

-- a manage handle has the state of its partition
pub record Agrees (network : Network) (machines : List Machine) : Type 0 where
  pub agree : (ref : PortRef) (part : ℕ) (held : Bool) (spans : List Span) → port_at network.descs ref ≡ Some (described.Manage part held spans) → runs machines ref ≡ is_running (machine_at machines part).inner.state

-- ---- what a step changes

pub record Changes (part : ℕ) (act : Act) (old new : List Machine) : Type 0 where
  pub size : length new ≡ length old
  pub ends : (other : ℕ) → length (machine_at new other).ports ≡ length (machine_at old other).ports
  pub recvs : (ref : PortRef) → 0 < ref.handle → recv new ref ≡ (if part == ref.part then (if is_emptying act then 0 else recv old ref - took_by act ref.handle) else recv old ref)
  pub outss : (ref : PortRef) → 0 < ref.handle → outs new ref ≡ outs old ref + sent_at part act ref
  pub runss : (ref : PortRef) → 0 < ref.handle → runs new ref ≡ (if part == ref.part then runs_after act ref.handle (runs old ref) else runs old ref)
  pub states : (other : ℕ) → (machine_at new other).inner.state ≡ (if part == other then state_after act else (machine_at old other).inner.state)
  pub others : (other : ℕ) → other ≢ part → (machine_at new other).ports ≡ (machine_at old other).ports

-- the same for one partition
record Change (b : Bool) (act : Act) (old new : Machine) : Type 0 where
  ends : length new.ports ≡ length old.ports
  recvs : (handle : ℕ) → 0 < handle → received_at new handle ≡ (if b then (if is_emptying act then 0 else received_at old handle - took_by act handle) else received_at old handle)
  outss : (handle : ℕ) → 0 < handle → outstanding_at new handle ≡ outstanding_at old handle + (if b then sent_by act handle else 0)
  runss : (handle : ℕ) → 0 < handle → runs_at new handle ≡ (if b then runs_after act handle (runs_at old handle) else runs_at old handle)
  states : new.inner.state ≡ (if b then state_after act else old.inner.state)

change_own : (desc : Desc) (old : Machine) (done : Stepped) → length old.ports ≡ length desc.ports → Acts desc old done → Change true done.act old done.after
change_own desc old done fits acts =
    let a = acted desc old.ports done.act acts.may fits in
    let e = acts.ports in
    record {
      ends = ap length e ∙ a.length_same;
      recvs = λ handle h. ap (λ (p : List OwnEnd). length (end_at p handle).received) e ∙ a.recv handle h;
      outss = λ handle h. ap (λ (p : List OwnEnd). (end_at p handle).outstanding) e ∙ a.outs handle h;
      runss = λ handle h. ap (λ (p : List OwnEnd). (end_at p handle).runs) e ∙ a.runs handle h;
      states = acts.state;
    }

change_other : (old : Machine) (act : Act) → Change false act old old
change_other old act = record { ends = refl; recvs = λ handle h. refl; outss = λ handle h. plus_none _; runss = λ handle h. refl; states = refl }

-- the machines after the step alone
abbrev pub stepping : Network → List Machine → ℕ → ℕ → List Machine
stepping network machines part core = after_entry network (entry_for part (Moves (Steps core (feed_for network machines part core)))) machines

stepped_own : (network : Network) (machines : List Machine) (part core : ℕ) → part < length machines → machine_at (stepping network machines part core) part ≡ (done_by network machines part core).after
stepped_own network machines part core h =
    own_entry network part (Moves (Steps core (feed_for network machines part core))) machines h
    ∙ own_move (desc_at network part) (Steps core (feed_for network machines part core)) (machine_at machines part)

stepped_other : (network : Network) (machines : List Machine) (part core other : ℕ) → other ≢ part → machine_at (stepping network machines part core) other ≡ machine_at machines other
stepped_other network machines part core other ne = other_entry network other part (Moves (Steps core (feed_for network machines part core))) machines ne

pub step_changes : (network : Network) (machines : List Machine) (part core : ℕ) → part < length machines
    → ((other : ℕ) → length (machine_at machines other).ports ≡ length (desc_at network other).ports)
    → Changes part (done_by network machines part core).act machines (stepping network machines part core)
step_changes network machines part core here fits =
    let new : List Machine = stepping network machines part core in
    let done : Stepped = done_by network machines part core in
    let at : (other : ℕ) → Change (part == other) done.act (machine_at machines other) (machine_at new other) = λ other. by_part other (part == other) refl in
    record {
      size = length-set machines part (changed (desc_at network part) (Moves (Steps core (feed_for network machines part core))) (machine_at machines part));
      ends = λ other. (at other).ends;
      recvs = λ ref h. (at ref.part).recvs ref.handle h;
      outss = λ ref h. (at ref.part).outss ref.handle h;
      runss = λ ref h. (at ref.part).runss ref.handle h;
      states = λ other. (at other).states;
      others = λ other ne. ap (λ (m : Machine). m.ports) (stepped_other network machines part core other ne);
    }
  where
    own : Change true (done_by network machines part core).act (machine_at machines part) (machine_at (stepping network machines part core) part)
    own = subst (Change true (done_by network machines part core).act (machine_at machines part)) (sym (stepped_own network machines part core here))
        (change_own (desc_at network part) (machine_at machines part) (done_by network machines part core) (fits part)
        (steps_so (desc_at network part) (machine_at machines part) core (feed_for network machines part core)))

    by_part : (other : ℕ) (b : Bool) → (part == other) ≡ b → Change b (done_by network machines part core).act (machine_at machines other) (machine_at (stepping network machines part core) other)
    by_part other true e = subst (λ (n : ℕ). Change true (done_by network machines part core).act (machine_at machines n) (machine_at (stepping network machines part core) n)) (eqb-true part other e) own
    by_part other false e = subst (Change false (done_by network machines part core).act (machine_at machines other)) (sym (stepped_other network machines part core other (λ q. eqb-false part other e (sym q))))
        (change_other (machine_at machines other) (done_by network machines part core).act)

-- ---- what the step sends and takes is under way

recv_less : (b : Bool) (new old took : ℕ) → new ≡ (if b then old - took else old) → new ≡ old - (if b then took else 0)
recv_less true new old took h = h
recv_less false new old took h = omega (arith, h)

-- Every act but a restart of its own partition, where the events bring what they have to.
pub flows_after : (network : Network) → Joins network → (part : ℕ) (act : Act) (deliveries : List Delivery) (old new : List Machine) → Flows network old [] → Changes part act old new → is_emptying act ≡ false
    → MayAct (desc_at network part).ports (machine_at old part).ports act → Brings network part act deliveries → Flows network new deliveries
flows_after network joins part act deliveries old new flows changes emptying may brings =
    let less : (ref : PortRef) → 0 < ref.handle → recv new ref ≡ recv old ref - took_at part act ref =
    λ ref h. recv_less (part == ref.part) (recv new ref) (recv old ref) (took_by act ref.handle)
    (changes.recvs ref h ∙ ap (λ (b : Bool). if part == ref.part then (if b then 0 else recv old ref - took_by act ref.handle) else recv old ref) emptying) in
    record {
      size = changes.size ∙ flows.size;
      ends = λ other. changes.ends other ∙ flows.ends other;
      channel = λ one other h.
          let hs = positive network one (joins.ends one (Part other) h) in
          let ks = positive network other (joins.ends other (Part one) (joins.both_ends (Part one) (Part other) h)) in
          let a = flows.channel one other h in
          let b = changes.outss one hs in
          let c = less other ks in
          let d = brings.sends one other h in
          let e = brings.takes one other h in
          let f = took other in omega (arith, a, b, c, d, e, f);
      console = λ one c h.
          let hs = positive network one (joins.ends one (Console c) h) in
          let a = flows.console one c h in
          let b = changes.outss one hs in
          let d = brings.console_out one c h in omega (arith, a, b, d);
      bounded = λ one is. let l = joins.linked one is in room one is l.0 l.1 (less one (positive network one is));
    }
  where
    own_took : (ref : PortRef) (b : Bool) → (part == ref.part) ≡ b → (if b then took_by act ref.handle else 0) ≤ recv old ref
    own_took ref true e = subst (λ (n : ℕ). took_by act ref.handle ≤ received_at (machine_at old n) ref.handle) (eqb-true part ref.part e) (took_there (desc_at network part) (machine_at old part).ports act may ref.handle)
    own_took ref false e = omega arith

    took : (ref : PortRef) → took_at part act ref ≤ recv old ref
    took ref = own_took ref (part == ref.part) refl

    own_sent : (ref : PortRef) (b : Bool) → (part == ref.part) ≡ b → outs old ref ≤ 256 → outs old ref + (if b then sent_by act ref.handle else 0) ≤ 256
    own_sent ref true e h =
        subst (λ (n : ℕ). outstanding_at (machine_at old n) ref.handle ≤ 256 → outstanding_at (machine_at old n) ref.handle + sent_by act ref.handle ≤ 256) (eqb-true part ref.part e)
        (λ k. sent_fits (desc_at network part) (machine_at old part).ports act may ref.handle k) h
    own_sent ref false e h = omega (arith, h)

    room : (one : PortRef) → sort_of network one ≡ Some kind.Channel → (end : End) → far_end network.wiring.links (Part one) ≡ Some end → recv new one ≡ recv old one - took_at part act one
        → recv new one + came_in deliveries one ≤ 256
    room one is (Console c) h l = let a = flows.bounded one is in let b = brings.console_in one c h in omega (arith, a, b, l)
    room one is (Part other) h l =
        let back = joins.both_ends (Part one) (Part other) h in
        let a = flows.bounded one is in
        let b = flows.channel other one back in
        let c = brings.sends other one back in
        let d = own_sent other (part == other.part) refl (omega (arith, a, b)) in omega (arith, a, b, c, d, l)

-- ---- what a step does to shared areas changes no end and no state

record Alike (old new : Machine) : Type 0 where
  ports : new.ports ≡ old.ports
  state : new.inner.state ≡ old.inner.state

alike_changed : (desc : Desc) (change : MachineChange) (machine : Machine) → IsShown change → Alike machine (changed desc change machine)
unfolding changed
alike_changed desc (Moves move) machine h = absurd h
alike_changed desc (Shared regions memory stored) machine h = record { ports = refl; state = refl }

alike_entry : (network : Network) (entry : Entry) (machines : List Machine) (part : ℕ) → IsShown entry.change → (b : Bool) → (entry.part == part) ≡ b
    → Alike (machine_at machines part) (machine_at (after_entry network entry machines) part)
alike_entry network entry machines part h true e =
    subst (λ (n : ℕ). Alike (machine_at machines n) (machine_at (after_entry network entry machines) n)) (eqb-true entry.part part e) (alike_in (cases_lt entry.part (length machines)))
  where
    same_length : length (after_entry network entry machines) ≡ length machines
    same_length = length-set machines entry.part (changed (desc_at network entry.part) entry.change (machine_at machines entry.part))

    alike_in : (entry.part < length machines) ⊎ (length machines ≤ entry.part) → Alike (machine_at machines entry.part) (machine_at (after_entry network entry machines) entry.part)
    alike_in (inl k) =
        subst (Alike (machine_at machines entry.part)) (sym (own_entry network entry.part entry.change machines k)) (alike_changed (desc_at network entry.part) entry.change (machine_at machines entry.part) h)
    alike_in (inr k) =
        subst (Alike (machine_at machines entry.part))
        (get_or_past machines entry.part (fresh no_desc) k ∙ sym (get_or_past (after_entry network entry machines) entry.part (fresh no_desc) (subst (λ (n : ℕ). n ≤ entry.part) (sym same_length) k)))
        (record { ports = refl; state = refl })
alike_entry network entry machines part h false e =
    subst (Alike (machine_at machines part)) (sym (other_entry network part entry.part entry.change machines (λ q. eqb-false entry.part part e (sym q)))) (record { ports = refl; state = refl })

alike_log : (network : Network) (log : List Entry) (machines : List Machine) (part : ℕ) → AreShown log → Alike (machine_at machines part) (machine_at (after_log network log machines) part)
alike_log network [] machines part h = record { ports = refl; state = refl }
alike_log network (entry ∷ log) machines part h =
    let a = alike_entry network entry machines part h.0 (entry.part == part) refl in
    let b = alike_log network log (after_entry network entry machines) part h.1 in
    record { ports = b.ports ∙ a.ports; state = b.state ∙ a.state }

length_after : (network : Network) (log : List Entry) (machines : List Machine) → length (after_log network log machines) ≡ length machines
length_after network [] machines = refl
length_after network (entry ∷ log) machines =
    length_after network log (after_entry network entry machines) ∙ length-set machines entry.part (changed (desc_at network entry.part) entry.change (machine_at machines entry.part))

pub changes_on : (network : Network) (part : ℕ) (act : Act) (log : List Entry) (old new : List Machine) → Changes part act old new → AreShown log → Changes part act old (after_log network log new)
changes_on network part act log old new c shown =
    let at = λ (other : ℕ). alike_log network log new other shown in
    record {
      size = length_after network log new ∙ c.size;
      ends = λ other. ap length (at other).ports ∙ c.ends other;
      recvs = λ ref h. ap (λ (p : List OwnEnd). length (end_at p ref.handle).received) (at ref.part).ports ∙ c.recvs ref h;
      outss = λ ref h. ap (λ (p : List OwnEnd). (end_at p ref.handle).outstanding) (at ref.part).ports ∙ c.outss ref h;
      runss = λ ref h. ap (λ (p : List OwnEnd). (end_at p ref.handle).runs) (at ref.part).ports ∙ c.runss ref h;
      states = λ other. (at other).state ∙ c.states other;
      others = λ other ne. (at other).ports ∙ c.others other ne;
    }

-- ---- events that tell no manager

abbrev pub IsSteady : Event → Type 0
IsSteady (Tells handle runs) = ⊥
IsSteady _ = Unit {0}

abbrev pub AreSteady : List Delivery → Type 0
AreSteady [] = Unit {0}
AreSteady (delivery ∷ deliveries) = IsSteady delivery.event × AreSteady deliveries

pub record Steady (old new : List Machine) : Type 0 where
  pub states : (part : ℕ) → (machine_at new part).inner.state ≡ (machine_at old part).inner.state
  pub runss : (ref : PortRef) → 0 < ref.handle → runs new ref ≡ runs old ref

steady_if : (event : Event) (b : Bool) (handle : ℕ) (old : Bool) → IsSteady event → (if b then runs_by event handle old else old) ≡ old
steady_if event false handle old h = refl
steady_if (Tells other to) true handle old h = absurd h
steady_if _ true handle old h = refl

pub steady_log : (network : Network) → Joins network → (deliveries : List Delivery) (machines : List Machine) → AreLight network deliveries → AreSteady deliveries → Flows network machines deliveries
    → Steady machines (after_log network (map delivered deliveries) machines)
steady_log network joins [] machines light steady flows = record { states = λ part. refl; runss = λ ref h. refl }
steady_log network joins (delivery ∷ deliveries) machines light steady flows =
    let inside : delivery.part < length machines = let k = flows.size in let j = light.0 in omega (arith, k, j) in
    let at = λ (part : ℕ). lands network delivery machines part inside light.1 (flows.ends part) (delivery.part == part) refl in
    let rest = steady_log network joins deliveries (after_event network delivery machines) light.2 steady.1 (flows_on network joins delivery deliveries machines flows light.0 light.1) in
    record {
      states = λ part. rest.states part ∙ (at part).state_same;
      runss = λ ref h. rest.runss ref h ∙ ((at ref.part).runs ref.handle h ∙ steady_if delivery.event (delivery.part == ref.part) ref.handle (runs machines ref) steady.0);
    }

-- ---- what is kept

pub record Sound (network : Network) (machines : List Machine) : Type 0 where
  pub flows : Flows network machines []
  pub agrees : Agrees network machines

-- what is wanted of events
abbrev pub Lets : Network → List Delivery → List Machine → Type 0
Lets network deliveries machines = Each IsAllowed network (map delivered deliveries) machines × Sound network (after_log network (map delivered deliveries) machines)

pub manager_positive : (network : Network) (ref : PortRef) (part : ℕ) (held : Bool) (spans : List Span) → port_at network.descs ref ≡ Some (described.Manage part held spans) → 0 < ref.handle
manager_positive network ref part held spans e = (named (desc_at network ref.part) ref.handle kind.Manage (sort_at network ref (described.Manage part held spans) e)).first

-- where an act leaves its partition running
pub runs_on : (part : ℕ) (act : Act) (old new : List Machine) → Changes part act old new → is_running (machine_at old part).inner.state ≡ true → state_after act ≡ Running → (other : ℕ)
    → is_running (machine_at new other).inner.state ≡ is_running (machine_at old other).inner.state
runs_on part act old new c run state other = ap is_running (c.states other) ∙ by_part (part == other) refl
  where
    by_part : (b : Bool) → (part == other) ≡ b → is_running (if b then state_after act else (machine_at old other).inner.state) ≡ is_running (machine_at old other).inner.state
    by_part true e = ap is_running state ∙ (sym run ∙ ap (λ (n : ℕ). is_running (machine_at old n).inner.state) (eqb-true part other e))
    by_part false e = refl

-- and changes no managed state
pub runs_same : (part : ℕ) (act : Act) (old new : List Machine) → Changes part act old new → ((handle : ℕ) (b : Bool) → runs_after act handle b ≡ b) → (ref : PortRef) → 0 < ref.handle → runs new ref ≡ runs old ref
runs_same part act old new c same ref h = c.runss ref h ∙ by_part (part == ref.part)
  where
    by_part : (b : Bool) → (if b then runs_after act ref.handle (runs old ref) else runs old ref) ≡ runs old ref
    by_part true = same ref.handle (runs old ref)
    by_part false = refl

-- an act whose events tell no manager
pub light_act : (network : Network) → Joins network → (part : ℕ) (act : Act) (deliveries : List Delivery) (old new : List Machine) → Sound network old → Changes part act old new → is_running (machine_at old part).inner.state ≡ true
    → Flows network new deliveries → AreLight network deliveries → AreSteady deliveries → state_after act ≡ Running → ((handle : ℕ) (b : Bool) → runs_after act handle b ≡ b) → Lets network deliveries new
light_act network joins part act deliveries old new sound c run flows light steady state same =
    let l = all_land network joins deliveries new light flows in
    let s = steady_log network joins deliveries new light steady flows in (
      l.0,
      record {
        flows = l.1;
        agrees = record {
          agree = λ ref other held spans e.
              let h = manager_positive network ref other held spans e in
              s.runss ref h ∙ (runs_same part act old new c same ref h ∙ (sound.agrees.agree ref other held spans e
              ∙ (sym (runs_on part act old new c run state other) ∙ sym (ap is_running (s.states other)))));
        };
      },
    )

-- ---- a command to a managed partition

-- what the events to a managed partition leave
pub record Leaves (event : Event) (empties : Bool) (to : State) : Type 0 where
  pub ports : (desc : Desc) (machine : Machine) → (apply desc machine event).ports ≡ (if empties then emptied machine.ports else machine.ports)
  pub state : (desc : Desc) (machine : Machine) → (apply desc machine event).inner.state ≡ to

pub after_start : (entry : ℕ) (load : Bool) → Leaves (Start entry load) true Running
unfolding apply
after_start entry load = record { ports = λ desc machine. refl; state = λ desc machine. refl }

pub after_restart : Leaves Restart true Running
unfolding apply
after_restart = record { ports = λ desc machine. refl; state = λ desc machine. refl }

pub after_stop : Leaves Stop false Stopped
unfolding apply
after_stop = record { ports = λ desc machine. refl; state = λ desc machine. refl }

pub record Commanded (part : ℕ) (empties : Bool) (to : State) (old new : List Machine) : Type 0 where
  pub size : length new ≡ length old
  pub ends : (other : ℕ) → length (machine_at new other).ports ≡ length (machine_at old other).ports
  pub recvs : (ref : PortRef) → 0 < ref.handle → recv new ref ≡ (if part == ref.part then (if empties then 0 else recv old ref) else recv old ref)
  pub outss : (ref : PortRef) → 0 < ref.handle → outs new ref ≡ outs old ref
  pub runss : (ref : PortRef) → 0 < ref.handle → runs new ref ≡ runs old ref
  pub states : (other : ℕ) → (machine_at new other).inner.state ≡ (if part == other then to else (machine_at old other).inner.state)

record Command (b empties : Bool) (to : State) (old new : Machine) : Type 0 where
  ends : length new.ports ≡ length old.ports
  recvs : (handle : ℕ) → received_at new handle ≡ (if b then (if empties then 0 else received_at old handle) else received_at old handle)
  outss : (handle : ℕ) → outstanding_at new handle ≡ outstanding_at old handle
  runss : (handle : ℕ) → runs_at new handle ≡ runs_at old handle
  states : new.inner.state ≡ (if b then to else old.inner.state)

command_ports : (empties : Bool) (to : State) (old new : Machine) → new.ports ≡ (if empties then emptied old.ports else old.ports) → new.inner.state ≡ to → Command true empties to old new
command_ports true to old new p s = record {
  ends = ap length p ∙ empty_length old.ports;
  recvs = λ handle. ap (λ (l : List OwnEnd). length (end_at l handle).received) p ∙ ap (λ (q : OwnEnd). length q.received) (empty_at old.ports (handle - 1));
  outss = λ handle. ap (λ (l : List OwnEnd). (end_at l handle).outstanding) p ∙ ap (λ (q : OwnEnd). q.outstanding) (empty_at old.ports (handle - 1));
  runss = λ handle. ap (λ (l : List OwnEnd). (end_at l handle).runs) p ∙ ap (λ (q : OwnEnd). q.runs) (empty_at old.ports (handle - 1));
  states = s;
}
command_ports false to old new p s = record {
  ends = ap length p;
  recvs = λ handle. ap (λ (l : List OwnEnd). length (end_at l handle).received) p;
  outss = λ handle. ap (λ (l : List OwnEnd). (end_at l handle).outstanding) p;
  runss = λ handle. ap (λ (l : List OwnEnd). (end_at l handle).runs) p;
  states = s;
}

pub commanded : (network : Network) (part : ℕ) (event : Event) (empties : Bool) (to : State) (machines : List Machine) → Leaves event empties to → part < length machines
    → Commanded part empties to machines (after_event network (to_part part event) machines)
commanded network part event empties to machines leaves here = record {
  size = length-set machines part (changed (desc_at network part) (Moves (Takes event)) (machine_at machines part));
  ends = λ other. (at other).ends;
  recvs = λ ref h. (at ref.part).recvs ref.handle;
  outss = λ ref h. (at ref.part).outss ref.handle;
  runss = λ ref h. (at ref.part).runss ref.handle;
  states = λ other. (at other).states;
}
  where
    own : Command true empties to (machine_at machines part) (machine_at (after_event network (to_part part event) machines) part)
    own = subst (Command true empties to (machine_at machines part)) (sym (own_event network part event machines here))
        (command_ports empties to (machine_at machines part) (apply (desc_at network part) (machine_at machines part) event) (leaves.ports (desc_at network part) (machine_at machines part)) (leaves.state (desc_at network part) (machine_at machines part)))

    by_part : (other : ℕ) (b : Bool) → (part == other) ≡ b → Command b empties to (machine_at machines other) (machine_at (after_event network (to_part part event) machines) other)
    by_part other true e = subst (λ (n : ℕ). Command true empties to (machine_at machines n) (machine_at (after_event network (to_part part event) machines) n)) (eqb-true part other e) own
    by_part other false e = subst (Command false empties to (machine_at machines other)) (sym (other_event network other part event machines (λ q. eqb-false part other e (sym q))))
        (record { ends = refl; recvs = λ handle. refl; outss = λ handle. refl; runss = λ handle. refl; states = refl })

    at : (other : ℕ) → Command (part == other) empties to (machine_at machines other) (machine_at (after_event network (to_part part event) machines) other)
    at other = by_part other (part == other) refl

pub some_same : (a b : PortRef) → Some a ≡ Some b → a ≡ b
some_same a b h = cc

pub manager_same : (a b : ℕ) (h k : Bool) (s t : List Span) → Some (described.Manage a h s) ≡ Some (described.Manage b k t) → a ≡ b
manager_same a b h k s t e = cc

-- two managers of one partition are one handle
one_manager : (network : Network) → Joins network → (one other : PortRef) (part : ℕ) (held also : Bool) (spans more : List Span) → port_at network.descs one ≡ Some (described.Manage part held spans)
    → port_at network.descs other ≡ Some (described.Manage part also more) → one ≡ other
one_manager network joins one other part held also spans more e f = some_same one other (sym (joins.manages one part held spans e).named ∙ (joins.manages other part also more f).named)

pub command_act : (network : Network) → Joins network → (part handle other : ℕ) (held : Bool) (spans : List Span) (event : Event) (empties : Bool) (to : State) (act : Act) (tail : List Delivery) (old new : List Machine)
    → port_at network.descs (ref_to part handle) ≡ Some (described.Manage other held spans) → Sound network old → Changes part act old new → is_running (machine_at old part).inner.state ≡ true → state_after act ≡ Running
    → runs new (ref_to part handle) ≡ is_running to → ((ref : PortRef) → 0 < ref.handle → (ref ≡ ref_to part handle → ⊥) → runs new ref ≡ runs old ref)
    → allows (desc_at network other) event (machine_at new other) ≡ true → Leaves event empties to → other < length new
    → Flows network (after_event network (to_part other event) new) tail → AreLight network tail → AreSteady tail
    → Lets network (to_part other event ∷ tail) new
command_act network joins part handle other held spans event empties to act tail old new kind sound c run state own rest allowed leaves here flows light steady =
    let next : List Machine = after_event network (to_part other event) new in
    let k = commanded network other event empties to new leaves here in
    let l = all_land network joins tail next light flows in
    let s = steady_log network joins tail next light steady flows in (
      (allowed, l.0),
      record {
        flows = l.1;
        agrees = record { agree = λ ref managed h z e. agree ref managed h z e k s (other == managed) refl };
      },
    )
  where
    next : List Machine
    next = after_event network (to_part other event) new

    last : List Machine
    last = after_log network (map delivered tail) next

    agree : (ref : PortRef) (managed : ℕ) (h : Bool) (z : List Span) → port_at network.descs ref ≡ Some (described.Manage managed h z) → Commanded other empties to new next → Steady next last
        → (b : Bool) → (other == managed) ≡ b → runs last ref ≡ is_running (machine_at last managed).inner.state
    agree ref managed h z e k s true f =
        let q : other ≡ managed = eqb-true other managed f in
        let p = manager_positive network ref managed h z e in
        let one : ref ≡ ref_to part handle = one_manager network joins ref (ref_to part handle) managed h held z spans e (kind ∙ ap (λ (n : ℕ). Some (described.Manage n held spans)) q) in
        s.runss ref p ∙ (k.runss ref p ∙ (ap (runs new) one ∙ (own
        ∙ sym (ap is_running (s.states managed ∙ (k.states managed ∙ ap (λ (b : Bool). if b then to else (machine_at new managed).inner.state) f))))))
    agree ref managed h z e k s false f =
        let p = manager_positive network ref managed h z e in
        let ne : ref ≡ ref_to part handle → ⊥ = λ q. eqb-false other managed f (manager_same other managed held h spans z (sym kind ∙ (ap (port_at network.descs) (sym q) ∙ e))) in
        s.runss ref p ∙ (k.runss ref p ∙ (rest ref p ne ∙ (sound.agrees.agree ref managed h z e
        ∙ (sym (runs_on part act old new c run state managed) ∙ sym (ap is_running (s.states managed ∙ (k.states managed ∙ ap (λ (b : Bool). if b then to else (machine_at new managed).inner.state) f)))))))

-- what an act does to one managed state, and to no other
pub runs_else : (part handle : ℕ) (ref : PortRef) (to old : Bool) → (ref ≡ ref_to part handle → ⊥) → (b d : Bool) → (part == ref.part) ≡ b → (handle == ref.handle) ≡ d → (if b then (if d then to else old) else old) ≡ old
runs_else part handle ref to old ne true true e f = absurd (ne (ap (λ (n : ℕ). ref_to n ref.handle) (sym (eqb-true part ref.part e)) ∙ ap (ref_to part) (sym (eqb-true handle ref.handle f))))
runs_else part handle ref to old ne true false e f = refl
runs_else part handle ref to old ne false d e f = refl

pub runs_there : (part handle : ℕ) (to old : Bool) → (if part == part then (if handle == handle then to else old) else old) ≡ to
runs_there part handle to old = rw (eq-eqb part part refl, eq-eqb handle handle refl) refl

-- ---- room that goes back

steady_both : (a b : List Delivery) → AreSteady a → AreSteady b → AreSteady (a ++ b)
steady_both [] b h k = k
steady_both (delivery ∷ a) b h k = (h.0, steady_both a b h.1 k)

steady_room : (end : Option End) (count : ℕ) → AreSteady (room_at end count)
steady_room None count = tt
steady_room (Some (Part ref)) count = (tt, tt)
steady_room (Some (Console console)) count = tt

steady_for : (end : Option End) (received : List ℕ) → AreSteady (room_for end received)
steady_for end [] = tt
steady_for end (byte ∷ received) = steady_room end (length (byte ∷ received))

pub still_steady : (network : Network) (part handle : ℕ) (ends : List OwnEnd) → AreSteady (room_from network part handle ends)
still_steady network part handle [] = tt
still_steady network part handle (own ∷ ends) =
    steady_both (room_for (far_of network part handle) own.received) (room_from network part (handle + 1) ends) (steady_for (far_of network part handle) own.received) (still_steady network part (handle + 1) ends)

-- ---- acts that move nothing

pub flows_still : (network : Network) → Joins network → (part : ℕ) (act : Act) (old new : List Machine) → Flows network old [] → Changes part act old new → is_emptying act ≡ false
    → MayAct (desc_at network part).ports (machine_at old part).ports act → ((handle : ℕ) → sent_by act handle ≡ 0) → ((handle : ℕ) → took_by act handle ≡ 0) → Flows network new []
flows_still network joins part act old new flows c e may s t = flows_after network joins part act [] old new flows c e may (brings_still network part act [] s t tt tt)

pub state_new : (part : ℕ) (act : Act) (old new : List Machine) → Changes part act old new → (other : ℕ) → (other ≡ part → ⊥) → (machine_at new other).inner.state ≡ (machine_at old other).inner.state
state_new part act old new c other ne = c.states other ∙ ap (λ (b : Bool). if b then state_after act else (machine_at old other).inner.state) (ne_eqb part other (λ q. ne (sym q)))
