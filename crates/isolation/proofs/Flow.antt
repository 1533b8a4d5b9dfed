-- What is outstanding at one end is what lies at the other or is under way.
use Rattle.std.proofs.Common.{◌≡◌, ◌≢◌, ℕ, ◌+◌, ◌-◌, ◌<◌, ◌≤◌, ◌==◌, Bool, true, false, subst, List, [], ◌∷◌, map, length, Some, refl, sym, ap, ◌∙◌, if◌then◌else◌, arith, length-set}
use Rattle.std.proofs.lemmas.Bool.{eqb-true, eqb-false, eq-eqb, le-leb}
use Rattle.machine_desc.specs.declared.wiring.PortRef.{PortRef}
use Rattle.machine_desc.specs.declared.wiring.End.{End}
use Rattle.machine_desc.specs.declared.wiring.End.TheVariants.{Part, Console}
use Rattle.partition.specs.declared.kind.Kind.TheVariants as kind
use Rattle.partition.specs.Channels.{is_channel}
use Rattle.partition.specs.Event.{Event, Bytes, Room, Ring, Tells, Start, Stop, Restart, CopyIn, apply}
use Rattle.partition.specs.Machine.{Machine}
use Rattle.partition.specs.Reached.{Takes}
use Rattle.recording.specs.Fits.{is_receive, is_manage, allows}
use Rattle.recording.specs.Laws.{IsAllowed}
use Rattle.recording.proofs.Along.{both_true}
use Rattle.network.specs.Network.{Network, desc_at, ref_to, far_end}
use Rattle.network.specs.Change.{Moves, changed}
use Rattle.network.specs.World.{Delivery, to_part, delivered, machine_at, after_entry, after_log}
use Rattle.isolation.proofs.Each.{own_entry, other_entry, own_move, Each}
use Rattle.isolation.proofs.Joins.{Joins, sort_of}
use Rattle.isolation.proofs.Ports.{named, received_at, outstanding_at, runs_at, came_by, gone_by, runs_by, IsLight, lightly, plus_none, less_none}

-- ---- one event

-- the machines after an event
abbrev pub after_event : Network → Delivery → List Machine → List Machine
after_event network delivery machines = after_entry network (delivered delivery) machines

pub own_event : (network : Network) (part : ℕ) (event : Event) (machines : List Machine) → part < length machines
    → machine_at (after_event network (to_part part event) machines) part ≡ apply (desc_at network part) (machine_at machines part) event
own_event network part event machines h = own_entry network part (Moves (Takes event)) machines h ∙ own_move (desc_at network part) (Takes event) (machine_at machines part)

pub other_event : (network : Network) (part other : ℕ) (event : Event) (machines : List Machine) → part ≢ other → machine_at (after_event network (to_part other event) machines) part ≡ machine_at machines part
other_event network part other event machines ne = other_entry network part other (Moves (Takes event)) machines ne

-- what an event leaves of one machine, whether it is given to that one or to another
pub record Lands (b : Bool) (event : Event) (old new : Machine) : Type 0 where
  pub length_same : length new.ports ≡ length old.ports
  pub state_same : new.inner.state ≡ old.inner.state
  pub came : (handle : ℕ) → 0 < handle → received_at new handle ≡ received_at old handle + (if b then came_by event handle else 0)
  pub gone : (handle : ℕ) → 0 < handle → outstanding_at new handle ≡ outstanding_at old handle - (if b then gone_by event handle else 0)
  pub runs : (handle : ℕ) → 0 < handle → runs_at new handle ≡ (if b then runs_by event handle (runs_at old handle) else runs_at old handle)

lands_own : (network : Network) (part : ℕ) (event : Event) (machines : List Machine) → part < length machines → IsLight (desc_at network part) event → length (machine_at machines part).ports ≡ length (desc_at network part).ports
    → Lands true event (machine_at machines part) (machine_at (after_event network (to_part part event) machines) part)
lands_own network part event machines here light fits =
    let l = lightly (desc_at network part) event (machine_at machines part) light fits in
    subst (Lands true event (machine_at machines part)) (sym (own_event network part event machines here))
    (record { length_same = l.length_same; state_same = l.state_same; came = l.came; gone = l.gone; runs = l.runs })

lands_other : (network : Network) (part other : ℕ) (event : Event) (machines : List Machine) → part ≢ other
    → Lands false event (machine_at machines part) (machine_at (after_event network (to_part other event) machines) part)
lands_other network part other event machines ne =
    subst (Lands false event (machine_at machines part)) (sym (other_event network part other event machines ne))
    (record { length_same = refl; state_same = refl; came = λ handle h. plus_none _; gone = λ handle h. less_none _; runs = λ handle h. refl })

pub lands : (network : Network) (delivery : Delivery) (machines : List Machine) (part : ℕ) → delivery.part < length machines → IsLight (desc_at network delivery.part) delivery.event
    → length (machine_at machines part).ports ≡ length (desc_at network part).ports → (b : Bool) → (delivery.part == part) ≡ b
    → Lands b delivery.event (machine_at machines part) (machine_at (after_event network delivery machines) part)
lands network delivery machines part here light fits true e =
    subst
    (
    λ (n : ℕ). n < length machines → IsLight (desc_at network n) delivery.event
    → Lands true delivery.event (machine_at machines part) (machine_at (after_event network (to_part n delivery.event) machines) part)
    ) (sym (eqb-true delivery.part part e)) (λ h l. lands_own network part delivery.event machines h l fits) here light
lands network delivery machines part here light fits false e = lands_other network part delivery.part delivery.event machines (λ q. eqb-false delivery.part part e (sym q))

-- ---- what is under way

abbrev pub recv : List Machine → PortRef → ℕ
recv machines ref = received_at (machine_at machines ref.part) ref.handle

abbrev pub outs : List Machine → PortRef → ℕ
outs machines ref = outstanding_at (machine_at machines ref.part) ref.handle

abbrev pub runs : List Machine → PortRef → Bool
runs machines ref = runs_at (machine_at machines ref.part) ref.handle

abbrev pub came : Delivery → PortRef → ℕ
came delivery ref = if delivery.part == ref.part then came_by delivery.event ref.handle else 0

abbrev pub gone : Delivery → PortRef → ℕ
gone delivery ref = if delivery.part == ref.part then gone_by delivery.event ref.handle else 0

abbrev pub came_in : List Delivery → PortRef → ℕ
came_in [] ref = 0
came_in (delivery ∷ deliveries) ref = came delivery ref + came_in deliveries ref

abbrev pub gone_in : List Delivery → PortRef → ℕ
gone_in [] ref = 0
gone_in (delivery ∷ deliveries) ref = gone delivery ref + gone_in deliveries ref

-- the machines, while these events are under way
pub record Flows (network : Network) (machines : List Machine) (deliveries : List Delivery) : Type 0 where
  pub size : length machines ≡ length network.descs
  pub ends : (part : ℕ) → length (machine_at machines part).ports ≡ length (desc_at network part).ports
  pub channel : (one other : PortRef) → far_end network.wiring.links (Part one) ≡ Some (Part other) → outs machines one ≡ recv machines other + came_in deliveries other + gone_in deliveries one
  pub console : (one : PortRef) (other : ℕ) → far_end network.wiring.links (Part one) ≡ Some (Console other) → outs machines one ≡ gone_in deliveries one
  pub bounded : (one : PortRef) → sort_of network one ≡ Some kind.Channel → recv machines one + came_in deliveries one ≤ 256

pub positive : (network : Network) (ref : PortRef) → sort_of network ref ≡ Some kind.Channel → 0 < ref.handle
positive network ref is = (named (desc_at network ref.part) ref.handle kind.Channel is).first

-- an event lands, and what is under way is less
pub flows_on : (network : Network) → Joins network → (delivery : Delivery) (deliveries : List Delivery) (machines : List Machine) → Flows network machines (delivery ∷ deliveries)
    → delivery.part < length network.descs → IsLight (desc_at network delivery.part) delivery.event → Flows network (after_event network delivery machines) deliveries
flows_on network joins delivery deliveries machines flows here light =
    let inside : delivery.part < length machines = let k = flows.size in omega (arith, k, here) in
    let at : (part : ℕ) → Lands (delivery.part == part) delivery.event (machine_at machines part) (machine_at (after_event network delivery machines) part) =
    λ part. lands network delivery machines part inside light (flows.ends part) (delivery.part == part) refl in
    record {
      size = length-set machines delivery.part (changed (desc_at network delivery.part) (Moves (Takes delivery.event)) (machine_at machines delivery.part)) ∙ flows.size;
      ends = λ part. (at part).length_same ∙ flows.ends part;
      channel = λ one other linked.
          let a = (at one.part).gone one.handle (positive network one (joins.ends one (Part other) linked)) in
          let b = (at other.part).came other.handle (positive network other (joins.ends other (Part one) (joins.both_ends (Part one) (Part other) linked))) in
          let c = flows.channel one other linked in omega (arith, a, b, c);
      console = λ one other linked.
          let a = (at one.part).gone one.handle (positive network one (joins.ends one (Console other) linked)) in
          let c = flows.console one other linked in omega (arith, a, c);
      bounded = λ one is.
          let b = (at one.part).came one.handle (positive network one is) in
          let c = flows.bounded one is in omega (arith, b, c);
    }

came_own : (part handle : ℕ) (bytes : List ℕ) → came (to_part part (Bytes handle bytes)) (ref_to part handle) ≡ length bytes
came_own part handle bytes = rw (eq-eqb part part refl, eq-eqb handle handle refl) refl

gone_own : (part handle count : ℕ) → gone (to_part part (Room handle count)) (ref_to part handle) ≡ count
gone_own part handle count = rw (eq-eqb part part refl, eq-eqb handle handle refl) refl

-- room that is under way is outstanding
room_fits : (network : Network) → Joins network → (part handle count : ℕ) (deliveries : List Delivery) (machines : List Machine) → Flows network machines (to_part part (Room handle count) ∷ deliveries) → (end : End)
    → far_end network.wiring.links (Part (ref_to part handle)) ≡ Some end → count ≤ outstanding_at (machine_at machines part) handle
room_fits network joins part handle count deliveries machines flows (Part other) linked =
    let a = flows.channel (ref_to part handle) other linked in let b = gone_own part handle count in omega (arith, a, b)
room_fits network joins part handle count deliveries machines flows (Console other) linked =
    let a = flows.console (ref_to part handle) other linked in let b = gone_own part handle count in omega (arith, a, b)

allowed_on : (network : Network) → Joins network → (part : ℕ) (event : Event) (deliveries : List Delivery) (machines : List Machine) → Flows network machines (to_part part event ∷ deliveries)
    → IsLight (desc_at network part) event → allows (desc_at network part) event (machine_at machines part) ≡ true
unfolding allows
allowed_on network joins part (Bytes handle bytes) deliveries machines flows light =
    both_true _ _ (ap is_channel light)
    (le-leb (received_at (machine_at machines part) handle + length bytes) 256 (let a = flows.bounded (ref_to part handle) light in let b = came_own part handle bytes in omega (arith, a, b)))
allowed_on network joins part (Room handle count) deliveries machines flows light =
    let linked = joins.linked (ref_to part handle) light in
    both_true _ _ (ap is_channel light) (le-leb count (outstanding_at (machine_at machines part) handle) (room_fits network joins part handle count deliveries machines flows linked.0 linked.1))
allowed_on network joins part (Ring handle) deliveries machines flows light = ap is_receive light
allowed_on network joins part (Tells handle runs) deliveries machines flows light = ap is_manage light
allowed_on network joins part (CopyIn piece) deliveries machines flows light = light
allowed_on network joins part (Start entry load) deliveries machines flows light = absurd light
allowed_on network joins part Stop deliveries machines flows light = absurd light
allowed_on network joins part Restart deliveries machines flows light = absurd light

abbrev pub AreLight : Network → List Delivery → Type 0
AreLight network [] = Unit {0}
AreLight network (delivery ∷ deliveries) = (delivery.part < length network.descs) × IsLight (desc_at network delivery.part) delivery.event × AreLight network deliveries

-- all such events land
pub all_land : (network : Network) → Joins network → (deliveries : List Delivery) (machines : List Machine) → AreLight network deliveries → Flows network machines deliveries
    → Each IsAllowed network (map delivered deliveries) machines × Flows network (after_log network (map delivered deliveries) machines) []
all_land network joins [] machines light flows = (tt, flows)
all_land network joins (delivery ∷ deliveries) machines light flows =
    let rest = all_land network joins deliveries (after_event network delivery machines) light.2 (flows_on network joins delivery deliveries machines flows light.0 light.1) in
    ((allowed_on network joins delivery.part delivery.event deliveries machines flows light.1, rest.0), rest.1)
