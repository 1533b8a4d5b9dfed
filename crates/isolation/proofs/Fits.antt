-- Every recording of the network fits.
use Rattle.std.proofs.Common.{◌≡◌, ℕ, zero, suc, ◌+◌, ◌-◌, ◌<◌, ◌≤◌, ◌==◌, Bool, true, false, subst, not, List, [], ◌∷◌, ◌⊎◌, map, length, take, length-take, Some, refl, sym, ap, ◌∙◌, inl, inr, if◌then◌else◌, arith, Option, None}
use Rattle.std.specs.Prelude.{slice_get, slice_index_or}
use Rattle.std.specs.Option.{option_and_then}
use Rattle.std.proofs.lemmas.List.{length-map}
use Rattle.machine_desc.specs.declared.act.State.TheVariants.{Running, Stopped}
use Rattle.machine_desc.specs.declared.desc.Desc.{Desc}
use Rattle.machine_desc.specs.declared.desc.Port.{Port}
use Rattle.machine_desc.specs.declared.desc.Port.TheVariants as described
use Rattle.machine_desc.specs.declared.desc.Span.{Span}
use Rattle.machine_desc.specs.declared.wiring.PortRef.{PortRef}
use Rattle.machine_desc.specs.declared.wiring.End.TheVariants.{Part, Console}
use Rattle.machine_desc.specs.Joined.{port_at, AreJoined}
use Rattle.partition.specs.declared.kind.Kind.TheVariants as kind
use Rattle.partition.specs.Port.{End as OwnEnd, empty_end, end_at, fresh_end}
use Rattle.partition.specs.Asking.{asks}
use Rattle.partition.specs.Machine.{Machine, fresh}
use Rattle.partition.specs.Step.{Stepped}
use Rattle.partition.specs.Reached.{Move}
use Rattle.partition.proofs.Acting.{steps_so}
use Rattle.recording.specs.Alone.{is_running}
use Rattle.recording.specs.Laws.{IsAllowed, EachMove}
use Rattle.recording.proofs.Fitting.{allowed_fit}
use Rattle.network.specs.Network.{Network, no_desc, desc_at, far_end, managed}
use Rattle.network.specs.World.{Entry, Delivery, delivered, machine_at, after_log, opening_world, moves_of}
use Rattle.network.specs.Entering.{come_to, received_room}
use Rattle.network.specs.Effects.{brought, shown}
use Rattle.network.specs.Turn.{feed_for, done_by, run, Script}
use Rattle.network.proofs.Logs.{after_both}
use Rattle.isolation.specs.Laws.{RecordingsFit}
use Rattle.isolation.specs.Agreement.{PartitionsAgree}
use Rattle.isolation.proofs.Each.{each_both, each_shown, each_move, all_shown}
use Rattle.isolation.proofs.Passing.{Enters, Does, Passes, run_passes}
use Rattle.isolation.proofs.Alone.{fed_size, opens_fresh, opens_all}
use Rattle.isolation.proofs.Joins.{Joins, joins as joins_of, sort_of, place_at}
use Rattle.isolation.proofs.Flow.{Flows, AreLight, recv, came_in, gone_in, all_land}
use Rattle.isolation.proofs.Brings.{ref_cases, amount_same, amount_other, apart_console, sort_part, cond_none, plus_zero}
use Rattle.isolation.proofs.Keeps.{Sound, Lets, stepping, step_changes, changes_on, steady_log, manager_positive}
use Rattle.isolation.proofs.Actings.{brought_keeps}

-- ---- a step

-- a core of a partition that there is
core_part : (descs : List Desc) (part core : ℕ) → core < length (slice_index_or descs part no_desc).cores → part < length descs
core_part [] part core h = absurd (omega (arith, h))
core_part (desc ∷ descs) zero core h = omega arith
core_part (desc ∷ descs) (suc part) core h = let below = core_part descs part core h in omega (arith, below)

does_keep : (network : Network) → Joins network → Does IsAllowed (Sound network) network
does_keep network joins part core machines sound runs there =
    let done : Stepped = done_by network machines part core in
    let second : List Machine = stepping network machines part core in
    let seen : List Entry = shown network part done in
    let rest : List Delivery = brought network machines part done.act in
    let third : List Machine = after_log network seen second in
    let below = core_part network.descs part core there in
    let here : part < length machines = let size = sound.flows.size in omega (arith, below, size) in
    let c = step_changes network machines part core here sound.flows.ends in
    let d = changes_on network part done.act seen machines second c (all_shown network part done) in
    let acts = steps_so (desc_at network part) (machine_at machines part) core (feed_for network machines part core) in
    let keeps = brought_keeps network joins machines part done.act third sound d runs acts.may in (
      (
        (there, (runs, fed_size network machines (asks (desc_at network part) (machine_at machines part) core))),
        each_both IsAllowed network seen (map delivered rest) second (each_shown IsAllowed network seen second (all_shown network part done)) keeps.0,
      ),
      subst (Sound network) (sym (after_both network seen (map delivered rest) second)) keeps.1,
    )

-- ---- bytes from a console

enters : (network : Network) → Joins network → (ref : PortRef) (console : ℕ) (bytes : List ℕ) (machines : List Machine) → Sound network machines → far_end network.wiring.links (Console console) ≡ Some (Part ref)
    → length bytes ≤ 256 - recv machines ref → Lets network (come_to ref bytes) machines
enters network joins ref console [] machines sound linked fits = (tt, sound)
enters network joins ref console (byte ∷ bytes) machines sound linked fits =
    let back = joins.both_ends (Console console) (Part ref) linked in
    let is = joins.ends ref (Console console) back in
    let deliveries : List Delivery = come_to ref (byte ∷ bytes) in
    let light : AreLight network deliveries = (sort_part network ref kind.Channel is, is, tt) in
    let none : (one : PortRef) → (ref ≡ one → ⊥) → came_in deliveries one ≡ 0 = λ one ne. plus_zero _ ∙ amount_other ref one (length (byte ∷ bytes)) ne in
    let flows : Flows network machines deliveries = record {
      size = sound.flows.size;
      ends = sound.flows.ends;
      channel = λ one other h.
          let a = sound.flows.channel one other h in
          let b = none other (λ q. apart_console network other ref one console (joins.both_ends (Part one) (Part other) h) back (sym q)) in
          let c = no_room ref one in omega (arith, a, b, c);
      console = λ one n h. let a = sound.flows.console one n h in let c = no_room ref one in omega (arith, a, c);
      bounded = λ one h. room one h (ref_cases ref one);
    } in
    let l = all_land network joins deliveries machines light flows in
    let s = steady_log network joins deliveries machines light (tt, tt) flows in (
      l.0,
      record {
        flows = l.1;
        agrees = record {
          agree = λ one other held spans k.
              s.runss one (manager_positive network one other held spans k) ∙ (sound.agrees.agree one other held spans k ∙ sym (ap is_running (s.states other)));
        };
      },
    )
  where
    no_room : (p one : PortRef) → gone_in (come_to p (byte ∷ bytes)) one ≡ 0
    no_room p one = plus_zero _ ∙ cond_none (p.part == one.part)

    room : (one : PortRef) → sort_of network one ≡ Some kind.Channel → (ref ≡ one) ⊎ (ref ≡ one → ⊥) → recv machines one + came_in (come_to ref (byte ∷ bytes)) one ≤ 256
    room one h (inl q) =
        let a = sound.flows.bounded one h in let b = amount_same ref one (length (byte ∷ bytes)) q in let c = ap (recv machines) q in omega (arith, a, b, c, fits)
    room one h (inr ne) = let a = sound.flows.bounded one h in let b = amount_other ref one (length (byte ∷ bytes)) ne in omega (arith, a, b)

enters_keep : (network : Network) → Joins network → Enters IsAllowed (Sound network) network
enters_keep network joins ref console bytes machines sound linked =
    enters network joins ref console (take (received_room machines ref) bytes) machines sound linked (let e = length-take (received_room machines ref) bytes in omega (arith, e))

-- ---- the beginning

opening_ports : (network : Network) (part : ℕ) → (machine_at (opening_world network).machines part).ports ≡ map fresh_end (desc_at network part).ports
unfolding fresh
opening_ports network part = ap (λ (m : Machine). m.ports) (opens_fresh network part)

-- an end begins with no bytes
is_empty : (ports : List Port) (i : ℕ) → (length (slice_index_or (map fresh_end ports) i empty_end).received ≡ 0) × ((slice_index_or (map fresh_end ports) i empty_end).outstanding ≡ 0)
is_empty [] i = (refl, refl)
is_empty (described.Channel rx tx ∷ ports) zero = (refl, refl)
is_empty (described.Send ∷ ports) zero = (refl, refl)
is_empty (described.Receive irq ∷ ports) zero = (refl, refl)
is_empty (described.Manage part held private ∷ ports) zero = (refl, refl)
is_empty (port ∷ ports) (suc i) = is_empty ports i

-- a managed partition is known to run unless it begins held
begins_known : (ports : List Port) (i part : ℕ) (held : Bool) (spans : List Span) → slice_get ports i ≡ Some (described.Manage part held spans) → (slice_index_or (map fresh_end ports) i empty_end).runs ≡ not held
begins_known [] i part held spans e = absurd (let f = e in cc)
begins_known (port ∷ ports) zero part held spans e =
    let q : port ≡ described.Manage part held spans = cc in ap (λ (p : Port). (fresh_end p).runs) q
begins_known (port ∷ ports) (suc i) part held spans e = begins_known ports i part held spans e

fresh_runs : (desc : Desc) → is_running (fresh desc).inner.state ≡ not desc.held
unfolding fresh
fresh_runs desc = by_held desc.held
  where
    by_held : (b : Bool) → is_running (if b then Stopped else Running) ≡ not b
    by_held true = refl
    by_held false = refl

opening_sound : (network : Network) → Joins network → Sound network (opening_world network).machines
opening_sound network joins =
    let at = λ (ref : PortRef). is_empty (desc_at network ref.part).ports (ref.handle - 1) in
    let r = λ (ref : PortRef). ap (λ (l : List OwnEnd). length (end_at l ref.handle).received) (opening_ports network ref.part) ∙ (at ref).0 in
    let o = λ (ref : PortRef). ap (λ (l : List OwnEnd). (end_at l ref.handle).outstanding) (opening_ports network ref.part) ∙ (at ref).1 in
    record {
      flows = record {
        size = opens_all network;
        ends = λ part. ap length (opening_ports network part) ∙ length-map (desc_at network part).ports fresh_end;
        channel = λ one other h. let a = r other in let b = o one in omega (arith, a, b);
        console = λ one n h. o one;
        bounded = λ one h. let a = r one in omega (arith, a);
      };
      agrees = record {
        agree = λ ref part held spans k.
            let m = joins.manages ref part held spans k in
            ap (λ (l : List OwnEnd). (end_at l ref.handle).runs) (opening_ports network ref.part)
            ∙ (begins_known (desc_at network ref.part).ports (ref.handle - 1) part held spans (place_at network ref (described.Manage part held spans) k)
            ∙ (ap not m.begins ∙ sym (ap (λ (d : Machine). is_running d.inner.state) (opens_fresh network part) ∙ fresh_runs (desc_at network part))));
      };
    }

-- ---- the laws

passes : (network : Network) (script : Script) (turns : ℕ) → AreJoined network.descs network.wiring → Passes IsAllowed (Sound network) network (opening_world network) (run network script turns)
passes network script turns joined =
    let known = joins_of network joined in run_passes IsAllowed (Sound network) network (enters_keep network known) (does_keep network known) script turns (opening_sound network known)

pub recordings_fit : RecordingsFit
recordings_fit network script turns part joined here private =
    let inside : part < length (opening_world network).machines = subst (λ (n : ℕ). part < n) (sym (opens_all network)) here in
    let moves : List Move = moves_of part (run network script turns).log in
    let each = each_move IsAllowed network part (run network script turns).log (opening_world network).machines inside private (passes network script turns joined).each in
    allowed_fit (desc_at network part) moves (subst (EachMove IsAllowed (desc_at network part) moves) (opens_fresh network part) each)

-- what a handle manages
managed_port : (o : Option Port) (part : ℕ) → option_and_then managed o ≡ Some part → (held : Bool) × (spans : List Span) × (o ≡ Some (described.Manage part held spans))
managed_port None part h = absurd (let e = h in cc)
managed_port (Some (described.Channel rx tx)) part h = absurd (let e = h in cc)
managed_port (Some described.Send) part h = absurd (let e = h in cc)
managed_port (Some (described.Receive irq)) part h = absurd (let e = h in cc)
managed_port (Some (described.Manage other held spans)) part h =
    let same : other ≡ part = cc in (held, spans, ap (λ (n : ℕ). Some (described.Manage n held spans)) same)

pub partitions_agree : PartitionsAgree
partitions_agree network script turns joined =
    let known = joins_of network joined in
    let sound = (passes network script turns joined).sound in
    record {
      channel = λ one other h. let a = sound.flows.channel one other h in omega (arith, a);
      console = λ one console h. sound.flows.console one console h;
      bounded = λ one other h. let a = sound.flows.bounded one (known.ends one other h) in omega (arith, a);
      manager = λ one part h. let m = managed_port (port_at network.descs one) part h in sound.agrees.agree one part m.0 m.1 m.2;
    }
