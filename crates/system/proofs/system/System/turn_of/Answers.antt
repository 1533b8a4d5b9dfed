use Rattle.std.proofs.Common.{◌≡◌, ℕ, ◌<◌, List, length, Some, refl, sym, ap, subst, ◌∙◌, arith}
use Rattle.std.proofs.lemmas.List.{length-map, get_or_default}
use Rattle.partition.specs.Machine.{Inner}
use Rattle.partition.specs.Lending.{Part}
use Rattle.network.specs.Network.{Seat as Owned, owner_from, owner_of}
use Rattle.network.specs.Report.{act_lines}
use Rattle.network.specs.Tally.{after_lines}
use Rattle.network.specs.World.{Passage, machine_at}
use Rattle.system.specs.System.{Held, Snapshot, no_part, part_at, descs_of}
use Rattle.system.specs.Turning.{held_of}
use Rattle.system.proofs.Seated.{seat_runs, seat_rests}
use Rattle.system.proofs.Turned.{inner_there}
use Rattle.system.proofs.system.System.turn_of.Goals as goal

pub step-requires-clause-running : goal.step-requires-clause-running
step-requires-clause-running c =
    let held : Held = held_of c.self.inside.parts.items c.self.inside.memory c.self.inside.board c.self.inside.wiring c.self.inside.counts.items in
    let now : Snapshot = c.args.self.now in
    let part : ℕ = c.in_ok-part.field-0.part in
    let seat : Owned = record { part = part; core = c.in_ok-part.field-0.core } in
    let long : length (descs_of held.parts) ≡ length held.parts = length-map held.parts (λ (p : Part). p.desc) in
    let within : part < length held.parts = subst (λ (ps : List Part). part < length ps) c.as_slice.ensures.value c.in_ok-part.ensures.part in
    let there : part < length now.network.descs = subst (λ (s : Snapshot). part < length s.network.descs) c.self.view_is (omega (arith, within, long)) in
    let inner : (machine_at now.world.machines part).inner ≡ (part_at held.parts part).inner = inner_there held now part part c.self.view_is there refl in
    let state : (machine_at now.world.machines part).inner.state ≡ c.state.result = ap (λ (i : Inner). i.state) inner
    ∙ sym (c.state.ensures ∙ ap (λ (p : Part). p.inner.state) (c.index.ensures ∙ get_or_default held.parts part c.index.result.now no_part within)) in
    state ∙ c.in-Running.is

pub step-requires-clause-core : goal.step-requires-clause-core
step-requires-clause-core c =
    let held : Held = held_of c.self.inside.parts.items c.self.inside.memory c.self.inside.board c.self.inside.wiring c.self.inside.counts.items in
    let now : Snapshot = c.args.self.now in
    let part : ℕ = c.in_ok-part.field-0.part in
    let seat : Owned = record { part = part; core = c.in_ok-part.field-0.core } in
    let long : length (descs_of held.parts) ≡ length held.parts = length-map held.parts (λ (p : Part). p.desc) in
    let within : part < length held.parts = subst (λ (ps : List Part). part < length ps) c.as_slice.ensures.value c.in_ok-part.ensures.part in
    let there : part < length now.network.descs = subst (λ (s : Snapshot). part < length s.network.descs) c.self.view_is (omega (arith, within, long)) in
    let inner : (machine_at now.world.machines part).inner ≡ (part_at held.parts part).inner = inner_there held now part part c.self.view_is there refl in
    subst (λ (i : Inner). c.in_ok-part.field-0.core < length i.cores) (sym inner)
    (subst (λ (ps : List Part). c.in_ok-part.field-0.core < length (part_at ps part).inner.cores) c.as_slice.ensures.value c.in_ok-part.ensures.core)

pub returns-in-Running-clause-world : goal.returns-in-Running-clause-world
returns-in-Running-clause-world c =
    let held : Held = held_of c.self.inside.parts.items c.self.inside.memory c.self.inside.board c.self.inside.wiring c.self.inside.counts.items in
    let now : Snapshot = c.args.self.now in
    let part : ℕ = c.in_ok-part.field-0.part in
    let seat : Owned = record { part = part; core = c.in_ok-part.field-0.core } in
    let long : length (descs_of held.parts) ≡ length held.parts = length-map held.parts (λ (p : Part). p.desc) in
    let within : part < length held.parts = subst (λ (ps : List Part). part < length ps) c.as_slice.ensures.value c.in_ok-part.ensures.part in
    let there : part < length now.network.descs = subst (λ (s : Snapshot). part < length s.network.descs) c.self.view_is (omega (arith, within, long)) in
    let inner : (machine_at now.world.machines part).inner ≡ (part_at held.parts part).inner = inner_there held now part part c.self.view_is there refl in
    let state : (machine_at now.world.machines part).inner.state ≡ c.state.result = ap (λ (i : Inner). i.state) inner
    ∙ sym (c.state.ensures ∙ ap (λ (p : Part). p.inner.state) (c.index.ensures ∙ get_or_default held.parts part c.index.result.now no_part within)) in
    let owner : owner_of now.network c.args.number ≡ Some seat =
    sym (c.in_ok-part.ensures.owner ∙ (ap (λ (ps : List Part). owner_from 0 (descs_of ps) c.args.number) c.as_slice.ensures.value ∙ ap (λ (s : Snapshot). owner_from 0 s.network.descs c.args.number) c.self.view_is)) in
    c.step.ensures.world ∙ ap (λ (p : Passage). p.after) (sym (seat_runs now.network c.args.number now.world seat owner (state ∙ c.in-Running.is)))

pub returns-in-Running-clause-deed : goal.returns-in-Running-clause-deed
returns-in-Running-clause-deed c =
    let held : Held = held_of c.self.inside.parts.items c.self.inside.memory c.self.inside.board c.self.inside.wiring c.self.inside.counts.items in
    let now : Snapshot = c.args.self.now in
    let part : ℕ = c.in_ok-part.field-0.part in
    let seat : Owned = record { part = part; core = c.in_ok-part.field-0.core } in
    let long : length (descs_of held.parts) ≡ length held.parts = length-map held.parts (λ (p : Part). p.desc) in
    let within : part < length held.parts = subst (λ (ps : List Part). part < length ps) c.as_slice.ensures.value c.in_ok-part.ensures.part in
    let there : part < length now.network.descs = subst (λ (s : Snapshot). part < length s.network.descs) c.self.view_is (omega (arith, within, long)) in
    subst (λ (n : ℕ). n < length now.network.descs) (sym c.step.ensures.part) there

pub returns-in-Running-clause-line : goal.returns-in-Running-clause-line
returns-in-Running-clause-line c =
    let held : Held = held_of c.self.inside.parts.items c.self.inside.memory c.self.inside.board c.self.inside.wiring c.self.inside.counts.items in
    let now : Snapshot = c.args.self.now in
    let part : ℕ = c.in_ok-part.field-0.part in
    let seat : Owned = record { part = part; core = c.in_ok-part.field-0.core } in
    let long : length (descs_of held.parts) ≡ length held.parts = length-map held.parts (λ (p : Part). p.desc) in
    let within : part < length held.parts = subst (λ (ps : List Part). part < length ps) c.as_slice.ensures.value c.in_ok-part.ensures.part in
    let there : part < length now.network.descs = subst (λ (s : Snapshot). part < length s.network.descs) c.self.view_is (omega (arith, within, long)) in
    let inner : (machine_at now.world.machines part).inner ≡ (part_at held.parts part).inner = inner_there held now part part c.self.view_is there refl in
    let state : (machine_at now.world.machines part).inner.state ≡ c.state.result = ap (λ (i : Inner). i.state) inner
    ∙ sym (c.state.ensures ∙ ap (λ (p : Part). p.inner.state) (c.index.ensures ∙ get_or_default held.parts part c.index.result.now no_part within)) in
    let owner : owner_of now.network c.args.number ≡ Some seat =
    sym (c.in_ok-part.ensures.owner ∙ (ap (λ (ps : List Part). owner_from 0 (descs_of ps) c.args.number) c.as_slice.ensures.value ∙ ap (λ (s : Snapshot). owner_from 0 s.network.descs c.args.number) c.self.view_is)) in
    c.step.ensures.line ∙ ap (λ (p : Passage). act_lines now.network p.lines) (sym (seat_runs now.network c.args.number now.world seat owner (state ∙ c.in-Running.is)))

pub returns-in-Running-clause-tally : goal.returns-in-Running-clause-tally
returns-in-Running-clause-tally c =
    let held : Held = held_of c.self.inside.parts.items c.self.inside.memory c.self.inside.board c.self.inside.wiring c.self.inside.counts.items in
    let now : Snapshot = c.args.self.now in
    let part : ℕ = c.in_ok-part.field-0.part in
    let seat : Owned = record { part = part; core = c.in_ok-part.field-0.core } in
    let long : length (descs_of held.parts) ≡ length held.parts = length-map held.parts (λ (p : Part). p.desc) in
    let within : part < length held.parts = subst (λ (ps : List Part). part < length ps) c.as_slice.ensures.value c.in_ok-part.ensures.part in
    let there : part < length now.network.descs = subst (λ (s : Snapshot). part < length s.network.descs) c.self.view_is (omega (arith, within, long)) in
    let inner : (machine_at now.world.machines part).inner ≡ (part_at held.parts part).inner = inner_there held now part part c.self.view_is there refl in
    let state : (machine_at now.world.machines part).inner.state ≡ c.state.result = ap (λ (i : Inner). i.state) inner
    ∙ sym (c.state.ensures ∙ ap (λ (p : Part). p.inner.state) (c.index.ensures ∙ get_or_default held.parts part c.index.result.now no_part within)) in
    let owner : owner_of now.network c.args.number ≡ Some seat =
    sym (c.in_ok-part.ensures.owner ∙ (ap (λ (ps : List Part). owner_from 0 (descs_of ps) c.args.number) c.as_slice.ensures.value ∙ ap (λ (s : Snapshot). owner_from 0 s.network.descs c.args.number) c.self.view_is)) in
    c.step.ensures.tally ∙ ap (λ (p : Passage). after_lines p.lines now.tally) (sym (seat_runs now.network c.args.number now.world seat owner (state ∙ c.in-Running.is)))

pub returns-in_default : goal.returns-in_default
returns-in_default c =
    let held : Held = held_of c.self.inside.parts.items c.self.inside.memory c.self.inside.board c.self.inside.wiring c.self.inside.counts.items in
    let now : Snapshot = c.args.self.now in
    let part : ℕ = c.in_ok-part.field-0.part in
    let seat : Owned = record { part = part; core = c.in_ok-part.field-0.core } in
    let long : length (descs_of held.parts) ≡ length held.parts = length-map held.parts (λ (p : Part). p.desc) in
    let within : part < length held.parts = subst (λ (ps : List Part). part < length ps) c.as_slice.ensures.value c.in_ok-part.ensures.part in
    let there : part < length now.network.descs = subst (λ (s : Snapshot). part < length s.network.descs) c.self.view_is (omega (arith, within, long)) in
    let inner : (machine_at now.world.machines part).inner ≡ (part_at held.parts part).inner = inner_there held now part part c.self.view_is there refl in
    let state : (machine_at now.world.machines part).inner.state ≡ c.state.result = ap (λ (i : Inner). i.state) inner
    ∙ sym (c.state.ensures ∙ ap (λ (p : Part). p.inner.state) (c.index.ensures ∙ get_or_default held.parts part c.index.result.now no_part within)) in
    let owner : owner_of now.network c.args.number ≡ Some seat =
    sym (c.in_ok-part.ensures.owner ∙ (ap (λ (ps : List Part). owner_from 0 (descs_of ps) c.args.number) c.as_slice.ensures.value ∙ ap (λ (s : Snapshot). owner_from 0 s.network.descs c.args.number) c.self.view_is)) in
    let passage = seat_rests now.network c.args.number now.world seat owner (λ q. c.in_default.not-Running (sym state ∙ q)) in
    record {
      network = refl;
      world = ap (λ (p : Passage). p.after) (sym passage);
      deed = tt;
      line = ap (λ (p : Passage). act_lines now.network p.lines) (sym passage);
      tally = ap (λ (p : Passage). after_lines p.lines now.tally) (sym passage);
      counted = λ other. omega arith;
    }
