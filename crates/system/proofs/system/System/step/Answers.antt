use Rattle.std.proofs.Common.{◌≡◌, ℕ, [], ◌+◌, ◌<◌, length, refl, sym, ap, subst, ◌∙◌}
use Rattle.std.proofs.lemmas.List.{get_or_default}
use Rattle.trace_text.specs.Acts.{act_text}
use Rattle.network.specs.Network.{desc_at}
use Rattle.network.specs.World.{machine_at}
use Rattle.partition.specs.Act.{act_of}
use Rattle.partition.specs.Lending.{Part}
use Rattle.network.specs.Tally.{after_act}
use Rattle.system.proofs.Lined.{there_in}
use Rattle.machine_desc.specs.declared.act.State.TheVariants.{Running}
use Rattle.partition.specs.Machine.{Inner, most_steps}
use Rattle.system.specs.Board.{Lines}
use Rattle.system.specs.System.{Held, Snapshot, no_part}
use Rattle.system.specs.Turning.{held_of}
use Rattle.system.proofs.Tallied.{few_tallied}
use Rattle.system.proofs.Turned.{inner_there, turned_as}
use Rattle.system.proofs.system.System.step.Goals as goal

pub step_all-act-requires-clause-core : goal.step_all-act-requires-clause-core
step_all-act-requires-clause-core c =
    let held : Held = held_of c.self.inside.parts.items c.self.inside.memory c.self.inside.board c.self.inside.wiring c.self.inside.counts.items in
    subst (λ (inner : Inner). c.args.core < length inner.cores)
    (inner_there held c.args.self.now c.args.part c.lend_to.new.self.who c.self.view_is c.requires.part (ap (λ (ls : Lines). ls.who) c.lend_to.ensures)) c.requires.core

pub step_all-act-requires-clause-running : goal.step_all-act-requires-clause-running
step_all-act-requires-clause-running c =
    let held : Held = held_of c.self.inside.parts.items c.self.inside.memory c.self.inside.board c.self.inside.wiring c.self.inside.counts.items in
    subst (λ (inner : Inner). inner.state ≡ Running)
    (inner_there held c.args.self.now c.args.part c.lend_to.new.self.who c.self.view_is c.requires.part (ap (λ (ls : Lines). ls.who) c.lend_to.ensures)) c.requires.running

pub step_all-act-requires-clause-few : goal.step_all-act-requires-clause-few
step_all-act-requires-clause-few c =
    let held : Held = held_of c.self.inside.parts.items c.self.inside.memory c.self.inside.board c.self.inside.wiring c.self.inside.counts.items in
    subst (λ (inner : Inner). inner.steps < most_steps)
    (inner_there held c.args.self.now c.args.part c.lend_to.new.self.who c.self.view_is c.requires.part (ap (λ (ls : Lines). ls.who) c.lend_to.ensures)) c.requires.few

pub count-requires-clause-lines : goal.count-requires-clause-lines
count-requires-clause-lines c =
    let held : Held = held_of c.self.inside.parts.items c.self.inside.memory c.self.inside.board c.self.inside.wiring c.self.inside.counts.items in
    (few_tallied held c.self.inside.tally c.step_all-act.result c.self.invariant.0 c.self.invariant.1.1 c.step_all-act.ensures.bytes).lines

pub count-requires-clause-sent : goal.count-requires-clause-sent
count-requires-clause-sent c =
    let held : Held = held_of c.self.inside.parts.items c.self.inside.memory c.self.inside.board c.self.inside.wiring c.self.inside.counts.items in
    (few_tallied held c.self.inside.tally c.step_all-act.result c.self.invariant.0 c.self.invariant.1.1 c.step_all-act.ensures.bytes).sent

pub returns-clause-world : goal.returns-clause-world
returns-clause-world c =
    let held : Held = held_of c.self.inside.parts.items c.self.inside.memory c.self.inside.board c.self.inside.wiring c.self.inside.counts.items in
    let new : Held = held_of c.step_all-act.new.parts.items c.step_all-act.new.memory c.step_all-act.new.board c.self.inside.wiring c.step_all-act.new.counts.items in
    (turned_as held new c.args.self.now c.lend_to.new.self c.args.part c.args.core c.step_all-act.result c.self.view_is c.lend_to.ensures c.step_all-act.ensures).world

pub returns-clause-line : goal.returns-clause-line
returns-clause-line c =
    let held : Held = held_of c.self.inside.parts.items c.self.inside.memory c.self.inside.board c.self.inside.wiring c.self.inside.counts.items in
    let new : Held = held_of c.step_all-act.new.parts.items c.step_all-act.new.memory c.step_all-act.new.board c.self.inside.wiring c.step_all-act.new.counts.items in
    let now : Snapshot = c.args.self.now in
    let inner = inner_there held now c.args.part c.args.part c.self.view_is c.requires.part refl in
    let within = there_in held now c.args.part c.self.view_is c.requires.part in
    let steps : c.steps-step.result ≡ (machine_at now.world.machines c.args.part).inner.steps =
    c.steps-step.ensures ∙ (ap (λ (p : Part). p.inner.steps) (c.index.ensures ∙ get_or_default held.parts c.args.part c.index.result.now no_part within) ∙ ap (λ (i : Inner). i.steps) (sym inner)) in
    ap (λ (n : ℕ). act_text (desc_at now.network c.args.part).name (n + 1) c.step_all-act.result) steps
    ∙ (turned_as held new now c.lend_to.new.self c.args.part c.args.core c.step_all-act.result c.self.view_is c.lend_to.ensures c.step_all-act.ensures).line

pub returns-clause-counted : goal.returns-clause-counted
returns-clause-counted c =
    let held : Held = held_of c.self.inside.parts.items c.self.inside.memory c.self.inside.board c.self.inside.wiring c.self.inside.counts.items in
    let new : Held = held_of c.step_all-act.new.parts.items c.step_all-act.new.memory c.step_all-act.new.board c.self.inside.wiring c.step_all-act.new.counts.items in
    (turned_as held new c.args.self.now c.lend_to.new.self c.args.part c.args.core c.step_all-act.result c.self.view_is c.lend_to.ensures c.step_all-act.ensures).counted

pub returns-clause-tally : goal.returns-clause-tally
returns-clause-tally c =
    let held : Held = held_of c.self.inside.parts.items c.self.inside.memory c.self.inside.board c.self.inside.wiring c.self.inside.counts.items in
    let new : Held = held_of c.step_all-act.new.parts.items c.step_all-act.new.memory c.step_all-act.new.board c.self.inside.wiring c.step_all-act.new.counts.items in
    let now : Snapshot = c.args.self.now in
    c.count.ensures ∙ (ap (after_act (act_of [] c.step_all-act.result)) (ap (λ (s : Snapshot). s.tally) c.self.view_is)
    ∙ (turned_as held new now c.lend_to.new.self c.args.part c.args.core c.step_all-act.result c.self.view_is c.lend_to.ensures c.step_all-act.ensures).tally)
