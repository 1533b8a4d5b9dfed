use Rattle.std.proofs.Common.{ℕ, List, Some, None, sym, ap, subst, ◌∙◌, arith}
use Rattle.outside.specs.Pieces.{Writes}
use Rattle.network.specs.World.{World, machine_at}
use Rattle.network.specs.Turn.{given_at}
use Rattle.network.specs.Tally.{after_lines}
use Rattle.system.specs.System.{Snapshot}
use Rattle.topaz_run.specs.Reported.{given_by}
use Rattle.topaz_run.proofs.Rounds.{turned_by, few_steps, steps_next}
use Rattle.topaz_run.proofs.Told.{shown_same, nothing_written}
use Rattle.topaz_run.proofs.Stays.{entering_stays}
use Rattle.topaz_run.proofs.turns.do_turn.Goals as goal

pub turn-requires : goal.turn-requires
turn-requires g c =
    let before = c.args.system.now in
    let entered = c.enter_everywhere.new.system.world in
    let given = given_at (given_by c.args.script.now) c.args.number in
    let is = ap (λ (s : Snapshot). s.world) c.enter_everywhere.ensures in
    record {
      few =
          few_steps c.args.number before.world entered c.requires.few c.requires.counted c.requires.small
          (λ part. ap (λ (w : World). (machine_at w.machines part).inner.steps) is ∙ entering_stays before.network given 0 c.args.consoles before.world part);
    }

pub returns-in-Some-clause-world : goal.returns-in-Some-clause-world
returns-in-Some-clause-world g c =
    let before = c.args.system.now in
    let entered = c.enter_everywhere.new.system in
    let turned = turned_by before.network (given_by c.args.script.now) c.args.number c.args.consoles before.world entered.world entered.network (Some c.in-Some.core) c.requires.system
    (ap (λ (s : Snapshot). s.world) c.enter_everywhere.ensures) (ap (λ (s : Snapshot). s.network) c.enter_everywhere.ensures) (sym c.in-Some.is ∙ c.core_at.ensures.value) in
    c.turn.ensures.world ∙ turned.after

pub returns-in-Some-clause-lines : goal.returns-in-Some-clause-lines
returns-in-Some-clause-lines g c =
    let before = c.args.system.now in
    let entered = c.enter_everywhere.new.system in
    let turned = turned_by before.network (given_by c.args.script.now) c.args.number c.args.consoles before.world entered.world entered.network (Some c.in-Some.core) c.requires.system
    (ap (λ (s : Snapshot). s.world) c.enter_everywhere.ensures) (ap (λ (s : Snapshot). s.network) c.enter_everywhere.ensures) (sym c.in-Some.is ∙ c.core_at.ensures.value) in
    subst (λ (text : List ℕ). Writes c.turn.result (g.S.Sink.taken c.args.out.now) (g.S.Sink.taken c.turn.new.out) (g.S.Sink.faults c.args.out.now) (g.S.Sink.faults c.turn.new.out) text)
    (shown_same c.args.show entered.network before.network _ _ (ap (λ (s : Snapshot). s.network) c.enter_everywhere.ensures) turned.lines) c.turn.ensures.lines

pub returns-in-Some-clause-steps : goal.returns-in-Some-clause-steps
returns-in-Some-clause-steps g c =
    let before = c.args.system.now in
    let entered = c.enter_everywhere.new.system.world in
    let given = given_at (given_by c.args.script.now) c.args.number in
    let is = ap (λ (s : Snapshot). s.world) c.enter_everywhere.ensures in
    steps_next c.args.number before.world entered c.turn.new.self.world c.requires.few c.requires.counted
    (λ part. ap (λ (w : World). (machine_at w.machines part).inner.steps) is ∙ entering_stays before.network given 0 c.args.consoles before.world part)
    c.turn.ensures.counted

pub returns-in-None-clause-world : goal.returns-in-None-clause-world
returns-in-None-clause-world g c =
    let before = c.args.system.now in
    let entered = c.enter_everywhere.new.system in
    let turned = turned_by before.network (given_by c.args.script.now) c.args.number c.args.consoles before.world entered.world entered.network (None) c.requires.system
    (ap (λ (s : Snapshot). s.world) c.enter_everywhere.ensures) (ap (λ (s : Snapshot). s.network) c.enter_everywhere.ensures) (sym c.in-None.is ∙ c.core_at.ensures.value) in
    turned.after

pub returns-in-None-clause-lines : goal.returns-in-None-clause-lines
returns-in-None-clause-lines g c =
    let before = c.args.system.now in
    let entered = c.enter_everywhere.new.system in
    let turned = turned_by before.network (given_by c.args.script.now) c.args.number c.args.consoles before.world entered.world entered.network (None) c.requires.system
    (ap (λ (s : Snapshot). s.world) c.enter_everywhere.ensures) (ap (λ (s : Snapshot). s.network) c.enter_everywhere.ensures) (sym c.in-None.is ∙ c.core_at.ensures.value) in
    nothing_written c.args.show before.network _ tt (g.S.Sink.taken c.args.out.now) (g.S.Sink.faults c.args.out.now) turned.lines

pub returns-in-None-clause-steps : goal.returns-in-None-clause-steps
returns-in-None-clause-steps g c =
    let before = c.args.system.now in
    let entered = c.enter_everywhere.new.system.world in
    let given = given_at (given_by c.args.script.now) c.args.number in
    let is = ap (λ (s : Snapshot). s.world) c.enter_everywhere.ensures in
    steps_next c.args.number before.world entered entered c.requires.few c.requires.counted
    (λ part. ap (λ (w : World). (machine_at w.machines part).inner.steps) is ∙ entering_stays before.network given 0 c.args.consoles before.world part)
    (λ part. omega arith)

pub returns-in-Some-clause-tally : goal.returns-in-Some-clause-tally
returns-in-Some-clause-tally g c =
    let before = c.args.system.now in
    let entered = c.enter_everywhere.new.system in
    let turned = turned_by before.network (given_by c.args.script.now) c.args.number c.args.consoles before.world entered.world entered.network (Some c.in-Some.core) c.requires.system
    (ap (λ (s : Snapshot). s.world) c.enter_everywhere.ensures) (ap (λ (s : Snapshot). s.network) c.enter_everywhere.ensures) (sym c.in-Some.is ∙ c.core_at.ensures.value) in
    c.turn.ensures.tally ∙ (λ i. after_lines (turned.lines i) (ap (λ (s : Snapshot). s.tally) c.enter_everywhere.ensures i))

pub returns-in-None-clause-tally : goal.returns-in-None-clause-tally
returns-in-None-clause-tally g c =
    let before = c.args.system.now in
    let entered = c.enter_everywhere.new.system in
    let turned = turned_by before.network (given_by c.args.script.now) c.args.number c.args.consoles before.world entered.world entered.network (None) c.requires.system
    (ap (λ (s : Snapshot). s.world) c.enter_everywhere.ensures) (ap (λ (s : Snapshot). s.network) c.enter_everywhere.ensures) (sym c.in-None.is ∙ c.core_at.ensures.value) in
    ap (λ (s : Snapshot). s.tally) c.enter_everywhere.ensures ∙ (λ i. after_lines (turned.lines i) before.tally)
