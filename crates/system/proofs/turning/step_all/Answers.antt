use Rattle.std.proofs.Common.{ℕ, List, sym, ap, subst, ◌∙◌}
use Rattle.core_step.specs.declared.answer.Wrote.{Wrote}
use Rattle.machine_desc.specs.declared.act.Act.{Act as Told}
use Rattle.partition.specs.Port.{kinds_of}
use Rattle.partition.specs.Lending.{AreTold}
use Rattle.system.specs.Board.{told_by}
use Rattle.system.specs.System.{Held, part_at}
use Rattle.system.specs.Turning.{Follows, held_of}
use Rattle.system.proofs.Given.{step_gives}
use Rattle.system.proofs.Telling.{told_so}
use Rattle.system.proofs.Turned.{did_keeps, lent_kinds, asks, turned}
use Rattle.system.proofs.turning.step_all.Goals as goal

pub step_part-act-requires-clause-kinds : goal.step_part-act-requires-clause-kinds
step_part-act-requires-clause-kinds c =
    let held : Held = held_of c.args.parts.now.items c.args.memory.now c.args.board.now c.args.wiring.now c.args.counts.now.items in
    lent_kinds held c.requires.system c.requires.who ∙ ap (λ (n : ℕ). kinds_of (part_at c.args.parts.now.items n).desc.ports) (sym c.who-who.ensures)

pub step_part-act-requires-clause-told : goal.step_part-act-requires-clause-told
step_part-act-requires-clause-told c =
    let held : Held = held_of c.args.parts.now.items c.args.memory.now c.args.board.now c.args.wiring.now c.args.counts.now.items in
    subst (λ (n : ℕ). AreTold (told_by c.args.board.now) (part_at c.args.parts.now.items n).desc c.args.memory.now) (sym c.who-who.ensures) (told_so held c.requires.system c.requires.who)

pub follow-requires : goal.follow-requires
follow-requires c =
    let held : Held = held_of c.args.parts.now.items c.args.memory.now c.args.board.now c.args.wiring.now c.args.counts.now.items in
    record { asks = asks held c.step_part-act.new.parts.items c.step_part-act.new.memory c.step_part-act.new.board c.args.core c.step_part-act.result.act c.step_part-act.result.shared.items c.requires.system c.requires.who c.step_part-act.ensures }

pub returns : goal.returns
returns c =
    let held : Held = held_of c.args.parts.now.items c.args.memory.now c.args.board.now c.args.wiring.now c.args.counts.now.items in
    let copied = c.step_part-act.ensures in
    let act : Told = c.step_part-act.result.act in
    let k = did_keeps act c.args.board.now c.step_part-act.new.board
    (step_gives c.args.parts.now.items c.step_part-act.new.parts.items c.args.memory.now copied.memory c.args.board.now c.step_part-act.new.board c.args.core act c.step_part-act.result.shared.items copied.step) in
    turned held c.step_part-act.new.parts.items c.follow.new.parts.items c.step_part-act.new.memory c.follow.new.memory c.step_part-act.new.board c.follow.new.board c.args.core act c.step_part-act.result.shared.items
    c.follow.new.counts.items c.requires.system c.requires.who c.requires.few copied
    (subst
    (λ (n : ℕ).
    Follows c.args.wiring.now n act c.step_part-act.result.shared.items c.step_part-act.new.parts.items c.follow.new.parts.items c.step_part-act.new.memory c.follow.new.memory c.step_part-act.new.board c.follow.new.board
    c.args.counts.now.items c.follow.new.counts.items)
    k.who
    (subst
    (λ (stored : List Wrote).
    Follows c.args.wiring.now c.step_part-act.new.board.who act stored c.step_part-act.new.parts.items c.follow.new.parts.items c.step_part-act.new.memory c.follow.new.memory c.step_part-act.new.board c.follow.new.board
    c.args.counts.now.items c.follow.new.counts.items)
    c.as_slice.ensures.value c.follow.ensures))
