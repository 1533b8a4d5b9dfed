use Rattle.std.proofs.Common.{◌<◌, sym, ap, subst, ◌∙◌, length, arith}
use Rattle.network.specs.Entering.{enter}
use Rattle.system.specs.System.{Held, Snapshot}
use Rattle.system.proofs.Counted.{small_counts}
use Rattle.system.proofs.Entered.{consoles_long, entered_from}
use Rattle.system.proofs.system.System.enter.Goals as goal

pub enter_at-requires-clause-console : goal.enter_at-requires-clause-console
enter_at-requires-clause-console c =
    let held : Held = record {
      parts = c.self.inside.parts.items;
      memory = c.self.inside.memory;
      lines = c.self.inside.board;
      wiring = c.self.inside.wiring;
      counts = c.self.inside.counts.items;
    } in
    let here : c.args.console < length held.wiring.consoles = subst (λ (now : Snapshot). c.args.console < length now.network.wiring.consoles) (sym c.self.view_is) c.requires.console in
    let long = consoles_long held c.self.invariant.0 in
    omega (arith, here, long)

pub enter_at-requires-clause-few : goal.enter_at-requires-clause-few
enter_at-requires-clause-few c =
    let held : Held = record {
      parts = c.self.inside.parts.items;
      memory = c.self.inside.memory;
      lines = c.self.inside.board;
      wiring = c.self.inside.wiring;
      counts = c.self.inside.counts.items;
    } in
    (small_counts held c.self.invariant.0).entered c.args.console

pub invariant_of-self : goal.invariant_of-self
invariant_of-self c =
    let held : Held = record {
      parts = c.self.inside.parts.items;
      memory = c.self.inside.memory;
      lines = c.self.inside.board;
      wiring = c.self.inside.wiring;
      counts = c.self.inside.counts.items;
    } in
    let here : c.args.console < length held.wiring.consoles = subst (λ (now : Snapshot). c.args.console < length now.network.wiring.consoles) (sym c.self.view_is) c.requires.console in
    ((entered_from held c.args.console c.enter_at.result c.args.bytes.now c.enter_at.new.board c.enter_at.new.counts.items c.self.invariant.0 here c.enter_at.ensures.count c.enter_at.ensures.board c.enter_at.ensures.counts).kept, c.self.invariant.1)

pub returns-clause-entered : goal.returns-clause-entered
returns-clause-entered c =
    let held : Held = record {
      parts = c.self.inside.parts.items;
      memory = c.self.inside.memory;
      lines = c.self.inside.board;
      wiring = c.self.inside.wiring;
      counts = c.self.inside.counts.items;
    } in
    let here : c.args.console < length held.wiring.consoles = subst (λ (now : Snapshot). c.args.console < length now.network.wiring.consoles) (sym c.self.view_is) c.requires.console in
    (entered_from held c.args.console c.enter_at.result c.args.bytes.now c.enter_at.new.board c.enter_at.new.counts.items c.self.invariant.0 here c.enter_at.ensures.count c.enter_at.ensures.board c.enter_at.ensures.counts).view c.self.inside.tally
    ∙ ap (λ (now : Snapshot). let next : Snapshot = record now { world = (enter now.network c.args.console c.args.bytes.now now.world).after } in next) c.self.view_is
