use Rattle.std.proofs.Common.{◌≡◌, ℕ, ◌+◌, ◌-◌, sym, ap, ◌∙◌, arith}
use Rattle.network.specs.Network.{Network}
use Rattle.network.specs.World.{World}
use Rattle.network.specs.Entering.{enter, enter_all, waiting}
use Rattle.network.specs.Turn.{given_at}
use Rattle.system.specs.System.{Snapshot}
use Rattle.topaz_run.specs.Reported.{given_by}
use Rattle.topaz_run.proofs.Rounds.{enters_next}
use Rattle.topaz_run.proofs.turns.enter_everywhere.Goals as goal

pub loop-console-preserved : goal.loop-console-preserved
loop-console-preserved c =
    let given = given_at (given_by c.args.script.now) c.args.turn in
    let here = c.loop-console.system in
    let joined = c.args.system.now.network in
    let console = c.loop-console.console in
    let kept = c.loop-console.invariant in
    let bytes = waiting (given console) here.world.consoles console in
    let world : c.enter_at.new.system.world ≡ (enter joined console bytes here.world).after =
    ap (λ (s : Snapshot). s.world) c.enter_at.ensures ∙ ap (λ (n : Network). (enter n console bytes here.world).after) kept.network in
    record {
      network = ap (λ (s : Snapshot). s.network) c.enter_at.ensures ∙ kept.network;
      tally = ap (λ (s : Snapshot). s.tally) c.enter_at.ensures ∙ kept.tally;
      world = ap (λ (w : World). (enter_all joined given (console + 1) (c.args.consoles - (console + 1)) w).after) world
          ∙ sym (enters_next joined given console c.args.consoles here.world c.loop-console-test.true) ∙ kept.world;
    }

pub returns : goal.returns
returns c =
    let given = given_at (given_by c.args.script.now) c.args.turn in
    let joined = c.args.system.now.network in
    let kept = c.loop-console.invariant in
    let none : c.args.consoles - c.loop-console.console ≡ 0 = omega (arith, c.loop-console-test.false) in
    let world : c.loop-console.system.world ≡ (enter_all joined given 0 c.args.consoles c.args.system.now.world).after =
    sym (ap (λ (n : ℕ). (enter_all joined given c.loop-console.console n c.loop-console.system.world).after) none) ∙ kept.world in
    λ i. record { network = kept.network i; world = world i; tally = kept.tally i }
