use Rattle.std.proofs.Common.{◌≡◌, ◌-◌}
use Rattle.network.specs.Entering.{enter_all}
use Rattle.network.specs.Turn.{given_at}
use Rattle.topaz_run.specs.Reported.{given_by}
use Rattle.topaz_run.proofs.turns.enter_everywhere.Given as goal

abbrev pub invariant-loop-console : goal.invariant-loop-console
invariant-loop-console l =
    let joined = l.fn.system.network in
    let given = given_at (given_by l.script) l.turn in
    record {
      network : l.system.network ≡ joined;
      tally : l.system.tally ≡ l.fn.system.tally;
      world : (enter_all joined given l.console (l.consoles - l.console) l.system.world).after ≡ (enter_all joined given 0 l.consoles l.fn.system.world).after;
    }
