use Rattle.std.proofs.Common.{◌≡◌}
use Rattle.network.specs.Turn.{run}
use Rattle.network.specs.Tally.{tally_of}
use Rattle.system.specs.Shown.{shown}
use Rattle.topaz_run.specs.Reported.{given_by}
use Rattle.topaz_run.specs.Turns.{StepsAtMost}
use Rattle.topaz_run.proofs.turns.run_turns.Given as goal

abbrev pub invariant-loop-done : goal.invariant-loop-done
invariant-loop-done l =
    let joined = l.fn.system.network in
    record {
      network : l.system.network ≡ joined;
      world : l.system.world ≡ (run joined (given_by l.script) l.done).after;
      steps : StepsAtMost l.done l.system.world;
      lines : l.text.text ≡ shown l.show joined (run joined (given_by l.script) l.done).lines;
      tally : l.system.tally ≡ tally_of (run joined (given_by l.script) l.done).lines;
    }
