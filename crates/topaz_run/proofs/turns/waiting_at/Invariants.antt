use Rattle.std.proofs.Common.{◌≡◌, ℕ, ◌<◌, length, slice_index_or}
use Rattle.network.specs.Entering.{waiting}
use Rattle.network.specs.Turn.{given_at}
use Rattle.topaz_run.specs.Reported.{given_by}
use Rattle.topaz_run.proofs.turns.waiting_at.Given as goal

abbrev pub invariant-loop-console : goal.invariant-loop-console
invariant-loop-console l = record {
  count : length l.waiting.items ≡ l.console;
  each : (console : ℕ) → console < l.console → slice_index_or l.waiting.items console 0 ≡ length (waiting (given_at (given_by l.script) l.turns console) l.system.world.consoles console);
}
