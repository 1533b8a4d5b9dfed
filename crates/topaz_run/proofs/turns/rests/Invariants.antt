use Rattle.std.proofs.Common.{◌≡◌, ℕ, ◌<◌, []}
use Rattle.network.specs.Entering.{waiting}
use Rattle.network.specs.Turn.{given_at}
use Rattle.topaz_run.specs.Reported.{given_by}
use Rattle.topaz_run.proofs.turns.rests.Given as goal

abbrev pub invariant-loop-console : goal.invariant-loop-console
invariant-loop-console l = (console : ℕ) → console < l.console → waiting (given_at (given_by l.script) l.turns console) l.system.world.consoles console ≡ []
