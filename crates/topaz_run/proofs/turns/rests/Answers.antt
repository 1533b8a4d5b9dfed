use Rattle.std.proofs.Common.{◌≡◌, [], sym, ◌∙◌, arith}
use Rattle.network.specs.Entering.{waiting}
use Rattle.network.specs.Turn.{given_at}
use Rattle.topaz_run.specs.Reported.{given_by}
use Rattle.topaz_run.proofs.Rounds.{no_bytes, one_more}
use Rattle.topaz_run.proofs.turns.rests.Goals as goal

pub loop-console-preserved : goal.loop-console-preserved
loop-console-preserved c =
    one_more (λ console. waiting (given_at (given_by c.args.script.now) c.args.turns console) c.args.system.now.world.consoles console ≡ []) c.loop-console.console c.loop-console.invariant
    (sym c.waiting_bytes.ensures ∙ no_bytes c.waiting_bytes.result.now c.is_empty.result c.is_empty.ensures c.if-not-is_empty.false)

pub returns-clause-entered : goal.returns-clause-entered
returns-clause-entered c = λ rests console few. c.loop-console.invariant console (omega (arith, few, c.loop-console-test.false))
