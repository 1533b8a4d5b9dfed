use Rattle.std.proofs.Common.{[], arith}
use Rattle.std.proofs.lemmas.List.FromFn.{map-range_with_len_more}
use Rattle.script.specs.Course.{given_to}
use Rattle.script.proofs.reading.no_inputs.Goals as goal

pub loop-console-preserved : goal.loop-console-preserved
loop-console-preserved c =
    let more = map-range_with_len_more (given_to []) 0 c.loop-console._console c.loop-console._console (omega arith) in
    rw (more, ← c.loop-console.invariant, ← c.new.ensures) c.in_ok-push.ensures.items
