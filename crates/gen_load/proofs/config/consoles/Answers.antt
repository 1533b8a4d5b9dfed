use Rattle.std.proofs.Common.{[]}
use Rattle.dt_make.proofs.Made.{nodes_more}
use Rattle.gen_load.specs.Tokens.{console_tokens}
use Rattle.gen_load.proofs.config.consoles.Goals as goal

pub loop-place-preserved : goal.loop-place-preserved
loop-place-preserved c =
    nodes_more console_tokens [] c.loop-place.nodes.items c.push.new.self.items c.in_ok-with_console.field-0 c.loop-place.place c.loop-place.invariant
    c.in_ok-push.ensures.items c.in_ok-with_console.ensures
