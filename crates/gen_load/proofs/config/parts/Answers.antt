use Rattle.std.proofs.Common.{[]}
use Rattle.dt_make.proofs.Made.{nodes_more}
use Rattle.gen_load.specs.Tokens.{part_tokens}
use Rattle.gen_load.proofs.config.parts.Goals as goal

pub loop-place-preserved : goal.loop-place-preserved
loop-place-preserved c =
    nodes_more (part_tokens c.args.count) [] c.loop-place.nodes.items c.push.new.self.items c.in_ok-part.field-0 c.loop-place.place c.loop-place.invariant
    c.in_ok-push.ensures.items c.in_ok-part.ensures
