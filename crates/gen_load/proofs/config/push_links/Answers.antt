use Rattle.std.specs.List.{flat_map}
use Rattle.dt_model.specs.Node.{node_tokens}
use Rattle.dt_make.proofs.Made.{nodes_more}
use Rattle.gen_load.specs.Tokens.{link_tokens}
use Rattle.gen_load.proofs.config.push_links.Goals as goal

pub loop-place-preserved : goal.loop-place-preserved
loop-place-preserved c =
    nodes_more link_tokens (flat_map node_tokens c.args.nodes.now.items) c.loop-place.nodes.items c.push.new.self.items c.in_ok-without_console.field-0 c.loop-place.place c.loop-place.invariant
    c.in_ok-push.ensures.items c.in_ok-without_console.ensures
