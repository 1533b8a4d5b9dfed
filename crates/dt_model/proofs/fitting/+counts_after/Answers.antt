use Rattle.std.proofs.Common.{◌∙◌}
use Rattle.dt_model.proofs.Walks.{node_walk-none, node_walk-some}
use Rattle.dt_model.proofs.fitting.+counts_after.Goals as goal

pub returns-in_err-properties : goal.returns-in_err-properties
returns-in_err-properties t c =
    c.from_residual.ensures ∙ node_walk-none c.args.node.now c.args.depth c.args.before _ c.deref.ensures.value c.in_err-properties.ensures

pub loop-i-init : goal.loop-i-init
loop-i-init t c =
    node_walk-some c.args.node.now c.args.depth c.args.before _ _ _ c.deref.ensures.value c.deref-child-items.ensures.value c.in_ok-properties.ensures
