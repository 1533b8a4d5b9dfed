use Rattle.std.proofs.Common.{ap, sym, ◌∙◌}
use Rattle.std.specs.Prelude.{find}
use Rattle.std.specs.Option.{option_map}
use Rattle.dt_model.specs.Node.{is_phandle}
use Rattle.dt_model.proofs.Below.{below_all, nodes_below-out, first_node-below, find-after}
use Rattle.dt_model.proofs.lookup.+phandle_below.Goals as goal

pub loop-child-init : goal.loop-child-init
loop-child-init t c = λ before.
    ap (λ places. find (λ place. is_phandle c.args.number place.1) places) (ap (below_all before) c.deref-child-items.ensures.value ∙ sym (nodes_below-out c.args.node.now before))

pub returns-in-Some : goal.returns-in-Some
returns-in-Some t c = λ before.
    first_node-below (λ place. is_phandle c.args.number place.1) before _ c.loop-child.child-index c.child-item.result c.in-Some.found.now c.loop-child-test.true c.child-item.is
    (sym c.has_phandle.ensures ∙ c.if-has_phandle.false) (c.in-Some.ensures _)
    ∙ ap (option_map (λ place. place.1)) (c.loop-child.invariant before)

pub loop-child-preserved : goal.loop-child-preserved
loop-child-preserved t c = λ before.
    sym (find-after (λ place. is_phandle c.args.number place.1) before _ c.loop-child.child-index c.child-item.result c.loop-child-test.true c.child-item.is
    (sym c.has_phandle.ensures ∙ c.if-has_phandle.false) (c.in_default.ensures _))
    ∙ c.loop-child.invariant before
