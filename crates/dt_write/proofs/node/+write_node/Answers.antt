use Rattle.std.proofs.Common.{◌≡◌, List, ◌<◌, ◌≤◌, ◌∙◌, length, map, get_or, subst}
use Rattle.std.proofs.lemmas.Result.{err_from_is_err_and, on_ok_weaker}
use Rattle.dt_model.specs.declared.tree.Node.{Node}
use Rattle.dt_model.specs.declared.tree.Property.{Property}
use Rattle.dt_model.specs.Node.{property_token}
use Rattle.dt_model.specs.Canonical.{most_bytes}
use Rattle.dt_write.specs.Layout.{Laid, with_tokens, size_of}
use Rattle.dt_write.proofs.Laying.{begin_large, properties_large, child_large, child_laid, end_laid}
use Rattle.dt_write.proofs.node.+write_node.Goals as goal

pub returns-in_err-begin-clause-too_large : goal.returns-in_err-begin-clause-too_large
returns-in_err-begin-clause-too_large t c =
    let p = err_from_is_err_and c.from_residual.result c.from_residual.ensures.1 in
    rw (p.1, p.2) (λ is. begin_large _ c.args.layout.now c.args.node.now (c.in_err-begin.ensures.too_large is))

pub returns-in_err-write_properties-clause-too_large :
    goal.returns-in_err-write_properties-clause-too_large
returns-in_err-write_properties-clause-too_large t c =
    let p = err_from_is_err_and c.from_residual-in_err-write_properties.result c.from_residual-in_err-write_properties.ensures.1 in
    rw (p.1, p.2) (λ is. properties_large most_bytes c.args.layout.now c.begin.new.self c.args.node.now c.in_ok-begin.ensures.laid
    (subst (λ (ps : List Property). most_bytes < size_of (with_tokens c.begin.new.self (map property_token ps))) c.deref.ensures.value
    (c.in_err-write_properties.ensures.too_large is)))

pub returns-in_err-write_node-clause-too_large : goal.returns-in_err-write_node-clause-too_large
returns-in_err-write_node-clause-too_large t c =
    let p = err_from_is_err_and c.from_residual-in_err-write_node.result c.from_residual-in_err-write_node.ensures.1 in
    let i = c.loop-child.child-index in
    let child = c.child-item.result in
    let lt = subst (λ (ns : List Node). i < length ns) c.deref-child-items.ensures.value c.loop-child-test.true in
    let is_child = subst (λ (ns : List Node). child ≡ get_or ns i child) c.deref-child-items.ensures.value c.child-item.is in
    rw (p.1, p.2) (λ is. child_large most_bytes c.args.layout.now c.loop-child.layout c.args.node.now i child lt is_child
    c.loop-child.invariant (c.in_err-write_node.ensures.too_large is))

pub loop-child-preserved : goal.loop-child-preserved
loop-child-preserved t c =
    let i = c.loop-child.child-index in
    let child = c.child-item.result in
    let lt = subst (λ (ns : List Node). i < length ns) c.deref-child-items.ensures.value c.loop-child-test.true in
    let is_child = subst (λ (ns : List Node). child ≡ get_or ns i child) c.deref-child-items.ensures.value c.child-item.is in
    c.in_ok-write_node.ensures.laid ∙ child_laid c.args.layout.now c.loop-child.layout c.args.node.now i child lt is_child c.loop-child.invariant

pub returns-clause-laid : goal.returns-clause-laid
returns-clause-laid t c =
    let last = subst (λ (ns : List Node). length ns ≤ c.loop-child.child-index) c.deref-child-items.ensures.value c.loop-child-test.false in
    on_ok_weaker c.end.result (λ is. is ∙ end_laid c.args.layout.now c.loop-child.layout c.args.node.now c.loop-child.child-index last c.loop-child.invariant)
    c.end.ensures.laid

pub returns-clause-too_large : goal.returns-clause-too_large
returns-clause-too_large t c =
    let last = subst (λ (ns : List Node). length ns ≤ c.loop-child.child-index) c.deref-child-items.ensures.value c.loop-child-test.false in
    let whole = end_laid c.args.layout.now c.loop-child.layout c.args.node.now c.loop-child.child-index last c.loop-child.invariant in
    λ is. subst (λ (laid : Laid). most_bytes < size_of laid) whole (c.end.ensures.too_large is)
