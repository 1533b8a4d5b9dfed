use Rattle.std.proofs.Common.{◌∙◌}
use Rattle.std.proofs.lemmas.Result.{err_from_is_err_and}
use Rattle.dt_write.proofs.Laying.{property_large, property_laid}
use Rattle.dt_write.proofs.node.write_properties.Goals as goal

pub returns-in_err-property-clause-too_large : goal.returns-in_err-property-clause-too_large
returns-in_err-property-clause-too_large c =
    let p = err_from_is_err_and c.from_residual.result c.from_residual.ensures.1 in
    rw (p.1, p.2) (λ is. property_large _ c.args.layout.now c.loop-property.layout c.args.properties.now c.loop-property.property-index
    c.property-item.result c.loop-property-test.true c.property-item.is c.loop-property.invariant (c.in_err-property.ensures.too_large is))

pub loop-property-preserved : goal.loop-property-preserved
loop-property-preserved c =
    c.in_ok-property.ensures.laid
    ∙ property_laid c.args.layout.now c.loop-property.layout c.args.properties.now c.loop-property.property-index
    c.property-item.result c.loop-property-test.true c.property-item.is c.loop-property.invariant
