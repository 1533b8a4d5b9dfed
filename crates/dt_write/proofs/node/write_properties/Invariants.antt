use Rattle.std.proofs.Common.{◌≡◌, map, take}
use Rattle.dt_model.specs.Node.{property_token}
use Rattle.dt_write.specs.Layout.{with_tokens}
use Rattle.dt_write.proofs.node.write_properties.Given as goal

abbrev pub invariant-loop-property : goal.invariant-loop-property
invariant-loop-property l = l.layout ≡ with_tokens l.fn.layout (map property_token (take l.property-index l.properties))
