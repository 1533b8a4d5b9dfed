use Rattle.std.proofs.Common.{◌≡◌, drop}
use Rattle.std.specs.Prelude.{find}
use Rattle.std.specs.Option.{option_map}
use Rattle.std.specs.Str.{bytes_eq}
use Rattle.dt_model.specs.Node.{value_of}
use Rattle.dt_model.proofs.lookup.prop.Given as goal

abbrev pub invariant-loop-property : goal.invariant-loop-property
invariant-loop-property l =
    option_map (λ property. property.value) (find (λ property. bytes_eq property.name l.name) (drop l.property-index l.property-items)) ≡ value_of l.node l.name
