use Rattle.std.proofs.Common.{◌≡◌, [], take, drop, map}
use Rattle.dt_model.specs.Walk.{property_walk}
use Rattle.dt_model.proofs.fitting.properties_after.Given as goal

abbrev pub invariant-loop-i : goal.invariant-loop-i
invariant-loop-i l =
    property_walk (map (λ property. property.name) (take l.i l.properties)) (drop l.i l.properties) l.count
    ≡ property_walk [] l.properties l.before
