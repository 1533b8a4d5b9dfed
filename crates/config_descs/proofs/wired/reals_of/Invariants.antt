use Rattle.std.proofs.Common.{◌≡◌, take, map}
use Rattle.hv_config.specs.declared.config.AreaDef.{AreaDef}
use Rattle.config_descs.proofs.wired.reals_of.Given as goal

abbrev pub invariant-loop-area : goal.invariant-loop-area
invariant-loop-area l = l.reals ≡ map (λ (area : AreaDef). area.base) (take l.area-index l.areas)
