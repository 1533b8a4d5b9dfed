use Rattle.std.proofs.Common.{◌≡◌, ◌-◌, ◌^◌, min, take, sum_by}
use Rattle.hv_config.specs.declared.config.AreaDef.{AreaDef}
use Rattle.config_checks.proofs.areas.sum_of.Given as goal

abbrev pub invariant-loop-area : goal.invariant-loop-area
invariant-loop-area l = l.sum ≡ min (sum_by (λ (area : AreaDef). area.size) (take l.area-index l.areas)) (2 ^ 64 - 1)
