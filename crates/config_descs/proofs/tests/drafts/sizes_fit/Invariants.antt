use Rattle.std.proofs.Common.{◌≡◌, ◌+◌, take, sum_by}
use Rattle.hv_config.specs.declared.config.AreaDef.{AreaDef}
use Rattle.machine_desc.specs.Limits.{most_bytes}
use Rattle.config_descs.proofs.tests.drafts.sizes_fit.Given as goal

abbrev pub invariant-loop-area : goal.invariant-loop-area
invariant-loop-area l = l.left + sum_by (λ (area : AreaDef). area.size) (take l.area-index l.areas) ≡ most_bytes
