-- What the numbers of descriptions rest on.
use Rattle.std.specs.Prelude.{◌≤◌, length, All, sum_by}
use Rattle.hv_config.specs.declared.config.AreaDef.{AreaDef}
use Rattle.hv_config.specs.declared.config.PartDef.{PartDef}
use Rattle.hv_config.specs.declared.config.Config.{Config}
use Rattle.machine_desc.specs.Limits.{most_handles, most_bytes}
use Rattle.config_checks.specs.Limits.{most_areas}

-- the counts and the sum that a configuration without a broken rule keeps
pub record KeepsLimits (config : Config) : Type 0 where
  pub areas : length config.areas ≤ most_areas
  pub sizes : sum_by (λ (area : AreaDef). area.size) config.areas ≤ most_bytes
  pub handles : All (λ (part : PartDef). length part.handles ≤ most_handles) config.parts
