-- What each partition of an accepted configuration keeps.
use Rattle.std.specs.Prelude.{◌≡◌, ◌+◌, ◌==◌, Bool, true, ◌&&◌, nat_le, length}
use Rattle.std.specs.List.{list_all}
use Rattle.hv_config.specs.declared.config.PartDef.{PartDef}
use Rattle.hv_config.specs.declared.config.Config.{Config}
use Rattle.machine_desc.specs.declared.desc.Desc.{Desc}
use Rattle.machine_desc.specs.Limits.{most_regions, most_handles, most_cores, mapped_end, spin_room}
use Rattle.machine_desc.specs.Private.{is_private_range}
use Rattle.config_descs.specs.Desc.{descs_of}

-- few guest areas, handles and cores
abbrev pub is_small : PartDef → Bool
is_small part =
    nat_le (length part.areas) most_regions && nat_le (length part.handles) most_handles && nat_le (length part.cpus) most_cores

-- one core, until partitions have several
abbrev pub has_one_core : PartDef → Bool
has_one_core part = length part.cpus == 1

-- The window for its device tree is private, is mapped as it starts, and has room for spin entries.
unfoldable pub has_window : Desc → Bool
has_window desc =
    is_private_range desc.regions desc.tree_at desc.tree_size
    && nat_le (desc.tree_at + desc.tree_size) mapped_end
    && nat_le spin_room desc.tree_size

pub record KeepsParts (config : Config) : Type 0 where
  pub small : list_all is_small config.parts ≡ true
  pub cores : list_all has_one_core config.parts ≡ true
  pub windows : list_all has_window (descs_of config) ≡ true
