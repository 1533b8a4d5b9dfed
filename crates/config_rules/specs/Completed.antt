-- Descriptions of the partitions of a configuration, once their images and device trees are there.
use Rattle.std.specs.Prelude.{◌≡◌, ◌%◌, Bool, true, ◌&&◌, nat_lt, ◌==◌, List, [], map}
use Rattle.std.specs.List.{list_all}
use Rattle.hv_config.specs.declared.config.Config.{Config}
use Rattle.machine_desc.specs.declared.desc.Desc.{Desc}
use Rattle.machine_desc.specs.Limits.{mapped_end}
use Rattle.machine_desc.specs.Sound.{is_private_piece}
use Rattle.config_descs.specs.Desc.{descs_of}

-- the description with entry 0 and without pieces
unfoldable pub stripped : Desc → Desc
stripped desc = record {
  name = desc.name;
  regions = desc.regions;
  cores = desc.cores;
  ports = desc.ports;
  tree_at = desc.tree_at;
  tree_size = desc.tree_size;
  entry = 0;
  held = desc.held;
  pieces = [];
}

-- its entry is mapped as it starts and is that of an instruction, and its pieces are private
unfoldable pub is_startable : Desc → Bool
is_startable desc = nat_lt desc.entry mapped_end && desc.entry % 4 == 0 && list_all (is_private_piece desc.regions) desc.pieces

-- They are those of the partitions but for entries and pieces, which can be started from.
pub record AreCompleted (config : Config) (descs : List Desc) : Type 0 where
  pub bases : map stripped descs ≡ descs_of config
  pub starts : list_all is_startable descs ≡ true
