-- The device tree of a partition's guest.
use Rattle.std.specs.Prelude.{◌≡◌, ◌≤◌, ◌+◌, ℕ, List, []}
use Rattle.hv_config.specs.declared.config.PartDef.{PartDef}
use Rattle.hv_config.specs.declared.config.Config.{Config}
use Rattle.machine_desc.specs.Limits.{spin_room, mapped_end}
use Rattle.dt_model.specs.declared.tree.Tree.{Tree}
use Rattle.dt_model.specs.Node.{tokens_of, rows_of}
use Rattle.dt_model.specs.Canonical.{blob_saying}
use Rattle.guest_tree.specs.Tokens.{guest_tokens}
use Rattle.guest_tree.specs.Rows.{guest_rows}

-- The window for the device tree has room for spin entries, and lies in what is mapped as the partition starts.
pub record HasSpinRoom (part : PartDef) : Type 0 where
  pub room : spin_room ≤ part.tree_size
  pub mapped : part.tree_at + part.tree_size ≤ mapped_end

-- Nothing is reserved, the first core boots, and the nodes and properties are the partition's.
pub record IsGuestTree (config : Config) (part : PartDef) (tree : Tree) : Type 0 where
  pub reserve : tree.reserve.items ≡ []
  pub boot_cpu : tree.boot_cpu ≡ 0
  pub rows : rows_of tree ≡ guest_rows config part
  pub tokens : tokens_of tree ≡ guest_tokens config part

-- the canonical blob of that tree
unfoldable pub guest_blob : Config → PartDef → List ℕ
guest_blob config part = blob_saying 0 [] (guest_tokens config part)
