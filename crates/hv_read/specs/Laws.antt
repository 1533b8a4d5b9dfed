-- Laws of what bytes say.
use Rattle.std.specs.Prelude.{◌≡◌, ℕ, List}
use Rattle.dt_model.specs.declared.tree.Tree.{Tree}
use Rattle.dt_model.specs.Blob.{IsBlobOf}
use Rattle.hv_config.specs.Rule.{first_broken}
use Rattle.hv_config.specs.Meaning.{config_of}
use Rattle.hv_config.specs.Hardware.{first_broken_hardware, board_of}
use Rattle.hv_read.specs.Said.{tree_said}

-- what the tree says that the bytes are a blob of, is what the tree says that they say: as a configuration, and as hardware
pub record SaysTheSame (bytes : List ℕ) (tree : Tree) : Type 0 where
  pub config : config_of (tree_said bytes) ≡ config_of tree
  pub config_rules : first_broken (tree_said bytes) ≡ first_broken tree
  pub board : board_of (tree_said bytes) ≡ board_of tree
  pub hardware_rules : first_broken_hardware (tree_said bytes) ≡ first_broken_hardware tree

abbrev pub BlobsSayTheirTree : Type 0
BlobsSayTheirTree = (bytes : List ℕ) (tree : Tree) → IsBlobOf bytes tree → SaysTheSame bytes tree
