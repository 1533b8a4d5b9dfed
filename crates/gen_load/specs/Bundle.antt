-- The bundle that a number makes.
use Rattle.std.specs.Prelude.{◌≡◌, ◌≤◌, ℕ, None, length}
use Rattle.dt_model.specs.declared.tree.Tree.{Tree}
use Rattle.dt_model.specs.Fit.{Fits}
use Rattle.dt_model.specs.Canonical.{canonical}
use Rattle.hv_config.specs.declared.config.Config.{Config}
use Rattle.hv_config.specs.declared.board.Board.{Board}
use Rattle.hv_config.specs.Rule.{first_broken}
use Rattle.hv_config.specs.Meaning.{config_of}
use Rattle.hv_config.specs.Hardware.{first_broken_hardware, board_of}
use Rattle.gen_load.specs.declared.bundle.Bundle.{Bundle}
use Rattle.gen_load.specs.Draws.{count_of}
use Rattle.gen_load.specs.Meant.{generated_config, generated_board}
use Rattle.gen_load.specs.Files.{images_of, script_text}

-- the most bytes that the blob of a tree has
abbrev pub largest_blob : ℕ
largest_blob = 16384

-- A blob can hold the tree, and is small.
pub record IsSmall (tree : Tree) : Type 0 where
  pub fits : Fits tree
  pub short : length (canonical tree) ≤ largest_blob

-- The tree breaks none of the rules C1 to C4, and says this configuration.
pub record SaysConfig (tree : Tree) (config : Config) : Type 0 where
  pub small : IsSmall tree
  pub rules : first_broken tree ≡ None
  pub meaning : config_of tree ≡ config

-- The tree breaks none of the rules H1 to H4, and says this hardware.
pub record SaysBoard (tree : Tree) (board : Board) : Type 0 where
  pub small : IsSmall tree
  pub rules : first_broken_hardware tree ≡ None
  pub meaning : board_of tree ≡ board

pub record IsBundleOf (number : ℕ) (bundle : Bundle) : Type 0 where
  pub config : SaysConfig bundle.config (generated_config (count_of number))
  pub hardware : SaysBoard bundle.hardware (generated_board (count_of number))
  pub images : bundle.images ≡ images_of number
  pub script : bundle.script ≡ script_text number
