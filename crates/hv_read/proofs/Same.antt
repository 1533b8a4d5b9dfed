-- What a blob says is what its tree says.
use Rattle.std.proofs.Common.{ℕ, List, ap, ◌∙◌}
use Rattle.dt_model.specs.declared.tree.Node.{Node}
use Rattle.dt_model.specs.declared.tree.Tree.{Tree}
use Rattle.dt_model.specs.Blob.{IsBlobOf}
use Rattle.hv_config.specs.Rule.{first_broken_among}
use Rattle.hv_config.specs.Meaning.{config_in}
use Rattle.hv_config.specs.Device.{devices_of}
use Rattle.hv_config.specs.Memory.{memory_in}
use Rattle.hv_config.specs.Hardware.{board_in, first_broken_in}
use Rattle.hv_read.specs.Laws.{SaysTheSame}
use Rattle.hv_read.proofs.Said.{root-said}
use Rattle.hv_read.proofs.Config.{config-remade, root_seats, rules-remade}
use Rattle.hv_read.proofs.Board.{board-remade, hardware-remade}

pub says_the_same : (bytes : List ℕ) (tree : Tree) → IsBlobOf bytes tree → SaysTheSame bytes tree
says_the_same bytes tree blob =
    let root = root-said bytes tree blob in
    record {
      config = ap config_in root ∙ config-remade tree.root;
      config_rules = ap (λ (node : Node). first_broken_among (root_seats node)) root ∙ rules-remade tree.root;
      board = ap (λ (node : Node). board_in (devices_of node)) root ∙ board-remade tree.root;
      hardware_rules = ap (λ (node : Node). first_broken_in (devices_of node) (memory_in (devices_of node))) root ∙ hardware-remade tree.root;
    }
