-- What a tree says, by its tokens.
use Rattle.std.proofs.Common.{◌≡◌, List, sym, ap, ◌∙◌}
use Rattle.dt_model.specs.declared.tree.Node.{Node}
use Rattle.dt_model.specs.declared.tree.Tree.{Tree}
use Rattle.dt_model.specs.Token.{Token}
use Rattle.dt_model.specs.Node.{tokens_of}
use Rattle.hv_config.specs.Rule.{first_broken, first_broken_among}
use Rattle.hv_config.specs.Meaning.{config_in, config_of}
use Rattle.hv_config.specs.Device.{devices_of}
use Rattle.hv_config.specs.Memory.{memory_in}
use Rattle.hv_config.specs.Hardware.{board_in, board_of, first_broken_in, first_broken_hardware}
use Rattle.hv_read.specs.Said.{parts_of, first_child}
use Rattle.hv_read.proofs.Said.{root-put}
use Rattle.hv_read.proofs.Config.{config-remade, root_seats, rules-remade}
use Rattle.hv_read.proofs.Board.{board-remade, hardware-remade}

-- the root that the tokens say
abbrev pub root_in : List Token → Node
root_in tokens = first_child (parts_of tokens)

pub config-said : (tree : Tree) (tokens : List Token) → tokens_of tree ≡ tokens → config_of tree ≡ config_in (root_in tokens)
config-said tree tokens same =
    sym (config-remade tree.root) ∙ ap config_in (sym (root-put tree)) ∙ ap (λ (ts : List Token). config_in (root_in ts)) same

pub rules-said : (tree : Tree) (tokens : List Token) → tokens_of tree ≡ tokens → first_broken tree ≡ first_broken_among (root_seats (root_in tokens))
rules-said tree tokens same =
    sym (rules-remade tree.root) ∙ ap (λ (node : Node). first_broken_among (root_seats node)) (sym (root-put tree))
    ∙ ap (λ (ts : List Token). first_broken_among (root_seats (root_in ts))) same

pub board-said : (tree : Tree) (tokens : List Token) → tokens_of tree ≡ tokens → board_of tree ≡ board_in (devices_of (root_in tokens))
board-said tree tokens same =
    sym (board-remade tree.root) ∙ ap (λ (node : Node). board_in (devices_of node)) (sym (root-put tree))
    ∙ ap (λ (ts : List Token). board_in (devices_of (root_in ts))) same

pub hardware-said : (tree : Tree) (tokens : List Token) → tokens_of tree ≡ tokens
    → first_broken_hardware tree ≡ first_broken_in (devices_of (root_in tokens)) (memory_in (devices_of (root_in tokens)))
hardware-said tree tokens same =
    sym (hardware-remade tree.root) ∙ ap (λ (node : Node). first_broken_in (devices_of node) (memory_in (devices_of node))) (sym (root-put tree))
    ∙ ap (λ (ts : List Token). first_broken_in (devices_of (root_in ts)) (memory_in (devices_of (root_in ts)))) same
