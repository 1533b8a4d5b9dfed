-- Configurations that are accepted on some hardware.
use Rattle.std.specs.Prelude.{◌≡◌, None}
use Rattle.hv_config.specs.declared.config.Config.{Config}
use Rattle.hv_config.specs.declared.board.Board.{Board}
use Rattle.hv_config.specs.Plain.{IsPlain}
use Rattle.config_checks.specs.Rules.{first_broken}

-- It is such as is read from a tree, and breaks no rule on that hardware.
pub record IsAccepted (config : Config) : Type 0 where
  pub board : Board
  pub none : first_broken config board ≡ None
  pub plain : IsPlain config
