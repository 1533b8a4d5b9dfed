-- A text that is gathered in memory.
use Rattle.std.specs.Prelude.{ℕ, Bool, List}

-- what was taken, how often memory was refused, and whether all is flushed
pub record Text : Type 0 where
  pub text : List ℕ
  pub faults : ℕ
  pub is_flushed : Bool
