-- What a rule looks at of the lines before, and what they come to.
use Rattle.std.specs.Prelude.{ℕ, List, length, Option}
use Rattle.script.specs.declared.names.Names.{Names}
use Rattle.script.specs.Course.{Given, said, latest_turn, order_in, given_by_lines}

-- how many lines there were, the latest turn, the cores of an `order`, and what each console is given
pub record Kept : Type 0 where
  pub place : ℕ
  pub latest : ℕ
  pub order : Option (List ℕ)
  pub inputs : List (List Given)

-- the same of these lines
unfoldable pub kept_of : Names → List (List ℕ) → Kept
kept_of names lines = record {
  place = length lines;
  latest = latest_turn (said names lines);
  order = order_in (said names lines);
  inputs = given_by_lines (length names.consoles) (said names lines);
}
