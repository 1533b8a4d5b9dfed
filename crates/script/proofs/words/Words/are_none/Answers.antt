use Rattle.std.proofs.Common.{◌≡◌, List, ℕ, length, subst}
use Rattle.std.specs.Prelude.{◌==◌}
use Rattle.script.proofs.Parts.{none_left}
use Rattle.script.proofs.words.Words.are_none.Goals as goal

pub returns : goal.returns
returns c =
    subst (λ (words : List (List ℕ)). c.is_none.result ≡ (length words == 0)) c.self.view_is (none_left c.self.inside.rest c.is_none.result c.is_none.ensures)
