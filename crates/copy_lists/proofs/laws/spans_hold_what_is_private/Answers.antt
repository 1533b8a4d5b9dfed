use Rattle.copy_lists.proofs.Meaning.{spans_are_private}
use Rattle.copy_lists.proofs.laws.spans_hold_what_is_private.Goals as goal

pub returns : goal.returns
returns c = spans_are_private
