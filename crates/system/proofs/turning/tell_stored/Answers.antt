use Rattle.std.proofs.Common.{sym}
use Rattle.std.proofs.lemmas.Bool.{eqb-true}
use Rattle.system.proofs.Unstored.{none_stored}
use Rattle.system.proofs.turning.tell_stored.Goals as goal

pub returns-then-is_empty : goal.returns-then-is_empty
returns-then-is_empty c = none_stored c.args.who c.args.stored.now c.args.parts.now.items (eqb-true _ _ (sym c.if-is_empty.ensures))
