use Rattle.std.proofs.Common.{length}
use Rattle.std.proofs.lemmas.Bool.{ltb-true}
use Rattle.vpic.specs.Choice.{is_chosen}
use Rattle.vpic.proofs.Chosen.{one_chosen, chosen_passes, both_pass, none_eligible}
use Rattle.vpic.proofs.laws.one_is_chosen.Goals as goal

pub returns-clause-one : goal.returns-clause-one
returns-clause-one c controller levels n m e f h k =
    one_chosen controller levels n m (ltb-true n (length controller.sources) e) (ltb-true m (length controller.sources) f) h k

pub returns-clause-found : goal.returns-clause-found
returns-clause-found c controller levels n e =
    let passes = chosen_passes controller levels n e in
    both_pass n (length controller.sources) (is_chosen controller levels n) passes.1 passes.0

pub returns-clause-none : goal.returns-clause-none
returns-clause-none c controller levels n e f = none_eligible controller levels n e (ltb-true n (length controller.sources) f)
