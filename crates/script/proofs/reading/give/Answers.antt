use Rattle.std.proofs.Common.{◌≡◌, ◌∷◌, ◌++◌, [], true, List, ap, sym, ◌∙◌, subst}
use Rattle.std.specs.Prelude.{slice_set}
use Rattle.std.proofs.lemmas.Result.{on_ok_weaker}
use Rattle.script.specs.Course.{Given}
use Rattle.script.specs.Steps.{is_up_to}
use Rattle.script.proofs.Places.{given_at_is}
use Rattle.script.proofs.reading.give.Goals as goal

pub give-requires : goal.give-requires
give-requires c =
    subst (λ (given : List Given). is_up_to c.args.turn given ≡ true) (given_at_is c.args.inputs.now c.args.place _ c.requires.within) c.requires.turns

pub returns : goal.returns
returns c =
    on_ok_weaker c.give.result (λ given.
    ap (slice_set c.args.inputs.now c.args.place)
    (given
    ∙ ap (λ (before : List Given). before ++ record { turn = c.args.turn; bytes = c.args.bytes.now } ∷ []) (sym (given_at_is c.args.inputs.now c.args.place _ c.requires.within))))
    c.give.ensures
