use Rattle.std.proofs.Common.{sym, arith}
use Rattle.std.proofs.lemmas.Bool.{eqb-true, eqb-false}
use Rattle.std.proofs.lemmas.List.{nil_from_length}
use Rattle.dt_read.proofs.Verdicts.{root_named, root_sound}
use Rattle.dt_read.proofs.Steps.{begins_root, within-root}
use Rattle.dt_read.proofs.builder.begin_root.Goals as goal

pub returns-then-not-is_empty : goal.returns-then-not-is_empty
returns-then-not-is_empty c =
    let named = eqb-false _ _ (sym c.if-not-is_empty.ensures) in
    root_named c.args.name.now (omega (arith, named))

pub invariant_of-result : goal.invariant_of-result
invariant_of-result c =
    let none = nil_from_length c.args.name.now (eqb-true _ _ (sym c.if-not-is_empty.ensures)) in
    within-root _ c.in_ok-root.root c.new.ensures.items (rw none at c.in_ok-root.ensures)

pub returns : goal.returns
returns c =
    let none = nil_from_length c.args.name.now (eqb-true _ _ (sym c.if-not-is_empty.ensures)) in
    (root_sound c.args.name.now (eqb-true _ _ (sym c.if-not-is_empty.ensures)), rw none (begins_root _ c.in_ok-root.root c.new.ensures.items (rw none at c.in_ok-root.ensures)))
