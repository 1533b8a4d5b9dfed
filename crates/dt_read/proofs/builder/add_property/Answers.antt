use Rattle.std.proofs.Common.{sym, ap, ◌∙◌, arith, eqb}
use Rattle.std.proofs.lemmas.Bool.{not-true, not-false, eqb-true}
use Rattle.std.proofs.lemmas.List.{nil_from_length}
use Rattle.dt_read.proofs.Verdicts.{property_9, property_12, property_13, property_14, property_sound}
use Rattle.dt_read.proofs.Steps.{comes, within-property, is_none_of-children}
use Rattle.dt_read.proofs.builder.add_property.Goals as goal

pub returns-then-not-is_property_name : goal.returns-then-not-is_property_name
returns-then-not-is_property_name c = property_9 _ c.args.name.now (sym c.if-not-is_property_name.ensures)

pub returns-then-not-is_empty : goal.returns-then-not-is_empty
returns-then-not-is_empty c =
    property_12 _ c.args.name.now (sym c.if-not-is_property_name.ensures) (omega (arith, c.requires.depth_is))
    (is_none_of-children _ c.args.here ∙ ap (λ n. eqb n 0) (sym c.args.here.children.ok.0) ∙ sym c.if-not-is_empty.ensures)

pub returns-then-properties-ge-MOST_PROPERTIES : goal.returns-then-properties-ge-MOST_PROPERTIES
returns-then-properties-ge-MOST_PROPERTIES c =
    property_13 _ c.args.name.now (sym c.if-not-is_property_name.ensures) (omega (arith, c.requires.depth_is))
    (is_none_of-children _ c.args.here ∙ ap (λ n. eqb n 0) (sym c.args.here.children.ok.0) ∙ sym c.if-not-is_empty.ensures) (omega (arith, c.requires.properties_is))

pub returns-then-not-branch : goal.returns-then-not-branch
returns-then-not-branch c =
    property_14 _ c.args.name.now (sym c.if-not-is_property_name.ensures) (omega (arith, c.requires.depth_is))
    (is_none_of-children _ c.args.here ∙ ap (λ n. eqb n 0) (sym c.args.here.children.ok.0) ∙ sym c.if-not-is_empty.ensures) (omega (arith, c.requires.properties_is))
    (sym (c.requires.here_knows.properties c.args.name.now) ∙ not-false _ (sym c.in_ok-add.ensures.0 ∙ c.if-not-branch.true))

pub invariant_of-result : goal.invariant_of-result
invariant_of-result c =
    let childless = nil_from_length c.args.here.children.items (sym c.args.here.children.ok.0 ∙ eqb-true _ _ (sym c.if-not-is_empty.ensures)) in
    within-property c.args.outer.items c.args.here c.add.new.self c.push.new.self _ c.args.nodes c.args.properties c.requires childless c.in_ok-push.ensures.items
    (rw c.in_ok-of.ensures c.in_ok-add.ensures.1)

pub returns : goal.returns
returns c =
    let childless = nil_from_length c.args.here.children.items (sym c.args.here.children.ok.0 ∙ eqb-true _ _ (sym c.if-not-is_empty.ensures)) in (
      property_sound _ c.args.name.now (sym c.if-not-is_property_name.ensures) (omega (arith, c.requires.depth_is))
          (is_none_of-children _ c.args.here ∙ ap (λ n. eqb n 0) (sym c.args.here.children.ok.0) ∙ sym c.if-not-is_empty.ensures) (omega (arith, c.requires.properties_is))
          (sym (c.requires.here_knows.properties c.args.name.now) ∙ not-true _ (sym c.in_ok-add.ensures.0 ∙ c.if-not-branch.false)),
      rw (← c.in_ok-of.ensures, ← c.in_ok-of-2.ensures) (comes c.args.outer.items c.args.here c.add.new.self c.push.new.self _ childless c.in_ok-push.ensures.items),
    )
