use Rattle.std.proofs.Common.{sym, refl, ◌∙◌, arith}
use Rattle.std.proofs.lemmas.List.{nil_from_length}
use Rattle.dt_read.proofs.Verdicts.{end_sound}
use Rattle.dt_read.proofs.Steps.{ends, ends_root, within-end, closed-end}
use Rattle.dt_read.proofs.builder.end_node.Goals as goal

pub invariant_of-result : goal.invariant_of-result
invariant_of-result c =
    let none = nil_from_length c.args.outer.items (sym c.args.outer.ok.0 ∙ c.in-None.ensures.cases.0) in
    closed-end c.args.here _ c.args.nodes c.args.properties (rw none at c.requires) refl

pub returns-in-None : goal.returns-in-None
returns-in-None c =
    let none = nil_from_length c.args.outer.items (sym c.args.outer.ok.0 ∙ c.in-None.ensures.cases.0) in
    (end_sound _ (omega (arith, c.requires.depth_is)), rw none (ends_root c.args.here _ refl))

pub invariant_of-result-in-Some : goal.invariant_of-result-in-Some
invariant_of-result-in-Some c =
    within-end c.pop.new.self.items c.in-Some.parent c.args.here c.push.new.self _ c.args.nodes c.args.properties (rw c.in-Some.ensures.items at c.requires) refl c.in_ok-push-in-Some.ensures.items

pub returns : goal.returns
returns c = (
  end_sound _ (omega (arith, c.requires.depth_is)),
  rw c.in-Some.ensures.items (ends c.pop.new.self.items c.in-Some.parent c.args.here c.push.new.self _ refl c.in_ok-push-in-Some.ensures.items),
)
