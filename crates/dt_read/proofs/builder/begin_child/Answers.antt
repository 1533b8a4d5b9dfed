use Rattle.std.proofs.Common.{sym, ◌∙◌, arith}
use Rattle.std.proofs.lemmas.Bool.{not-true, not-false}
use Rattle.dt_read.proofs.Verdicts.{begin_9, begin_10, begin_13, begin_14, begin_sound}
use Rattle.dt_read.proofs.Steps.{begins, within-begin}
use Rattle.dt_read.proofs.builder.begin_child.Goals as goal

pub returns-then-not-is_node_name : goal.returns-then-not-is_node_name
returns-then-not-is_node_name c = begin_9 _ c.args.name.now (omega (arith, c.requires.begun, c.requires.nodes_is)) (sym c.if-not-is_node_name.ensures)

pub returns-then-len-ge-MOST_OUTER : goal.returns-then-len-ge-MOST_OUTER
returns-then-len-ge-MOST_OUTER c =
    begin_10 _ c.args.name.now (omega (arith, c.requires.begun, c.requires.nodes_is)) (sym c.if-not-is_node_name.ensures)
    (omega (arith, c.requires.depth_is, c.len.ensures, c.args.outer.ok.0))

pub returns-then-nodes-ge-MOST_NODES : goal.returns-then-nodes-ge-MOST_NODES
returns-then-nodes-ge-MOST_NODES c =
    begin_13 _ c.args.name.now (omega (arith, c.requires.begun, c.requires.nodes_is)) (sym c.if-not-is_node_name.ensures)
    (omega (arith, c.requires.depth_is, c.len.ensures, c.args.outer.ok.0)) (omega (arith, c.requires.depth_is)) (omega (arith, c.requires.nodes_is))

pub returns-then-not-branch : goal.returns-then-not-branch
returns-then-not-branch c =
    begin_14 _ c.args.name.now (omega (arith, c.requires.begun, c.requires.nodes_is)) (sym c.if-not-is_node_name.ensures)
    (omega (arith, c.requires.depth_is, c.len.ensures, c.args.outer.ok.0)) (omega (arith, c.requires.depth_is)) (omega (arith, c.requires.nodes_is))
    (sym (c.requires.here_knows.children c.args.name.now) ∙ not-false _ (sym c.in_ok-add.ensures.0 ∙ c.if-not-branch.true))

pub invariant_of-result : goal.invariant_of-result
invariant_of-result c =
    rw c.in_ok-push.ensures.items (within-begin c.args.outer.items c.args.here c.in_ok-child.child c.add.new.self c.args.nodes c.args.properties c.args.name.now c.requires c.in_ok-add.ensures.1 c.in_ok-child.ensures)

pub returns : goal.returns
returns c = (
  begin_sound _ c.args.name.now (omega (arith, c.requires.begun, c.requires.nodes_is)) (sym c.if-not-is_node_name.ensures)
      (omega (arith, c.requires.depth_is, c.len.ensures, c.args.outer.ok.0)) (omega (arith, c.requires.depth_is)) (omega (arith, c.requires.nodes_is))
      (sym (c.requires.here_knows.children c.args.name.now) ∙ not-true _ (sym c.in_ok-add.ensures.0 ∙ c.if-not-branch.false)),
  rw c.in_ok-push.ensures.items (begins c.args.outer.items c.args.here c.in_ok-child.child c.add.new.self c.args.nodes c.args.properties c.args.name.now c.requires c.in_ok-add.ensures.1 c.in_ok-child.ensures),
)
