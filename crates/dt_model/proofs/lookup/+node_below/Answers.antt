use Rattle.std.proofs.Common.{◌≡◌, ap, sym, ◌∙◌, ◌∷◌, ◌++◌}
use Rattle.std.specs.Prelude.{find}
use Rattle.std.specs.Option.{option_map}
use Rattle.std.specs.Str.{bytes_eq}
use Rattle.dt_model.specs.Node.{name_of, child_path}
use Rattle.dt_model.proofs.Below.{below_all, nodes_below-out, first_node-here, first_node-below, find-after, is_here, is_not_here, along, IsApart, IsApart-child, is_other, none_below}
use Rattle.dt_model.proofs.lookup.+node_below.Goals as goal
use Rattle.dt_model.proofs.lookup.+node_below.Goals.{in-Some+else-is_empty+in_default-node_below, in_default}

pub loop-child-init : goal.loop-child-init
loop-child-init t c = λ before.
    ap (λ places. find (λ place. bytes_eq place.0 (before ++ c.args.path.now)) places) (ap (below_all before) c.deref-child-items.ensures.value ∙ sym (nodes_below-out c.args.node.now before))

pub returns-then-is_empty : goal.returns-then-is_empty
returns-then-is_empty t c = λ before.
    let path : c.args.path.now ≡ 0x2f ∷ (name_of c.child-item.result ++ c.in-Some.rest.now) = rw (← c.as_slice.ensures) c.in-Some.ensures in
    first_node-here (λ place. bytes_eq place.0 (before ++ c.args.path.now)) before _ c.loop-child.child-index c.child-item.result c.loop-child-test.true c.child-item.is
    (is_here before _ _ _ path c.if-is_empty.ensures)
    ∙ ap (option_map (λ place. place.1)) (c.loop-child.invariant before)

pub returns-in-Some-node_below : goal.returns-in-Some-node_below
returns-in-Some-node_below t c = λ before.
    let path : c.args.path.now ≡ 0x2f ∷ (name_of c.child-item.result ++ c.in-Some.rest.now) = rw (← c.as_slice.ensures) c.in-Some.ensures in
    first_node-below (λ place. bytes_eq place.0 (before ++ c.args.path.now)) before _ c.loop-child.child-index c.child-item.result c.in-Some-node_below.found.now c.loop-child-test.true c.child-item.is
    (is_not_here before _ _ _ path c.if-is_empty.ensures)
    (along _ c.child-item.result before _ _ path (c.in-Some-node_below.ensures (child_path before c.child-item.result)))
    ∙ ap (option_map (λ place. place.1)) (c.loop-child.invariant before)

pub loop-child-preserved : goal.loop-child-preserved
loop-child-preserved t c = λ before.
    let passed = find-after (λ place. bytes_eq place.0 (before ++ c.args.path.now)) before _ c.loop-child.child-index c.child-item.result c.loop-child-test.true c.child-item.is in
    elim c.match-after_name.branch [
      | in-Some+else-is_empty+in_default-node_below w ↦
          let path : c.args.path.now ≡ 0x2f ∷ (name_of c.child-item.result ++ w.in-Some.rest.now) = rw (← c.as_slice.ensures) w.in-Some.ensures in
          sym (passed (is_not_here before _ _ _ path w.if-is_empty.ensures)
          (along _ c.child-item.result before _ _ path (w.in_default-node_below.ensures (child_path before c.child-item.result))))
          ∙ c.loop-child.invariant before
      | in_default w ↦
          let apart : IsApart (before ++ c.args.path.now) (child_path before c.child-item.result) = IsApart-child before _ _ (rw (← c.as_slice.ensures) w.in_default.ensures) in
          sym (passed (is_other _ _ apart) (none_below c.child-item.result (child_path before c.child-item.result) _ apart)) ∙ c.loop-child.invariant before
    ]
