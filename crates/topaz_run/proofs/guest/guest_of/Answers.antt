use Rattle.std.proofs.Common.{◌≤◌, ℕ, List, length, slice_index_or, sym, subst}
use Rattle.guest_tree.specs.Laws.{largest_blob}
use Rattle.topaz_run.proofs.Named.{element}
use Rattle.topaz_run.proofs.guest.guest_of.Goals as goal

pub write_small-requires-clause-fits : goal.write_small-requires-clause-fits
write_small-requires-clause-fits c =
    let config = c.args.accepted.now in
    let d = element config.parts c.args.part c.requires in
    c.guest_trees_fit.ensures.fit config c.config-config.ensures.accepted c.args.part c.requires d c.in_ok-tree.tree (c.in_ok-tree.ensures d)

pub write_small-requires-clause-small : goal.write_small-requires-clause-small
write_small-requires-clause-small c =
    let config = c.args.accepted.now in
    let d = element config.parts c.args.part c.requires in
    let same = c.blobs_are_those_of_the_trees.ensures config (slice_index_or config.parts c.args.part d) c.in_ok-tree.tree (c.in_ok-tree.ensures d) in
    let small = c.guest_trees_fit.ensures.small config c.config-config.ensures.accepted c.args.part c.requires d in
    subst (λ (blob : List ℕ). length blob ≤ largest_blob) (sym same) small
