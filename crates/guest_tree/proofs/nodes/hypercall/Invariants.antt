use Rattle.std.proofs.Common.{◌≡◌, take}
use Rattle.dt_make.specs.Values.{cells}
use Rattle.guest_tree.specs.Properties.{hypercall}
use Rattle.guest_tree.proofs.nodes.hypercall.Given as goal

abbrev pub invariant-loop-word : goal.invariant-loop-word
invariant-loop-word l = l.value.items ≡ cells (take l.word-index hypercall)
