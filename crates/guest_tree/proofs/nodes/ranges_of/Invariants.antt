use Rattle.std.proofs.Common.{◌≡◌, take}
use Rattle.std.specs.List.{flat_map}
use Rattle.guest_tree.specs.Properties.{range_of}
use Rattle.guest_tree.proofs.nodes.ranges_of.Given as goal

abbrev pub invariant-loop-guest : goal.invariant-loop-guest
invariant-loop-guest l = l.value.items ≡ flat_map (range_of l.config) (take l.guest-index l.guests)
