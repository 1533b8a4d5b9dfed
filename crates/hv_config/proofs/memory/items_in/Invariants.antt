use Rattle.std.proofs.Common.{◌≡◌, map}
use Rattle.std.specs.List.{range_with_len}
use Rattle.hv_config.specs.Memory.{item_at}
use Rattle.hv_config.proofs.memory.items_in.Given as goal

abbrev pub invariant-loop-k : goal.invariant-loop-k
invariant-loop-k l = l.ranges.items ≡ map (item_at l.address l.size l.reg) (range_with_len 0 l.k)
