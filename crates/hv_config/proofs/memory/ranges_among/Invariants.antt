use Rattle.std.proofs.Common.{◌≡◌, take, filter}
use Rattle.hv_config.specs.Memory.{is_range}
use Rattle.hv_config.proofs.memory.ranges_among.Given as goal

abbrev pub invariant-loop-range : goal.invariant-loop-range
invariant-loop-range l = l.ranges.items ≡ filter is_range (take l.range-index l.items)
