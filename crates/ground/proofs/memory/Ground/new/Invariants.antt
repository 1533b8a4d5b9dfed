use Rattle.std.proofs.Common.{◌≡◌, take}
use Rattle.ground.specs.Extents.{zero_extents}
use Rattle.ground.proofs.memory.Ground.new.Given as goal

-- the extents so far have the sizes so far
abbrev pub invariant-loop-size : goal.invariant-loop-size
invariant-loop-size l = l.extents.items ≡ zero_extents (take l.size-index l.sizes)
