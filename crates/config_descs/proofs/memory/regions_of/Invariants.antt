use Rattle.std.proofs.Common.{◌≡◌, take, map}
use Rattle.config_descs.specs.Desc.{region_of}
use Rattle.config_descs.proofs.memory.regions_of.Given as goal

abbrev pub invariant-loop-guest : goal.invariant-loop-guest
invariant-loop-guest l = l.regions ≡ map (region_of l.config) (take l.guest-index l.guests)
