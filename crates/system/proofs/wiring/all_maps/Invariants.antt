use Rattle.std.proofs.Common.{◌≡◌, map, take}
use Rattle.system.specs.Wired.{regions_of}
use Rattle.system.proofs.wiring.all_maps.Given as goal

abbrev pub invariant-loop-desc : goal.invariant-loop-desc
invariant-loop-desc l = l.maps.items ≡ map regions_of (take l.desc-index l.descs)
