use Rattle.std.proofs.Common.{◌≡◌, map, take}
use Rattle.system.specs.Wired.{begins_running}
use Rattle.system.proofs.wiring.beginnings.Given as goal

abbrev pub invariant-loop-desc : goal.invariant-loop-desc
invariant-loop-desc l = l.running.items ≡ map begins_running (take l.desc-index l.descs)
