use Rattle.std.proofs.Common.{◌≡◌, take, map}
use Rattle.config_descs.specs.Wired.{manager_of}
use Rattle.config_descs.proofs.wired.managers_of.Given as goal

abbrev pub invariant-loop-part : goal.invariant-loop-part
invariant-loop-part l = l.found ≡ map (manager_of l.parts) (take l.part-index l.parts)
