use Rattle.std.proofs.Common.{◌≡◌, take, map}
use Rattle.config_descs.specs.Wired.{bell_of}
use Rattle.config_descs.proofs.wired.bells_of.Given as goal

abbrev pub invariant-loop-bell : goal.invariant-loop-bell
invariant-loop-bell l = l.made ≡ map (bell_of l.parts) (take l.bell-index l.bells)
