use Rattle.std.proofs.Common.{◌≡◌, [], take, drop}
use Rattle.hv_config.specs.Cpus.{first_odd}
use Rattle.hv_config.proofs.cpus.first_odd.Given as goal

abbrev pub invariant-loop-i : goal.invariant-loop-i
invariant-loop-i l = first_odd (take l.i l.devices) (drop l.i l.devices) ≡ first_odd [] l.devices
