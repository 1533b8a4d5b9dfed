use Rattle.std.proofs.Common.{◌≡◌, drop}
use Rattle.std.specs.Prelude.{find}
use Rattle.hv_config.specs.Hardware.{is_ill}
use Rattle.hv_config.proofs.probe.first_ill.Given as goal

abbrev pub invariant-loop-device : goal.invariant-loop-device
invariant-loop-device l = find is_ill (drop l.device-index l.devices) ≡ find is_ill l.devices
