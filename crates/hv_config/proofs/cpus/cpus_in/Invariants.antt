use Rattle.std.proofs.Common.{◌≡◌, ◌++◌, drop}
use Rattle.std.specs.List.{filter_map}
use Rattle.hv_config.specs.Cpus.{cpu_of}
use Rattle.hv_config.proofs.cpus.cpus_in.Given as goal

abbrev pub invariant-loop-device : goal.invariant-loop-device
invariant-loop-device l = l.cpus ++ filter_map cpu_of (drop l.device-index l.devices) ≡ filter_map cpu_of l.devices
