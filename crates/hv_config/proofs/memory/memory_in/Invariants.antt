use Rattle.std.proofs.Common.{◌≡◌, ◌++◌, drop}
use Rattle.std.specs.List.{flat_map}
use Rattle.hv_config.specs.Memory.{memory_of}
use Rattle.hv_config.proofs.memory.memory_in.Given as goal

abbrev pub invariant-loop-device : goal.invariant-loop-device
invariant-loop-device l = l.memory.items ++ flat_map memory_of (drop l.device-index l.devices) ≡ flat_map memory_of l.devices
