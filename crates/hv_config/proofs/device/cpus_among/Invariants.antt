use Rattle.std.proofs.Common.{◌≡◌, take, map, filter}
use Rattle.std.specs.Prelude.{codes}
use Rattle.hv_config.specs.Device.{cpu_device, is_device}
use Rattle.hv_config.proofs.device.cpus_among.Given as goal

abbrev pub invariant-loop-node : goal.invariant-loop-node
invariant-loop-node l = l.devices.items ≡ map (cpu_device l.address l.size) (filter (is_device (codes "cpu")) (take l.node-index l.nodes))
