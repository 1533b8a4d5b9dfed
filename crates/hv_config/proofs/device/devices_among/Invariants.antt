use Rattle.std.proofs.Common.{◌≡◌, ◌++◌, drop}
use Rattle.std.specs.List.{flat_map}
use Rattle.hv_config.specs.Device.{devices_at}
use Rattle.hv_config.proofs.device.devices_among.Given as goal

abbrev pub invariant-loop-child : goal.invariant-loop-child
invariant-loop-child l =
    l.devices.items ++ flat_map (devices_at l.address l.size) (drop l.child-index l.children) ≡ flat_map (devices_at l.address l.size) l.children
