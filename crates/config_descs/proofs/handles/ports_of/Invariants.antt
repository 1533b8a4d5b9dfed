use Rattle.std.proofs.Common.{◌≡◌, ◌≤◌, ◌*◌, ◌++◌, drop}
use Rattle.config_descs.specs.Desc.{ports_from}
use Rattle.config_descs.proofs.handles.ports_of.Given as goal

abbrev pub invariant-loop-handle : goal.invariant-loop-handle
invariant-loop-handle l = (l.ports ++ ports_from l.config l.next (drop l.handle-index l.handles) ≡ ports_from l.config 0 l.handles) × (l.next ≤ 2 * l.handle-index)
