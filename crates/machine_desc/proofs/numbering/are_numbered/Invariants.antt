use Rattle.std.proofs.Common.{◌≡◌, ◌*◌, ◌≤◌, drop}
use Rattle.std.specs.List.{flat_map}
use Rattle.machine_desc.specs.Sound.{counts_up, interrupts_of}
use Rattle.machine_desc.proofs.numbering.are_numbered.Given as goal

abbrev pub invariant-loop-port : goal.invariant-loop-port
invariant-loop-port l =
    (counts_up l.next (flat_map interrupts_of (drop l.port-index l.ports)) ≡ counts_up 0 (flat_map interrupts_of l.ports)) × (l.next ≤ 2 * l.port-index)
