use Rattle.std.proofs.Common.{◌≡◌, ◌++◌, drop}
use Rattle.system.specs.Wired.{all_wires}
use Rattle.system.proofs.wiring.all_wires.Given as goal

abbrev pub invariant-loop-part : goal.invariant-loop-part
invariant-loop-part l = l.wires.items ++ all_wires l.wiring l.part (drop l.part l.descs) ≡ all_wires l.wiring 0 l.descs
