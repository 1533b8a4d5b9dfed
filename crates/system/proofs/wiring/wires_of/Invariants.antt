use Rattle.std.proofs.Common.{◌≡◌, ◌+◌, ◌++◌, drop}
use Rattle.system.specs.Wired.{wires_from}
use Rattle.system.proofs.wiring.wires_of.Given as goal

abbrev pub invariant-loop-place : goal.invariant-loop-place
invariant-loop-place l = l.wires.items ++ wires_from l.wiring l.part (l.place + 1) (drop l.place l.ports) ≡ wires_from l.wiring l.part 1 l.ports
