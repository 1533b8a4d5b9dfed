use Rattle.std.proofs.Common.{◌≡◌, ◌++◌, drop, map, take}
use Rattle.partition.specs.MemPorts.{emptied_end}
use Rattle.partition.proofs.mem_ports.empty_all.Given as goal

abbrev pub invariant-loop-place : goal.invariant-loop-place
invariant-loop-place l = l.ends.items ≡ map emptied_end (take l.place l.initial.ends.items) ++ drop l.place l.initial.ends.items
