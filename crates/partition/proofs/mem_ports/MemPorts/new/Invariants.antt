use Rattle.std.proofs.Common.{◌≡◌, map, take}
use Rattle.partition.specs.Port.{kinds_of, fresh_end}
use Rattle.partition.specs.MemPorts.{sorts_of, ends_of}
use Rattle.partition.proofs.mem_ports.MemPorts.new.Given as goal

abbrev pub invariant-loop-port : goal.invariant-loop-port
invariant-loop-port l = (sorts_of l.ends.items ≡ kinds_of (take l.port-index l.ports)) × (ends_of l.ends.items ≡ map fresh_end (take l.port-index l.ports))
