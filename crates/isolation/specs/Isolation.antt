-- What is recorded of a partition in a run of the network, and what the lone run along a recording comes to as text.
use Rattle.std.specs.Prelude.{ℕ, List, ◌++◌}
use Rattle.machine_desc.specs.declared.desc.Desc.{Desc}
use Rattle.partition.specs.Machine.{fresh}
use Rattle.network.specs.Network.{Network, desc_at}
use Rattle.network.specs.Change.{Traced, trace_of}
use Rattle.network.specs.World.{moves_of}
use Rattle.network.specs.Turn.{Script, run}
use Rattle.network.specs.Report.{trace_lines, machine_line}
use Rattle.recording.specs.Recording.{Item, recorded}
use Rattle.recording.specs.Alone.{Place, alone}

-- The recording of a partition in a run of so many turns.
abbrev pub record_of : Network → Script → ℕ → ℕ → List Item
record_of network script turns part = recorded (desc_at network part) 0 (moves_of part (run network script turns).log) (fresh (desc_at network part))

-- what the steps of a lone run did
abbrev pub trace_at : Desc → Place → List Traced
trace_at desc place = trace_of desc place.moves (fresh desc)

-- What a lone run along a recording prints: the lines of what its steps did, and then its end line.
unfoldable pub prints : Desc → List Item → List ℕ
prints desc items = trace_lines desc.name (trace_at desc (alone desc items)) ++ machine_line desc.name (alone desc items).machine
