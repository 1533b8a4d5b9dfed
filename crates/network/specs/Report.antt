-- What is written of a run.
use Rattle.std.specs.Prelude.{ℕ, ◌+◌, List, [], ◌∷◌, ◌++◌, length, flat_map}
use Rattle.machine_desc.specs.declared.desc.Desc.{Desc}
use Rattle.trace_text.specs.Acts.{sent_line, ring_line, start_line, stop_line, restart_line, copy_to_line, copy_from_line, self_stop_line, self_restart_line, faulted_line}
use Rattle.trace_text.specs.Ends.{state_word, end_line, console_line}
use Rattle.copy_lists.specs.Pieces.{size_of}
use Rattle.partition.specs.Act.{Act, Nothing, Sent, Took, Rang, Start, Stop, Restart, CopyTo, CopyFrom, SelfStop, SelfRestart, Faulted}
use Rattle.partition.specs.Machine.{Machine, fresh}
use Rattle.partition.specs.Reached.{Move, after_moves}
use Rattle.network.specs.Network.{Network, desc_at}
use Rattle.network.specs.Change.{Traced, trace_of}
use Rattle.network.specs.World.{World, Counts, Line, Passage, machine_at, counts_at}
use Rattle.network.specs.Entering.{waiting}
use Rattle.network.specs.Turn.{Script, given_at, run}

-- ---- acts

-- the line of what a partition did in its own step, where it has one
abbrev pub act_line : List ℕ → ℕ → Act → List ℕ
act_line name step Nothing = []
act_line name step (Sent handle bytes) = sent_line name step handle bytes
act_line name step (Took handle count) = []
act_line name step (Rang handle) = ring_line name step handle
act_line name step (Start handle entry load) = start_line name step handle entry load
act_line name step (Stop handle) = stop_line name step handle
act_line name step (Restart handle) = restart_line name step handle
act_line name step (CopyTo handle pieces) = copy_to_line name step handle (size_of pieces)
act_line name step (CopyFrom handle count) = copy_from_line name step handle count
act_line name step SelfStop = self_stop_line name step
act_line name step SelfRestart = self_restart_line name step
act_line name step Faulted = faulted_line name step

abbrev pub traced_line : List ℕ → Traced → List ℕ
traced_line name traced = act_line name traced.step traced.act

-- the lines of steps, each under the name of its partition
abbrev pub act_lines : Network → List Line → List ℕ
act_lines network lines = flat_map (λ (line : Line). traced_line (desc_at network line.part).name line.traced) lines

-- ---- behind the last turn

abbrev pub machine_line : List ℕ → Machine → List ℕ
machine_line name machine = end_line name (state_word machine.inner.state) machine.inner.steps

-- of the partitions from this number on
abbrev pub machine_lines : ℕ → List Desc → List Machine → List ℕ
machine_lines part [] machines = []
machine_lines part (desc ∷ descs) machines = machine_line desc.name (machine_at machines part) ++ machine_lines (part + 1) descs machines

abbrev pub counts_line : List ℕ → Counts → ℕ → List ℕ
counts_line name counts waits = console_line name counts.printed counts.entered waits

-- of the consoles from this number on, by all that each was given
abbrev pub counts_lines : ℕ → List (List ℕ) → (ℕ → List ℕ) → List Counts → List ℕ
counts_lines console [] given consoles = []
counts_lines console (name ∷ names) given consoles =
    counts_line name (counts_at consoles console) (length (waiting (given console) consoles console)) ++ counts_lines (console + 1) names given consoles

abbrev pub end_lines : Network → (ℕ → List ℕ) → World → List ℕ
end_lines network given world = machine_lines 0 network.descs world.machines ++ counts_lines 0 network.wiring.consoles given world.consoles

-- ---- the report

-- by all that each console was given up to the last turn
unfoldable pub text_of : Network → (ℕ → List ℕ) → Passage → List ℕ
text_of network given done = act_lines network done.lines ++ end_lines network given done.after

-- the report of so many turns
abbrev pub report : Network → Script → ℕ → List ℕ
report network script turns = text_of network (given_at script turns) (run network script turns)

-- ---- one partition by itself

abbrev pub trace_lines : List ℕ → List Traced → List ℕ
trace_lines name trace = flat_map (traced_line name) trace

-- what its own moves, from its fresh machine on, come to as text
unfoldable pub own_text : Desc → List Move → List ℕ
own_text desc moves = trace_lines desc.name (trace_of desc moves (fresh desc)) ++ machine_line desc.name (after_moves desc moves (fresh desc))
