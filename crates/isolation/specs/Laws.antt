-- The isolation theorem: a partition without shared areas does in the network what its machine does alone, given what is recorded of it.
use Rattle.std.specs.Prelude.{◌≡◌, ℕ, ◌<◌, true, length}
use Rattle.machine_desc.specs.Joined.{AreJoined}
use Rattle.network.specs.Network.{Network, desc_at}
use Rattle.network.specs.Change.{are_private}
use Rattle.network.specs.World.{Passage, machine_at, trace_in}
use Rattle.network.specs.Turn.{Script, run}
use Rattle.network.specs.Report.{report}
use Rattle.network.specs.Lines.{lines_of}
use Rattle.network.specs.Laws.{IsNamed}
use Rattle.recording.specs.Alone.{Place, alone}
use Rattle.recording.specs.Fits.{fits}
use Rattle.isolation.specs.Isolation.{record_of, trace_at, prints}

-- the machine of a lone run, and what its steps did, are those of a partition in the network
pub record IsAlone (network : Network) (part : ℕ) (done : Passage) (place : Place) : Type 0 where
  pub machine : place.machine ≡ machine_at done.after.machines part
  pub trace : trace_at (desc_at network part) place ≡ trace_in part done.lines

-- On every wiring, with every schedule and all input, the lone run along its recording comes to its machine, and its steps do the same.
abbrev pub PartitionsAreAlone : Type 0
PartitionsAreAlone =
    (network : Network) (script : Script) (turns part : ℕ) → part < length network.descs → are_private (desc_at network part).regions ≡ true
    → IsAlone network part (run network script turns) (alone (desc_at network part) (record_of network script turns part))

-- Where the descriptions are joined, nothing in its recording is what its machine could not be given.
abbrev pub RecordingsFit : Type 0
RecordingsFit =
    (network : Network) (script : Script) (turns part : ℕ) → AreJoined network.descs network.wiring → part < length network.descs
    → are_private (desc_at network part).regions ≡ true → fits (desc_at network part) (record_of network script turns part) ≡ true

-- The lines of its name in the report are what its lone run prints.
abbrev pub LinesAreItsOwn : Type 0
LinesAreItsOwn =
    (network : Network) (script : Script) (turns part : ℕ) → IsNamed network → part < length network.descs → are_private (desc_at network part).regions ≡ true
    → lines_of (desc_at network part).name (report network script turns) ≡ prints (desc_at network part) (record_of network script turns part)
