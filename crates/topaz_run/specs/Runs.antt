-- What the files say of a run, and what is promised of its text.
use Rattle.std.specs.Prelude.{◌≡◌, ℕ, ◌<◌, ⊤, true, List, [], length, map, Option, Some, None, unwrap_or}
use Rattle.std.specs.Io.KnownBytes.{Appends}
use Rattle.outside.specs.Content.{Content, file_of}
use Rattle.hv_config.specs.declared.config.PartDef.{PartDef}
use Rattle.hv_config.specs.declared.config.Config.{Config}
use Rattle.hv_config.specs.Plain.{IsPlain}
use Rattle.hv_read.specs.Read.{config_said, board_said}
use Rattle.machine_desc.specs.declared.desc.Desc.{Desc}
use Rattle.script.specs.Text.{lines_of as lines_in}
use Rattle.script.specs.Course.{course_of}
use Rattle.network.specs.Network.{Network, desc_at}
use Rattle.network.specs.Change.{are_private}
use Rattle.network.specs.Turn.{Script}
use Rattle.network.specs.Report.{report}
use Rattle.network.specs.Lines.{lines_of}
use Rattle.recording.specs.Fits.{fits}
use Rattle.isolation.specs.Isolation.{record_of, prints}
use Rattle.topaz_run.specs.declared.setup.Setup.{Setup}
use Rattle.topaz_run.specs.Words.{Command, Bare, Dtb, Check, Guest, Run, Gen}
use Rattle.topaz_run.specs.Imaging.{completed}
use Rattle.topaz_run.specs.Reported.{given_by}
use Rattle.topaz_run.specs.Outcome.{network_for, names_for}

-- ---- what is run

-- the bytes of a file; where it isn't there, none
abbrev pub bytes_in : Content → List ℕ → List ℕ
bytes_in content name = unwrap_or (file_of content name) []

-- the configuration and the hardware that the files of these names say
abbrev pub setup_in : Content → List ℕ → List ℕ → Setup
setup_in content config hw = record { accepted = config_said (bytes_in content config); board = board_said (bytes_in content hw) }

-- the partitions' descriptions, each completed by its image
abbrev pub descs_in : Content → Config → List PartDef → List Desc
descs_in content config parts = map (λ (part : PartDef). completed config part (bytes_in content part.image)) parts

abbrev pub network_of : Content → Setup → Network
network_of content setup = network_for setup (descs_in content setup.accepted setup.accepted.parts)

abbrev pub network_in : Content → List ℕ → List ℕ → Network
network_in content config hw = network_of content (setup_in content config hw)

abbrev pub script_of : Content → Setup → List ℕ → Script
script_of content setup script = given_by (course_of (names_for setup) (lines_in (bytes_in content script)))

abbrev pub script_in : Content → List ℕ → List ℕ → List ℕ → Script
script_in content config hw script = script_of content (setup_in content config hw) script

-- ---- what is promised of it

-- The lines of a partition in the report are what its lone machine prints along its recording of the run, and no item of the recording
-- is one that its machine could not be given.
pub record PrintsAlone (network : Network) (script : Script) (turns part : ℕ) : Type 0 where
  pub fit : fits (desc_at network part) (record_of network script turns part) ≡ true
  pub lines : lines_of (desc_at network part).name (report network script turns) ≡ prints (desc_at network part) (record_of network script turns part)

-- The text is the report, in which each partition without shared areas prints so.
pub record IsReport (network : Network) (script : Script) (turns : ℕ) (text : List ℕ) : Type 0 where
  pub is : text ≡ report network script turns
  pub alone : (part : ℕ) → part < length network.descs → are_private (desc_at network part).regions ≡ true → PrintsAlone network script turns part

-- The bytes written are such a text.
pub record WritesReport (network : Network) (script : Script) (turns : ℕ) (old new : Option (List ℕ)) : Type 0 where
  pub text : List ℕ
  pub written : Appends old new text
  pub report : IsReport network script turns text

-- what is promised of a run that is done, by the bytes that the sink had taken before and after
abbrev pub WritesRun : Option Command → Content → Option (List ℕ) → Option (List ℕ) → Type 0
WritesRun None content old new = ⊤
WritesRun (Some (Bare image turns)) content old new = ⊤
WritesRun (Some (Dtb file)) content old new = ⊤
WritesRun (Some (Check config hw)) content old new = ⊤
WritesRun (Some (Guest config hw name)) content old new = ⊤
WritesRun (Some (Gen number turns)) content old new = ⊤
WritesRun (Some (Run config hw script turns)) content old new =
    WritesReport (network_in content config hw) (script_in content config hw script) turns old new

-- what a run knows of the configuration that it read
abbrev pub ReadsPlain : Command → Content → Type 0
ReadsPlain (Bare image turns) content = ⊤
ReadsPlain (Dtb file) content = ⊤
ReadsPlain (Check config hw) content = ⊤
ReadsPlain (Guest config hw name) content = ⊤
ReadsPlain (Gen number turns) content = ⊤
ReadsPlain (Run config hw script turns) content = IsPlain (setup_in content config hw).accepted
