-- What the words mean over what the files contain, and which files they need.
use Rattle.std.specs.Prelude.{ℕ, true, List, [], ◌∷◌, ◌++◌, map, Option, None, Some, nat_lt, length, codes, decimal, if◌then◌else◌}
use Rattle.dt_model.specs.Fault.{first_fault}
use Rattle.dt_model.specs.Canonical.{rewritten, most_bytes}
use Rattle.outside.specs.Content.{Content}
use Rattle.hv_config.specs.declared.config.PartDef.{PartDef}
use Rattle.hv_config.specs.declared.config.Config.{Config}
use Rattle.hv_config.specs.declared.board.Board.{Board}
use Rattle.hv_config.specs.declared.board.Cpu.{Cpu}
use Rattle.hv_config.specs.declared.fault.Rule.{Rule}
use Rattle.hv_config.specs.Rule.{Breach}
use Rattle.hv_read.specs.Read.{Flaw, BlobRule, TreeRule, config_flaw, config_said, hardware_flaw, board_said}
use Rattle.config_checks.specs.Rules.{first_broken}
use Rattle.config_descs.specs.Numbered.{part_named}
use Rattle.config_descs.specs.Wired.{wiring_of}
use Rattle.machine_desc.specs.declared.desc.Desc.{Desc}
use Rattle.guest_tree.specs.Guest.{guest_blob}
use Rattle.network.specs.Network.{Network}
use Rattle.gen_load.specs.Draws.{count_of}
use Rattle.gen_load.specs.Files.{images_of, script_text}
use Rattle.gen_load.specs.Meant.{generated_config, generated_board}
use Rattle.script.specs.declared.names.Names.{Names}
use Rattle.script.specs.Text.{lines_of}
use Rattle.script.specs.Course.{course_of}
use Rattle.script.specs.Fault.{Broken, first_broken as first_broken_line}
use Rattle.topaz_run.specs.declared.setup.Setup.{Setup}
use Rattle.topaz_run.specs.declared.telling.Telling.{Telling}
use Rattle.topaz_run.specs.declared.telling.Telling.TheVariants.{Report, Summary}
use Rattle.topaz_run.specs.Words.{Command, Bare, Dtb, Check, Guest, Run, Gen, command_of}
use Rattle.topaz_run.specs.Text.{accepted_line, line_place}
use Rattle.topaz_run.specs.Reported.{given_by, reported, told}
use Rattle.topaz_run.specs.Imaging.{imaging}
use Rattle.topaz_run.specs.BuiltIn.{memory_size, built_in_network, built_in_names}
use Rattle.topaz_run.specs.Plan.{Outcome, Misused, Lacking, Refused, Done, Plan, Ends, Opens, refusal, outcome_of, needs_of}

-- ---- bare

-- the built-in machine on an image, whose script has no line: I4 where it doesn't fit the memory
unfoldable pub bare : List ℕ → ℕ → List ℕ → Outcome
bare name turns image =
    if nat_lt memory_size (length image) then refusal (codes "I4") name
    else reported (built_in_network image) (given_by (course_of built_in_names [])) turns

-- ---- dtb

-- a blob's rule of that number
abbrev pub blob_rule : ℕ → List ℕ
blob_rule number = codes "B" ++ decimal number

-- a blob to write: B4 where it is too large to be read again
abbrev pub writing : List ℕ → List ℕ → Outcome
writing name blob = if nat_lt most_bytes (length blob) then refusal (blob_rule 4) name else Done blob

-- by the first rule that the bytes break, or else what they are rewritten to
abbrev pub rewriting : List ℕ → List ℕ → Option ℕ → Outcome
rewriting name bytes (Some rule) = refusal (blob_rule rule) name
rewriting name bytes None = writing name (rewritten bytes)

-- the canonical blob of the tree that the bytes are a blob of
abbrev pub dtb : List ℕ → List ℕ → Outcome
dtb name bytes = rewriting name bytes (first_fault bytes)

-- ---- check

-- a rule of scripts by its number
abbrev pub script_rule : ℕ → List ℕ
script_rule number = codes "S" ++ decimal number

-- a rule by its letter and its number
abbrev pub rule_text : Rule → List ℕ
rule_text rule = (rule.letter ∷ []) ++ decimal rule.number

-- the rule is broken at the node
abbrev pub broken : Breach → Outcome
broken breach = refusal (rule_text breach.rule) breach.at

-- a rule of blobs is broken at the file's word, one of trees at a node
abbrev pub flawed : List ℕ → Flaw → Outcome
flawed file (BlobRule rule) = refusal (blob_rule rule) file
flawed file (TreeRule breach) = broken breach

-- by the first of the rules C5 to C22 that the configuration breaks, or else it goes on
abbrev pub ruled : (Setup → Plan) → Config → Board → Option Breach → Plan
ruled next config board (Some breach) = Ends (broken breach)
ruled next config board None = next (record { accepted = config; board = board })

-- what comes of the hardware's file
abbrev pub equipped : List ℕ → (Setup → Plan) → Config → List ℕ → Option Flaw → Plan
equipped hw next config bytes (Some flaw) = Ends (flawed hw flaw)
equipped hw next config bytes None = ruled next config (board_said bytes) (first_broken config (board_said bytes))

-- the hardware is read where the configuration's file is right
abbrev pub equipping : List ℕ → (Setup → Plan) → Config → Plan
equipping hw next config = Opens hw hw (λ bytes. equipped hw next config bytes (hardware_flaw bytes))

-- how it goes on behind the configuration's file
abbrev pub configured : List ℕ → List ℕ → (Setup → Plan) → List ℕ → Option Flaw → Plan
configured config hw next bytes (Some flaw) = Ends (flawed config flaw)
configured config hw next bytes None = equipping hw next (config_said bytes)

-- The configuration's file is right before the hardware's is opened, and it goes on with the configuration that is accepted and
-- its hardware.
abbrev pub accepting : List ℕ → List ℕ → (Setup → Plan) → Plan
accepting config hw next = Opens config config (λ bytes. configured config hw next bytes (config_flaw bytes))

-- an accepted configuration's numbers
abbrev pub numbers : Config → Outcome
numbers config = Done (accepted_line (length config.parts) (length config.areas) (length config.channels) (length config.bells))

abbrev pub checking : List ℕ → List ℕ → Plan
checking config hw = accepting config hw (λ setup. Ends (numbers setup.accepted))

-- ---- guest

-- the blob of a partition's guest tree: Q1 where there is no partition of the name
abbrev pub guest_of : List ℕ → Config → Option PartDef → Outcome
guest_of name config None = refusal (codes "Q1") name
guest_of name config (Some part) = Done (guest_blob config part)

abbrev pub guest : List ℕ → Config → Outcome
guest name config = guest_of name config (part_named config.parts name)

abbrev pub showing : List ℕ → List ℕ → List ℕ → Plan
showing config hw name = accepting config hw (λ setup. Ends (guest name setup.accepted))

-- ---- run

-- the descriptions of an accepted configuration's partitions, with its wiring
abbrev pub network_for : Setup → List Desc → Network
network_for setup descs = record { descs = descs; wiring = wiring_of setup.accepted }

-- what a script may name: the consoles of the configuration, and the cpus of the hardware, usable or not
abbrev pub names_for : Setup → Names
names_for setup = record { consoles = (wiring_of setup.accepted).consoles; cpus = map (λ (cpu : Cpu). cpu.number) setup.board.cpus }

-- by the first rule that the lines of the script break, or else what is told of the run
abbrev pub following : Telling → ℕ → Setup → List Desc → List (List ℕ) → Option Broken → Outcome
following telling turns setup descs lines (Some broken) = refusal (script_rule broken.number) (line_place broken.line)
following telling turns setup descs lines None = told telling (network_for setup descs) (given_by (course_of (names_for setup) lines)) turns

abbrev pub reporting : Telling → ℕ → Setup → List Desc → List (List ℕ) → Outcome
reporting telling turns setup descs lines = following telling turns setup descs lines (first_broken_line (names_for setup) lines)

-- the script is read once the partitions are described
abbrev pub scripted : List ℕ → ℕ → Setup → List Desc → Plan
scripted script turns setup descs = Opens script script (λ bytes. Ends (reporting Report turns setup descs (lines_of bytes)))

abbrev pub imaged : List ℕ → ℕ → Setup → Plan
imaged script turns setup = imaging setup.accepted setup.accepted.parts [] (λ descs. scripted script turns setup descs)

abbrev pub running : List ℕ → List ℕ → List ℕ → ℕ → Plan
running config hw script turns = accepting config hw (λ setup. imaged script turns setup)

-- ---- gen

-- the files of the bundle that a number makes
abbrev pub files_of : ℕ → Content
files_of number = record { files = images_of number; others_are_empty = true }

-- the run of the described partitions on the bundle's script
abbrev pub summing : ℕ → ℕ → Setup → List Desc → Outcome
summing number turns setup descs = reporting (Summary number) turns setup descs (lines_of (script_text number))

abbrev pub supplied : ℕ → ℕ → Setup → Plan
supplied number turns setup = imaging setup.accepted setup.accepted.parts [] (λ descs. Ends (summing number turns setup descs))

-- the configuration of the bundle on its hardware, of so many partitions
abbrev pub ruling : ℕ → (Setup → Plan) → Plan
ruling count next = ruled next (generated_config count) (generated_board count) (first_broken (generated_config count) (generated_board count))

-- The bundle goes through what the files of a run go through. No file is opened but its own.
abbrev pub generated : ℕ → ℕ → Outcome
generated number turns = outcome_of (files_of number) (ruling (count_of number) (λ setup. supplied number turns setup))

-- ---- every command

-- the order of each command; F1 of a file that a word names is at that word
abbrev pub plan_of : Command → Plan
plan_of (Bare image turns) = Opens image image (λ bytes. Ends (bare image turns bytes))
plan_of (Dtb file) = Opens file file (λ bytes. Ends (dtb file bytes))
plan_of (Check config hw) = checking config hw
plan_of (Guest config hw name) = showing config hw name
plan_of (Run config hw script turns) = running config hw script turns
plan_of (Gen number turns) = Ends (generated number turns)

abbrev pub outcome_if : Option Command → Content → Outcome
outcome_if None content = Misused
outcome_if (Some command) content = outcome_of content (plan_of command)

abbrev pub outcome : List (List ℕ) → Content → Outcome
outcome words content = outcome_if (command_of words) content

-- the text of an outcome
abbrev pub text_of : Outcome → List ℕ
text_of Misused = []
text_of Lacking = []
text_of (Refused text) = text
text_of (Done text) = text

abbrev pub needs_if : Option Command → Content → List (List ℕ)
needs_if None content = []
needs_if (Some command) content = needs_of content (plan_of command)

abbrev pub needs : List (List ℕ) → Content → List (List ℕ)
needs words content = needs_if (command_of words) content
