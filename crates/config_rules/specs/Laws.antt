-- Laws of configurations that are accepted.
use Rattle.std.specs.Prelude.{List}
use Rattle.hv_config.specs.declared.config.Config.{Config}
use Rattle.machine_desc.specs.declared.desc.Desc.{Desc}
use Rattle.machine_desc.specs.Joined.{AreJoined}
use Rattle.config_descs.specs.Desc.{descs_of}
use Rattle.config_descs.specs.Limits.{KeepsLimits}
use Rattle.config_descs.specs.Wired.{wiring_of}
use Rattle.config_rules.specs.Accepted.{IsAccepted}
use Rattle.config_rules.specs.Completed.{AreCompleted}
use Rattle.config_rules.specs.Names.{KeepsNames}
use Rattle.config_rules.specs.Parts.{KeepsParts}

-- The descriptions of its partitions are joined with its wiring.
abbrev pub BasesAreJoined : Type 0
BasesAreJoined = (config : Config) → IsAccepted config → AreJoined (descs_of config) (wiring_of config)

-- So are they once images and device trees complete them.
abbrev pub CompletedAreJoined : Type 0
CompletedAreJoined = (config : Config) → IsAccepted config → (descs : List Desc) → AreCompleted config descs → AreJoined descs (wiring_of config)

-- It keeps the limits that its descriptions rest on.
abbrev pub AcceptedKeepLimits : Type 0
AcceptedKeepLimits = (config : Config) → IsAccepted config → KeepsLimits config

-- So does each of its partitions, whose window for its device tree is private.
abbrev pub AcceptedKeepParts : Type 0
AcceptedKeepParts = (config : Config) → IsAccepted config → KeepsParts config

-- No partition's name is taken by a line of the program, and no console's has a blank.
abbrev pub AcceptedKeepNames : Type 0
AcceptedKeepNames = (config : Config) → IsAccepted config → KeepsNames config
