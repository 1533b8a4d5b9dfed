-- What holds of the partitions of an accepted configuration once their images and their device trees are there.
use Rattle.std.specs.Prelude.{◌≡◌, ℕ, ⊤, List, [], ◌∷◌, None}
use Rattle.hv_config.specs.declared.config.PartDef.{PartDef}
use Rattle.hv_config.specs.declared.config.Config.{Config}
use Rattle.hv_config.specs.Plain.{IsPlain}
use Rattle.machine_desc.specs.declared.desc.Desc.{Desc}
use Rattle.machine_desc.specs.Joined.{AreJoined}
use Rattle.config_descs.specs.Desc.{desc_of}
use Rattle.config_descs.specs.Wired.{wiring_of}
use Rattle.config_rules.specs.Accepted.{IsAccepted}
use Rattle.elf_image.specs.declared.image.Image.{Image}
use Rattle.fresh_load.specs.Described.{described, first_fault}
use Rattle.outside.specs.Content.{Content}
use Rattle.network.specs.Laws.{IsNamed}
use Rattle.topaz_run.specs.Plan.{Done, outcome_of}
use Rattle.topaz_run.specs.Outcome.{running}
use Rattle.topaz_run.specs.Runs.{setup_in, network_in, script_in, IsReport}

-- The description is that of the partition, completed by some file's image and by some tree, and none of I4 to I7 is broken.
pub record IsDescribed (config : Config) (part : PartDef) (desc : Desc) : Type 0 where
  pub file : List ℕ
  pub image : Image
  pub tree : List ℕ
  pub kept : first_fault (desc_of config part) image tree ≡ None
  pub is : desc ≡ described (desc_of config part) file image tree

-- one description for each partition
abbrev pub AreDescribed : Config → List PartDef → List Desc → Type 0
AreDescribed config [] [] = ⊤
AreDescribed config (part ∷ parts) (desc ∷ descs) = IsDescribed config part desc × AreDescribed config parts descs
AreDescribed config _ _ = ⊥

-- They are joined with the wiring of the configuration, each of them sound.
abbrev pub DescribedAreJoined : Type 0
DescribedAreJoined = (config : Config) → IsAccepted config → (descs : List Desc) → AreDescribed config config.parts descs → AreJoined descs (wiring_of config)

-- Names tell their lines apart in a report: they are words, differ, and are none that other lines begin with.
abbrev pub DescribedAreNamed : Type 0
DescribedAreNamed =
    (config : Config) → IsAccepted config → (descs : List Desc) → AreDescribed config config.parts descs → IsNamed (record { descs = descs; wiring = wiring_of config })

-- A run that is done writes the report of the network that the files describe, and each partition without shared areas prints in it
-- what its lone machine prints.
abbrev pub DoneRunsPrintAlone : Type 0
DoneRunsPrintAlone =
    (content : Content) (config hw script : List ℕ) (turns : ℕ) (text : List ℕ) → outcome_of content (running config hw script turns) ≡ Done text
    → IsPlain (setup_in content config hw).accepted → IsReport (network_in content config hw) (script_in content config hw script) turns text
