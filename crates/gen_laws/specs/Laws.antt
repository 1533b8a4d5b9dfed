-- Nothing in a bundle breaks a rule.
use Rattle.std.specs.Prelude.{◌≡◌, ◌<◌, ℕ, List, length, slice_index_or, Option, Some, None}
use Rattle.std.specs.Option.{option_or}
use Rattle.outside.specs.declared.named_file.NamedFile.{NamedFile}
use Rattle.hv_config.specs.declared.config.PartDef.{PartDef}
use Rattle.hv_config.specs.declared.config.Config.{Config}
use Rattle.hv_config.specs.declared.board.Board.{Board}
use Rattle.hv_config.specs.Plain.{IsPlain}
use Rattle.config_checks.specs.Rules.{first_broken}
use Rattle.config_descs.specs.Desc.{desc_of}
use Rattle.guest_tree.specs.Guest.{guest_blob}
use Rattle.elf_image.specs.Image as image
use Rattle.fresh_load.specs.Described as loaded
use Rattle.script.specs.declared.names.Names.{Names}
use Rattle.script.specs.Text.{lines_of}
use Rattle.script.specs.Course.{order_in, said}
use Rattle.script.specs.Fault as script
use Rattle.gen_load.specs.Draws.{count_of, order_of}
use Rattle.gen_load.specs.Meant.{generated_config, generated_board}
use Rattle.gen_load.specs.Files.{images_of, script_text}

-- ---- the configuration

-- It is such as is read from a tree, and breaks no rule on the hardware.
pub record IsAcceptedOn (board : Board) (config : Config) : Type 0 where
  pub plain : IsPlain config
  pub rules : first_broken config board ≡ None

abbrev pub ConfigurationsAreAccepted : Type 0
ConfigurationsAreAccepted = (number : ℕ) → IsAcceptedOn (generated_board (count_of number)) (generated_config (count_of number))

-- ---- the images

-- the least of the rules I1 to I7 that the bytes break as the partition's image
abbrev pub image_fault : Config → PartDef → List ℕ → Option ℕ
image_fault config part bytes =
    option_or (image.first_fault bytes) (loaded.first_fault (desc_of config part) (image.image_of bytes part.image_at) (guest_blob config part))

-- how many bytes each image has
abbrev pub image_size : ℕ
image_size = 84

-- The file is the partition's image, and breaks no rule.
pub record IsImageFor (config : Config) (part : PartDef) (file : NamedFile) : Type 0 where
  pub name : file.name ≡ part.image
  pub size : length file.bytes ≡ image_size
  pub rules : image_fault config part file.bytes ≡ None

-- There are as many files as partitions, and each is the image of the partition of its place.
pub record AreImagesFor (config : Config) (files : List NamedFile) : Type 0 where
  pub many : length files ≡ length config.parts
  pub each : (place : ℕ) → place < length config.parts → (p : PartDef) (f : NamedFile) → IsImageFor config (slice_index_or config.parts place p) (slice_index_or files place f)

abbrev pub ImagesAreSound : Type 0
ImagesAreSound = (number : ℕ) → AreImagesFor (generated_config (count_of number)) (images_of number)

-- ---- the script

-- how many bytes each script has
abbrev pub script_size : ℕ
script_size = 134

-- The script breaks no rule, and orders these cores.
pub record OrdersCores (names : Names) (text : List ℕ) (order : List ℕ) : Type 0 where
  pub size : length text ≡ script_size
  pub rules : script.first_broken names (lines_of text) ≡ None
  pub order_is : order_in (said names (lines_of text)) ≡ Some order

abbrev pub ScriptsAreSound : Type 0
ScriptsAreSound = (names : Names) (number : ℕ) → OrdersCores names (script_text number) (order_of number)
