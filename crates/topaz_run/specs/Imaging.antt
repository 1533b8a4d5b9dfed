-- The images of the partitions of an accepted configuration, one after the other in document order.
use Rattle.std.specs.Prelude.{ℕ, List, [], ◌∷◌, ◌++◌, Option, Some, None, codes, decimal}
use Rattle.std.specs.Option.{option_or}
use Rattle.hv_config.specs.declared.config.PartDef.{PartDef}
use Rattle.hv_config.specs.declared.config.Config.{Config}
use Rattle.machine_desc.specs.declared.desc.Desc.{Desc}
use Rattle.config_descs.specs.Desc.{desc_of}
use Rattle.guest_tree.specs.Guest.{guest_blob}
use Rattle.elf_image.specs.Image as file
use Rattle.fresh_load.specs.Described as loaded
use Rattle.topaz_run.specs.Plan.{Plan, Ends, Opens, refusal}

-- a rule of images by its number
abbrev pub image_rule : ℕ → List ℕ
image_rule number = codes "I" ++ decimal number

-- where a rule is broken by the partition's image
abbrev pub part_place : PartDef → List ℕ
part_place part = codes "/partitions/" ++ part.name

-- the partition's description, completed by the image in this file and by its device tree
abbrev pub completed : Config → PartDef → List ℕ → Desc
completed config part bytes = loaded.described (desc_of config part) bytes (file.image_of bytes part.image_at) (guest_blob config part)

-- the least of the rules I1 to I7 that the image in this file breaks
abbrev pub image_fault : Config → PartDef → List ℕ → Option ℕ
image_fault config part bytes =
    option_or (file.first_fault bytes) (loaded.first_fault (desc_of config part) (file.image_of bytes part.image_at) (guest_blob config part))

-- by that rule, or else it goes on with the completed description
abbrev pub completing : Config → PartDef → (Desc → Plan) → List ℕ → Option ℕ → Plan
completing config part next bytes (Some number) = Ends (refusal (image_rule number) (part_place part))
completing config part next bytes None = next (completed config part bytes)

-- The partition's image is read, and it goes on with the description that it completes. F1 is at the partition too.
abbrev pub describing : Config → PartDef → (Desc → Plan) → Plan
describing config part next = Opens part.image (part_place part) (λ bytes. completing config part next bytes (image_fault config part bytes))

-- the images of these partitions, where those before them were described so; it goes on with the descriptions of all
abbrev pub imaging : Config → List PartDef → List Desc → (List Desc → Plan) → Plan
imaging config [] done next = next done
imaging config (part ∷ parts) done next = describing config part (λ desc. imaging config parts (done ++ desc ∷ []) next)
