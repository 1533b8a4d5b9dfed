-- The guest tree as the tokens of a structure block (ePAPR 1.1, 8.4 "Structure Block").
use Rattle.std.specs.Prelude.{ℕ, ◌+◌, List, [], ◌∷◌, ◌++◌, length, codes}
use Rattle.std.specs.List.{flat_map, range_with_len}
use Rattle.hv_config.specs.declared.config.HandleDef.{HandleDef}
use Rattle.hv_config.specs.declared.config.PartDef.{PartDef}
use Rattle.hv_config.specs.declared.config.Config.{Config}
use Rattle.machine_desc.specs.declared.desc.Desc.{Desc}
use Rattle.dt_model.specs.Token.{Token, Finish}
use Rattle.dt_make.specs.Nodes.{node}
use Rattle.config_descs.specs.Desc.{interrupts_of, desc_of}
use Rattle.guest_tree.specs.Properties.{root_properties, cpus_properties, cpu_name, cpu_properties, memory_properties, pic_properties, hypervisor_properties, handle_properties, chosen_properties}

abbrev pub cpu_tokens : Desc → ℕ → List Token
cpu_tokens desc core = node (cpu_name core) (cpu_properties desc core) []

unfoldable pub cpus_tokens : Desc → List Token
cpus_tokens desc = node (codes "cpus") cpus_properties (flat_map (cpu_tokens desc) (range_with_len 0 (length desc.cores)))

-- Of handles from this number on, where the next interrupt is this one. Handles are numbered in document order, and so are their
-- interrupts.
abbrev pub handle_tokens : ℕ → ℕ → List HandleDef → List Token
handle_tokens number next [] = []
handle_tokens number next (handle ∷ handles) =
    node handle.name (handle_properties number next handle) []
    ++ handle_tokens (number + 1) (next + interrupts_of handle.kind) handles

-- handles are numbered from 1, and interrupts from 0
unfoldable pub hypervisor_tokens : PartDef → List Token
hypervisor_tokens part = node (codes "hypervisor") hypervisor_properties (node (codes "handles") [] (handle_tokens 1 0 part.handles))

abbrev pub memory_tokens : Config → PartDef → List Token
memory_tokens config part = node (codes "memory") (memory_properties config part) []

abbrev pub pic_tokens : List Token
pic_tokens = node (codes "pic") pic_properties []

abbrev pub chosen_tokens : PartDef → List Token
chosen_tokens part = node (codes "chosen") (chosen_properties part) []

-- the nodes below the root
unfoldable pub children_tokens : Config → PartDef → List Token
children_tokens config part =
    cpus_tokens (desc_of config part)
    ++ (memory_tokens config part ++ (pic_tokens ++ (hypervisor_tokens part ++ chosen_tokens part)))

unfoldable pub guest_tokens : Config → PartDef → List Token
guest_tokens config part = node [] (root_properties part) (children_tokens config part) ++ Finish ∷ []
