-- The rows of the guest tree, in document order.
use Rattle.std.specs.Prelude.{ℕ, ◌+◌, List, [], ◌∷◌, ◌++◌, length, map, codes}
use Rattle.std.specs.List.{flat_map, range_with_len}
use Rattle.hv_config.specs.declared.config.HandleDef.{HandleDef}
use Rattle.hv_config.specs.declared.config.PartDef.{PartDef}
use Rattle.hv_config.specs.declared.config.Config.{Config}
use Rattle.machine_desc.specs.declared.desc.Desc.{Desc}
use Rattle.dt_model.specs.declared.tree.Property.{Property}
use Rattle.dt_model.specs.Node.{Row, NodeRow, PropertyRow}
use Rattle.config_descs.specs.Desc.{interrupts_of, desc_of}
use Rattle.guest_tree.specs.Properties.{root_properties, cpus_properties, cpu_name, cpu_properties, memory_properties, pic_properties, hypervisor_properties, handle_properties, handle_path, chosen_properties}

-- a node's row, and then its properties'
abbrev pub node_rows : List ℕ → List Property → List Row
node_rows path properties = NodeRow path ∷ map (λ property. PropertyRow path property.name property.value) properties

abbrev pub cpu_rows : Desc → ℕ → List Row
cpu_rows desc core = node_rows (codes "/cpus/" ++ cpu_name core) (cpu_properties desc core)

-- the node over the cores, and then each core's
unfoldable pub cpus_rows : Desc → List Row
cpus_rows desc = node_rows (codes "/cpus") cpus_properties ++ flat_map (cpu_rows desc) (range_with_len 0 (length desc.cores))

-- of handles from this number on, where the next interrupt is this one
abbrev pub handle_rows : ℕ → ℕ → List HandleDef → List Row
handle_rows number next [] = []
handle_rows number next (handle ∷ handles) =
    node_rows (handle_path handle) (handle_properties number next handle)
    ++ handle_rows (number + 1) (next + interrupts_of handle.kind) handles

-- the node over the handles, and then each handle's
unfoldable pub handles_rows : PartDef → List Row
handles_rows part = node_rows (codes "/hypervisor/handles") [] ++ handle_rows 1 0 part.handles

unfoldable pub guest_rows : Config → PartDef → List Row
guest_rows config part =
    node_rows (codes "/") (root_properties part)
    ++ (cpus_rows (desc_of config part)
    ++ (node_rows (codes "/memory") (memory_properties config part)
    ++ (node_rows (codes "/pic") pic_properties
    ++ (node_rows (codes "/hypervisor") hypervisor_properties
    ++ (handles_rows part
    ++ node_rows (codes "/chosen") (chosen_properties part))))))
