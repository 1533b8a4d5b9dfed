-- The cpus and the memory nodes of a hardware tree, in document order (ePAPR 1.1, 3.4 "Memory Node", 3.6 "CPUS Node Properties"
-- and 3.7 "CPU Node Properties").
use Rattle.std.specs.Prelude.{ℕ, Bool, true, false, if◌then◌else◌, List, [], ◌∷◌, ◌++◌, map, filter, codes, Option}
use Rattle.std.specs.List.{flat_map}
use Rattle.std.specs.Option.{option_map_or}
use Rattle.std.specs.Str.{bytes_eq}
use Rattle.dt_model.specs.declared.tree.Node.{Node}
use Rattle.dt_model.specs.Node.{name_of}
use Rattle.hv_config.specs.declared.cells.Cells.{Cells}
use Rattle.hv_config.specs.declared.cells.Cells.TheVariants.{One, Two}
use Rattle.hv_config.specs.Cells.{cells_of}
use Rattle.hv_config.specs.Meaning.{is_named, children_of, text_at}

-- A cpu's or a memory's node, with its path and the cell counts that its parent gives.
pub record DeviceValue : Type 0 where
  pub is_cpu : Bool
  pub path : List ℕ
  pub address : Option Cells
  pub size : Option Cells
  pub node : Node

abbrev pub is_device : List ℕ → Node → Bool
is_device text node = option_map_or (λ found. bytes_eq found text) (text_at node (codes "device_type")) false

abbrev pub address_in : Node → Option Cells
address_in parent = cells_of parent (codes "#address-cells") Two

abbrev pub size_in : Node → Option Cells
size_in parent = cells_of parent (codes "#size-cells") One

abbrev pub cpu_device : Option Cells → Option Cells → Node → DeviceValue
cpu_device address size node =
    record { is_cpu = true; path = codes "/cpus/" ++ name_of node; address = address; size = size; node = node }

abbrev pub memory_device : Option Cells → Option Cells → Node → DeviceValue
memory_device address size node =
    record { is_cpu = false; path = 0x2f ∷ name_of node; address = address; size = size; node = node }

-- the cpus among the nodes, which stand under one parent
unfoldable pub cpus_among : Option Cells → Option Cells → List Node → List DeviceValue
cpus_among address size nodes = map (cpu_device address size) (filter (is_device (codes "cpu")) nodes)

-- the cpus of a node that holds them
unfoldable pub cpus_under : Node → List DeviceValue
cpus_under parent = cpus_among (address_in parent) (size_in parent) (children_of parent)

-- what a child of the root is, or holds
unfoldable pub devices_at : Option Cells → Option Cells → Node → List DeviceValue
devices_at address size child =
    (if is_device (codes "memory") child then memory_device address size child ∷ [] else [])
    ++ (if is_named (codes "cpus") child then cpus_under child else [])

unfoldable pub devices_of : Node → List DeviceValue
devices_of root = flat_map (devices_at (address_in root) (size_in root)) (children_of root)
