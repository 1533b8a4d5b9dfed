-- The description of a partition of a configuration, before its image and its device tree are there.
use Rattle.std.specs.Prelude.{ℕ, ◌+◌, Bool, false, not, List, [], ◌∷◌, map, filter}
use Rattle.std.specs.List.{list_any}
use Rattle.std.specs.Option.{option_map_or}
use Rattle.hv_config.specs.declared.form.Kind.{Kind}
use Rattle.hv_config.specs.declared.form.Kind.TheVariants as kind
use Rattle.hv_config.specs.declared.config.GuestAreaDef.{GuestAreaDef}
use Rattle.hv_config.specs.declared.config.HandleDef.{HandleDef}
use Rattle.hv_config.specs.declared.config.PartDef.{PartDef}
use Rattle.hv_config.specs.declared.config.Config.{Config}
use Rattle.machine_desc.specs.declared.desc.Region.{Region}
use Rattle.machine_desc.specs.declared.desc.Span.{Span}
use Rattle.machine_desc.specs.declared.desc.Port.{Port}
use Rattle.machine_desc.specs.declared.desc.Port.TheVariants as port
use Rattle.machine_desc.specs.declared.desc.Desc.{Desc}
use Rattle.config_checks.specs.Found.{size_of, is_private}
use Rattle.config_descs.specs.Numbered.{extent_of, base_of, number_of, part_named}

-- ---- memory

-- a guest area is a region over the whole of its area
unfoldable pub region_of : Config → GuestAreaDef → Region
region_of config guest = record {
  logical = guest.at;
  size = size_of config.areas guest.area;
  extent = extent_of config.areas guest.area;
  real = base_of config.areas guest.area;
  private = is_private config.parts guest.area;
}

unfoldable pub span_of : Config → GuestAreaDef → Span
span_of config guest = record { at = guest.at; size = size_of config.areas guest.area }

-- its private guest areas, in document order
unfoldable pub private_spans : Config → PartDef → List Span
private_spans config part = map (span_of config) (filter (λ (guest : GuestAreaDef). is_private config.parts guest.area) part.areas)

-- ---- handles

-- a handle that manages the partition with that name
unfoldable pub manage_port : Config → List ℕ → Port
manage_port config name =
    port.Manage (number_of config.parts name)
    (option_map_or (λ (part : PartDef). part.held) (part_named config.parts name) false)
    (option_map_or (private_spans config) (part_named config.parts name) [])

-- how many interrupts a handle of the kind takes
abbrev pub interrupts_of : Kind → ℕ
interrupts_of kind.Channel = 2
interrupts_of kind.Receive = 1
interrupts_of _ = 0

-- what a handle of the kind stands for, where its first interrupt would be this one; of a channel the first is for received bytes
abbrev pub kind_port : Config → ℕ → Kind → List ℕ → Port
kind_port config next kind.Channel name = port.Channel next (next + 1)
kind_port config next kind.Send name = port.Send
kind_port config next kind.Receive name = port.Receive next
kind_port config next kind.Manage name = manage_port config name

abbrev pub port_of : Config → ℕ → HandleDef → Port
port_of config next handle = kind_port config next handle.kind handle.target

-- interrupts are numbered in the order of handles
abbrev pub ports_from : Config → ℕ → List HandleDef → List Port
ports_from config next [] = []
ports_from config next (handle ∷ handles) =
    port_of config next handle ∷ ports_from config (next + interrupts_of handle.kind) handles

-- ---- the whole

-- without pieces, and with entry 0
unfoldable pub desc_of : Config → PartDef → Desc
desc_of config part = record {
  name = part.name;
  regions = map (region_of config) part.areas;
  cores = part.cpus;
  ports = ports_from config 0 part.handles;
  tree_at = part.tree_at;
  tree_size = part.tree_size;
  entry = 0;
  held = part.held;
  pieces = [];
}

-- of each partition, in document order
abbrev pub descs_of : Config → List Desc
descs_of config = map (desc_of config) config.parts

-- whether the partition has a guest area that is not private
abbrev pub shares : Config → PartDef → Bool
shares config part = list_any (λ (guest : GuestAreaDef). not (is_private config.parts guest.area)) part.areas
