-- What joins the partitions of a configuration.
use Rattle.std.specs.Prelude.{ℕ, ◌+◌, Bool, true, false, ◌&&◌, is_some, if◌then◌else◌, List, [], ◌∷◌, ◌++◌, map, Option, Some, None}
use Rattle.std.specs.List.{filter_map}
use Rattle.std.specs.Str.{bytes_eq}
use Rattle.hv_config.specs.declared.form.Kind.{Kind}
use Rattle.hv_config.specs.declared.form.Kind.TheVariants.{Channel, Send, Receive, Manage}
use Rattle.hv_config.specs.declared.config.AreaDef.{AreaDef}
use Rattle.hv_config.specs.declared.config.ChannelDef.{ChannelDef}
use Rattle.hv_config.specs.declared.config.BellDef.{BellDef}
use Rattle.hv_config.specs.declared.config.HandleDef.{HandleDef}
use Rattle.hv_config.specs.declared.config.PartDef.{PartDef}
use Rattle.hv_config.specs.declared.config.Config.{Config}
use Rattle.machine_desc.specs.declared.wiring.PortRef.{PortRef}
use Rattle.machine_desc.specs.declared.wiring.End.TheVariants as end
use Rattle.machine_desc.specs.declared.wiring.Link.{Link}
use Rattle.machine_desc.specs.declared.wiring.Bell.{Bell}
use Rattle.machine_desc.specs.declared.wiring.Wiring.{Wiring}

-- ---- the handles on something

abbrev pub same_kind : Kind → Kind → Bool
same_kind Channel Channel = true
same_kind Send Send = true
same_kind Receive Receive = true
same_kind Manage Manage = true
same_kind _ _ = false

-- the handle is of the kind, and stands for what has that name
abbrev pub is_on : Kind → List ℕ → HandleDef → Bool
is_on kind name handle = same_kind handle.kind kind && bytes_eq handle.target name

-- those of one partition, whose handles have this number and on
abbrev pub refs_in : Kind → List ℕ → ℕ → ℕ → List HandleDef → List PortRef
refs_in kind name part number [] = []
refs_in kind name part number (handle ∷ handles) =
    if is_on kind name handle then record { part = part; handle = number } ∷ refs_in kind name part (number + 1) handles
    else refs_in kind name part (number + 1) handles

-- those of partitions that have this number and on; handles are numbered from 1
abbrev pub refs_from : Kind → List ℕ → ℕ → List PartDef → List PortRef
refs_from kind name number [] = []
refs_from kind name number (part ∷ parts) = refs_in kind name number 1 part.handles ++ refs_from kind name (number + 1) parts

-- all of them, in the order of partitions and handles
unfoldable pub refs_of : List PartDef → Kind → List ℕ → List PortRef
refs_of parts kind name = refs_from kind name 0 parts

-- ---- channels and consoles

-- Two handles are linked, or a handle and a console. No channel that keeps the rules has other ends.
abbrev pub link_of : List PortRef → Option ℕ → Link
link_of (a ∷ b ∷ others) console = record { a = end.Part a; b = end.Part b }
link_of (a ∷ []) (Some number) = record { a = end.Part a; b = end.Console number }
link_of _ console = record { a = end.Console 0; b = end.Console 0 }

-- the channel's console, where it has one and the next console has this number
abbrev pub console_of : ℕ → ChannelDef → Option ℕ
console_of number channel = if is_some channel.console then Some number else None

-- the number of the next console behind the channel
abbrev pub behind_console : ℕ → ChannelDef → ℕ
behind_console number channel = if is_some channel.console then number + 1 else number

-- consoles are numbered from 0 in the order of their channels
abbrev pub links_from : List PartDef → ℕ → List ChannelDef → List Link
links_from parts number [] = []
links_from parts number (channel ∷ channels) =
    link_of (refs_of parts Channel channel.name) (console_of number channel) ∷ links_from parts (behind_console number channel) channels

-- ---- doorbells and managers

unfoldable pub bell_of : List PartDef → BellDef → Bell
bell_of parts bell = record { senders = refs_of parts Send bell.name; receivers = refs_of parts Receive bell.name }

abbrev pub first_ref : List PortRef → Option PortRef
first_ref [] = None
first_ref (one ∷ others) = Some one

unfoldable pub manager_of : List PartDef → PartDef → Option PortRef
manager_of parts part = first_ref (refs_of parts Manage part.name)

-- ---- the whole

-- extents are the areas in document order, links the channels, bells the doorbells, managers those of the partitions
unfoldable pub wiring_of : Config → Wiring
wiring_of config = record {
  sizes = map (λ (area : AreaDef). area.size) config.areas;
  reals = map (λ (area : AreaDef). area.base) config.areas;
  links = links_from config.parts 0 config.channels;
  bells = map (bell_of config.parts) config.bells;
  managers = map (manager_of config.parts) config.parts;
  consoles = filter_map (λ (channel : ChannelDef). channel.console) config.channels;
}
