-- Nodes of a configuration that break a rule, and which of two stands first.
use Rattle.std.specs.Prelude.{ℕ, Bool, true, false, nat_lt, if◌then◌else◌, List, ◌∷◌, ◌++◌, codes, Option, Some, None}
use Rattle.std.specs.Option.{option_map}
use Rattle.hv_config.specs.declared.config.AreaDef.{AreaDef}
use Rattle.hv_config.specs.declared.config.ChannelDef.{ChannelDef}
use Rattle.hv_config.specs.declared.config.BellDef.{BellDef}
use Rattle.hv_config.specs.declared.config.GuestAreaDef.{GuestAreaDef}
use Rattle.hv_config.specs.declared.config.HandleDef.{HandleDef}
use Rattle.hv_config.specs.declared.config.PartDef.{PartDef}

-- A node's path, and where the list that it belongs to stands among the root's children. Where lists aren't compared, 0.
pub record Spot : Type 0 where
  pub place : ℕ
  pub path : List ℕ

-- ---- nodes by their paths

-- a node of a list: a slash, the list's name, a slash, the node's name
abbrev pub path_in : List ℕ → List ℕ → List ℕ
path_in list name = 0x2f ∷ (list ++ 0x2f ∷ name)

abbrev pub entry_spot : List ℕ → List ℕ → Spot
entry_spot list name = record { place = 0; path = path_in list name }

-- a list of the root itself
abbrev pub list_spot : ℕ → List ℕ → Spot
list_spot place list = record { place = place; path = 0x2f ∷ list }

-- a node of a list of a partition
abbrev pub inner_spot : PartDef → List ℕ → List ℕ → Spot
inner_spot part list name = record { place = 0; path = path_in (codes "partitions") part.name ++ path_in list name }

-- a list of a partition itself
abbrev pub inner_list_spot : PartDef → List ℕ → Spot
inner_list_spot part list = record { place = 0; path = path_in (codes "partitions") part.name ++ 0x2f ∷ list }

abbrev pub area_spot : AreaDef → Spot
area_spot area = entry_spot (codes "areas") area.name

abbrev pub channel_spot : ChannelDef → Spot
channel_spot channel = entry_spot (codes "channels") channel.name

abbrev pub bell_spot : BellDef → Spot
bell_spot bell = entry_spot (codes "doorbells") bell.name

abbrev pub part_spot : PartDef → Spot
part_spot part = entry_spot (codes "partitions") part.name

abbrev pub guest_spot : PartDef → GuestAreaDef → Spot
guest_spot part guest = inner_spot part (codes "areas") guest.name

abbrev pub handle_spot : PartDef → HandleDef → Spot
handle_spot part handle = inner_spot part (codes "handles") handle.name

-- ---- which stands first

-- the same in the list that stands there
unfoldable pub at_place : ℕ → Spot → Spot
at_place place spot = record { place = place; path = spot.path }

-- what was found, in the list that stands there
unfoldable pub placed : ℕ → Option Spot → Option Spot
placed place spot = option_map (at_place place) spot

-- of two that were found in different lists of the root, the one that stands first
unfoldable pub earlier : Option Spot → Option Spot → Option Spot
earlier None other = other
earlier (Some spot) None = Some spot
earlier (Some spot) (Some other) = if nat_lt other.place spot.place then Some other else Some spot

-- a guest area or a handle of the partition, whichever stands first
unfoldable pub first_inner : PartDef → Option GuestAreaDef → Option HandleDef → Option Spot
first_inner part None None = None
first_inner part None (Some handle) = Some (handle_spot part handle)
first_inner part (Some guest) None = Some (guest_spot part guest)
first_inner part (Some guest) (Some handle) = if nat_lt part.handles_at part.areas_at then Some (handle_spot part handle) else Some (guest_spot part guest)

-- the partition's list of guest areas or its list of handles, where the test holds of it, whichever stands first
unfoldable pub first_list : PartDef → Bool → Bool → Option Spot
first_list part false false = None
first_list part false true = Some (inner_list_spot part (codes "handles"))
first_list part true false = Some (inner_list_spot part (codes "areas"))
first_list part true true = if nat_lt part.handles_at part.areas_at then Some (inner_list_spot part (codes "handles")) else Some (inner_list_spot part (codes "areas"))
