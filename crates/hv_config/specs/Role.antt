-- What a node of a configuration is, by its name and by what its parent is.
--
--     /                        Root
--       areas/A                Areas, Area
--       channels/C             Channels, Channel        (may be absent)
--       doorbells/D            Doorbells, Doorbell      (may be absent)
--       partitions/P           Partitions, Partition
--         areas/G              GuestAreas, GuestArea
--         handles/H            Handles, Handle          (may be absent)
--
-- Any other node is a stranger.
use Rattle.std.specs.Prelude.{ℕ, Bool, true, false, if◌then◌else◌, List, codes}
use Rattle.std.specs.Str.{bytes_eq}
use Rattle.hv_config.specs.declared.role.Role.{Role}
use Rattle.hv_config.specs.declared.role.Role.TheVariants.{Root, Areas, Area, Channels, Channel, Doorbells, Doorbell, Partitions, Partition, GuestAreas, GuestArea, Handles, Handle, Stranger}

abbrev pub role_in_root : List ℕ → Role
role_in_root name =
    if bytes_eq name (codes "areas") then Areas
    else if bytes_eq name (codes "channels") then Channels
    else if bytes_eq name (codes "doorbells") then Doorbells
    else if bytes_eq name (codes "partitions") then Partitions
    else Stranger

abbrev pub role_in_partition : List ℕ → Role
role_in_partition name =
    if bytes_eq name (codes "areas") then GuestAreas
    else if bytes_eq name (codes "handles") then Handles
    else Stranger

-- what a child is, from what its parent is and its name
abbrev pub child_role : Role → List ℕ → Role
child_role Root name = role_in_root name
child_role Areas name = Area
child_role Channels name = Channel
child_role Doorbells name = Doorbell
child_role Partitions name = Partition
child_role Partition name = role_in_partition name
child_role GuestAreas name = GuestArea
child_role Handles name = Handle
child_role _ name = Stranger

abbrev pub is_stranger : Role → Bool
is_stranger Stranger = true
is_stranger _ = false
