-- Which descriptions are joined by a wiring.
use Rattle.std.specs.Prelude.{◌≡◌, ℕ, ◌+◌, ◌-◌, Bool, true, false, ◌&&◌, not, nat_lt, nat_le, ◌==◌, if◌then◌else◌, List, [], ◌∷◌, length, map, filter, sum, sum_by, count_by, Option, Some, None, slice_get}
use Rattle.std.specs.List.{list_all, list_any, range_with_len}
use Rattle.std.specs.Option.{option_map_or}
use Rattle.machine_desc.specs.declared.desc.Region.{Region}
use Rattle.machine_desc.specs.declared.desc.Span.{Span}
use Rattle.machine_desc.specs.declared.desc.Port.{Port}
use Rattle.machine_desc.specs.declared.desc.Port.TheVariants.{Channel, Send, Receive, Manage}
use Rattle.machine_desc.specs.declared.desc.Desc.{Desc}
use Rattle.machine_desc.specs.declared.wiring.PortRef.{PortRef}
use Rattle.machine_desc.specs.declared.wiring.End.{End}
use Rattle.machine_desc.specs.declared.wiring.End.TheVariants.{Part, Console}
use Rattle.machine_desc.specs.declared.wiring.Link.{Link}
use Rattle.machine_desc.specs.declared.wiring.Bell.{Bell}
use Rattle.machine_desc.specs.declared.wiring.Wiring.{Wiring}
use Rattle.machine_desc.specs.Limits.{most_partitions, most_bytes}
use Rattle.machine_desc.specs.Ranges.{ranges_meet, none_meets}
use Rattle.machine_desc.specs.Sound.{is_sound}

-- ---- partitions and cores

abbrev pub same_number : ℕ → ℕ → Bool
same_number number other = number == other

abbrev pub share_core : Desc → Desc → Bool
share_core desc other = list_any (λ core. list_any (same_number core) other.cores) desc.cores

-- No description names a core twice, and no two name the same.
unfoldable pub are_cores_apart : List Desc → Bool
are_cores_apart descs = list_all (λ (desc : Desc). none_meets same_number [] desc.cores) descs && none_meets share_core [] descs

-- ---- real memory

-- the real range of an extent
abbrev pub extent_spans : List ℕ → List ℕ → List Span
extent_spans (real ∷ reals) (size ∷ sizes) = record { at = real; size = size } ∷ extent_spans reals sizes
extent_spans _ _ = []

abbrev pub spans_meet : Span → Span → Bool
spans_meet span other = ranges_meet span.at span.size other.at other.size

unfoldable pub are_extents_sound : Wiring → Bool
are_extents_sound wiring =
    length wiring.sizes == length wiring.reals
    && nat_le (sum wiring.sizes) most_bytes
    && none_meets spans_meet [] (extent_spans wiring.reals wiring.sizes)

-- the list has the number at this place
abbrev pub has_at : List ℕ → ℕ → ℕ → Bool
has_at numbers place number = option_map_or (same_number number) (slice_get numbers place) false

abbrev pub names_extent : ℕ → Desc → Bool
names_extent extent desc = list_any (λ (region : Region). region.extent == extent) desc.regions

abbrev pub same_bool : Bool → Bool → Bool
same_bool one other = if one then other else not other

-- It is an extent of its size at its real address, private exactly where one description alone names that extent.
unfoldable pub is_region_joined : List Desc → Wiring → Region → Bool
is_region_joined descs wiring region =
    has_at wiring.sizes region.extent region.size
    && has_at wiring.reals region.extent region.real
    && same_bool region.private (count_by (names_extent region.extent) descs == 1)

unfoldable pub are_regions_joined : List Desc → Wiring → Bool
are_regions_joined descs wiring = list_all (λ (desc : Desc). list_all (is_region_joined descs wiring) desc.regions) descs

-- ---- handles

abbrev pub same_ref : PortRef → PortRef → Bool
same_ref ref other = ref.part == other.part && ref.handle == other.handle

-- what the handle stands for; handles are numbered from 1
abbrev pub port_at : List Desc → PortRef → Option Port
port_at descs ref =
    if ref.handle == 0 then None
    else option_map_or (λ (desc : Desc). slice_get desc.ports (ref.handle - 1)) (slice_get descs ref.part) None

abbrev pub is_channel : Port → Bool
is_channel (Channel rx tx) = true
is_channel _ = false

abbrev pub is_send : Port → Bool
is_send Send = true
is_send _ = false

abbrev pub is_receive : Port → Bool
is_receive (Receive irq) = true
is_receive _ = false

-- it manages the partition of this number
abbrev pub is_manager : ℕ → Port → Bool
is_manager number (Manage part held private) = part == number
is_manager number _ = false

abbrev pub names_port : (Port → Bool) → List Desc → PortRef → Bool
names_port sort descs ref = option_map_or sort (port_at descs ref) false

-- ---- links

abbrev pub is_at : PortRef → End → Bool
is_at ref (Part other) = same_ref ref other
is_at ref (Console number) = false

abbrev pub is_console : ℕ → End → Bool
is_console number (Part ref) = false
is_console number (Console other) = number == other

-- a channel handle, or a console
abbrev pub is_end : List Desc → Wiring → End → Bool
is_end descs wiring (Part ref) = names_port is_channel descs ref
is_end descs wiring (Console number) = nat_lt number (length wiring.consoles)

-- not two consoles, and not two handles of one partition
abbrev pub are_ends_apart : End → End → Bool
are_ends_apart (Part ref) (Part other) = not (ref.part == other.part)
are_ends_apart (Console number) (Console other) = false
are_ends_apart _ _ = true

abbrev pub is_link_joined : List Desc → Wiring → Link → Bool
is_link_joined descs wiring link = is_end descs wiring link.a && is_end descs wiring link.b && are_ends_apart link.a link.b

-- how many ends of links are at the handle
unfoldable pub ends_at : PortRef → List Link → ℕ
ends_at ref links = count_by (λ (link : Link). is_at ref link.a) links + count_by (λ (link : Link). is_at ref link.b) links

-- how many ends of links are at the console
unfoldable pub ends_at_console : ℕ → List Link → ℕ
ends_at_console number links = count_by (λ (link : Link). is_console number link.a) links + count_by (λ (link : Link). is_console number link.b) links

abbrev pub is_console_linked : List Link → ℕ → Bool
is_console_linked links number = ends_at_console number links == 1

unfoldable pub are_links_joined : List Desc → Wiring → Bool
are_links_joined descs wiring =
    list_all (is_link_joined descs wiring) wiring.links && list_all (is_console_linked wiring.links) (range_with_len 0 (length wiring.consoles))

-- ---- doorbells

abbrev pub is_bell_joined : List Desc → Bell → Bool
is_bell_joined descs bell = list_all (names_port is_send descs) bell.senders && list_all (names_port is_receive descs) bell.receivers

unfoldable pub are_bells_joined : List Desc → Wiring → Bool
are_bells_joined descs wiring = list_all (is_bell_joined descs) wiring.bells

-- how many senders the handle is
unfoldable pub senders_at : PortRef → List Bell → ℕ
senders_at ref bells = sum_by (λ (bell : Bell). count_by (same_ref ref) bell.senders) bells

-- how many receivers the handle is
unfoldable pub receivers_at : PortRef → List Bell → ℕ
receivers_at ref bells = sum_by (λ (bell : Bell). count_by (same_ref ref) bell.receivers) bells

-- ---- managers

abbrev pub span_of : Region → Span
span_of region = record { at = region.logical; size = region.size }

-- the ranges of the private ones, region after region
unfoldable pub private_spans_of : List Region → List Span
private_spans_of regions = map span_of (filter (λ (region : Region). region.private) regions)

-- the span at this place is the region's
abbrev pub has_span : List Span → ℕ → Region → Bool
has_span spans place region = option_map_or (λ (span : Span). span.at == region.logical && span.size == region.size) (slice_get spans place) false

abbrev pub same_spans : List Span → List Span → Bool
same_spans [] [] = true
same_spans (span ∷ spans) (other ∷ others) = (span.at == other.at && span.size == other.size) && same_spans spans others
same_spans _ _ = false

unfoldable pub are_private_spans : List Span → List Region → Bool
are_private_spans spans regions = same_spans spans (private_spans_of regions)

-- the place behind the region's span, where the region is private, and none where another span is there
unfoldable pub behind_span : List Span → ℕ → Region → Option ℕ
behind_span spans place region =
    if region.private then (if has_span spans place region then Some (place + 1) else None) else Some place

-- the partition begins as the handle says, and has its private ranges
abbrev pub is_managed_as : Bool → List Span → Desc → Bool
is_managed_as held private desc = same_bool held desc.held && are_private_spans private desc.regions

abbrev pub is_part_managed_as : List Desc → ℕ → Bool → List Span → Bool
is_part_managed_as descs number held private = option_map_or (is_managed_as held private) (slice_get descs number) false

-- the handle is the one that the wiring names for that partition
abbrev pub is_manager_of : List (Option PortRef) → PortRef → ℕ → Bool
is_manager_of managers ref part = option_map_or (λ (manager : Option PortRef). option_map_or (same_ref ref) manager false) (slice_get managers part) false

-- of another partition
unfoldable pub is_manage_joined : List Desc → Wiring → PortRef → ℕ → Bool → List Span → Bool
is_manage_joined descs wiring ref part held private =
    not (part == ref.part)
    && is_part_managed_as descs part held private
    && is_manager_of wiring.managers ref part

-- the manager of the partition of this number, where one is named, is a handle that manages it
abbrev pub is_manager_right : List Desc → ℕ → Option PortRef → Bool
is_manager_right descs part manager = option_map_or (names_port (is_manager part) descs) manager true

abbrev pub are_managers_right : List Desc → ℕ → List (Option PortRef) → Bool
are_managers_right descs part [] = true
are_managers_right descs part (manager ∷ managers) = is_manager_right descs part manager && are_managers_right descs (part + 1) managers

unfoldable pub are_managers_joined : List Desc → Wiring → Bool
are_managers_joined descs wiring = length wiring.managers == length descs && are_managers_right descs 0 wiring.managers

-- ---- each handle

-- A channel handle is one end of one link, a send handle one sender, a receive handle one receiver; a manage handle is as above.
unfoldable pub is_port_joined : List Desc → Wiring → PortRef → Port → Bool
is_port_joined descs wiring ref (Channel rx tx) = ends_at ref wiring.links == 1
is_port_joined descs wiring ref Send = senders_at ref wiring.bells == 1
is_port_joined descs wiring ref (Receive irq) = receivers_at ref wiring.bells == 1
is_port_joined descs wiring ref (Manage part held private) = is_manage_joined descs wiring ref part held private

-- the handles of one partition, from this number on
abbrev pub are_handles_joined : List Desc → Wiring → ℕ → ℕ → List Port → Bool
are_handles_joined descs wiring part handle [] = true
are_handles_joined descs wiring part handle (port ∷ ports) =
    is_port_joined descs wiring (record { part = part; handle = handle }) port && are_handles_joined descs wiring part (handle + 1) ports

-- the handles of the partitions from this number on
abbrev pub are_handles_joined_from : List Desc → Wiring → ℕ → List Desc → Bool
are_handles_joined_from descs wiring part [] = true
are_handles_joined_from descs wiring part (desc ∷ rest) =
    are_handles_joined descs wiring part 1 desc.ports && are_handles_joined_from descs wiring (part + 1) rest

unfoldable pub are_ports_joined : List Desc → Wiring → Bool
are_ports_joined descs wiring = are_handles_joined_from descs wiring 0 descs

-- ---- all of it

unfoldable pub are_joined : List Desc → Wiring → Bool
are_joined descs wiring =
    nat_le (length descs) most_partitions
    && list_all is_sound descs
    && are_cores_apart descs
    && are_extents_sound wiring
    && are_regions_joined descs wiring
    && are_links_joined descs wiring
    && are_bells_joined descs wiring
    && are_managers_joined descs wiring
    && are_ports_joined descs wiring

abbrev pub AreJoined : List Desc → Wiring → Type 0
AreJoined descs wiring = are_joined descs wiring ≡ true
