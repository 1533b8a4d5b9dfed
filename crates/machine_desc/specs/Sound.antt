-- Which descriptions are sound.
use Rattle.std.specs.Prelude.{◌≡◌, ℕ, ◌+◌, ◌-◌, ◌*◌, ◌%◌, Bool, true, ◌&&◌, nat_lt, nat_le, ◌==◌, List, [], ◌∷◌, length}
use Rattle.std.specs.List.{list_all, flat_map, range_with_len}
use Rattle.machine_desc.specs.declared.desc.Region.{Region}
use Rattle.machine_desc.specs.declared.desc.Port.{Port}
use Rattle.machine_desc.specs.declared.desc.Port.TheVariants.{Channel, Send, Receive, Manage}
use Rattle.machine_desc.specs.declared.desc.Piece.{Piece}
use Rattle.machine_desc.specs.declared.desc.Desc.{Desc}
use Rattle.machine_desc.specs.Limits.{most_regions, most_handles, most_cores, page_size, address_end, mapped_end, spin_room, spin_step, spin_size}
use Rattle.machine_desc.specs.Ranges.{ranges_meet, none_meets}
use Rattle.machine_desc.specs.Private.{is_private_range}

-- ---- regions

-- it is made of whole pages
abbrev pub is_aligned : Region → Bool
is_aligned region = region.logical % page_size == 0 && region.real % page_size == 0 && region.size % page_size == 0

abbrev pub has_bytes : Region → Bool
has_bytes region = nat_lt 0 region.size

-- its addresses are below the end of all addresses
abbrev pub is_within : Region → Bool
is_within region = nat_le (region.logical + region.size) address_end && nat_le (region.real + region.size) address_end

abbrev pub have_address : Region → Region → Bool
have_address region other = ranges_meet region.logical region.size other.logical other.size

abbrev pub have_extent : Region → Region → Bool
have_extent region other = region.extent == other.extent

unfoldable pub are_regions_sound : List Region → Bool
are_regions_sound regions =
    list_all is_aligned regions
    && list_all has_bytes regions
    && list_all is_within regions
    && none_meets have_address [] regions
    && none_meets have_extent [] regions

-- ---- counts

unfoldable pub are_counts_kept : Desc → Bool
are_counts_kept desc =
    nat_le (length desc.regions) most_regions
    && nat_le (length desc.ports) most_handles
    && nat_le 1 (length desc.cores)
    && nat_le (length desc.cores) most_cores

-- ---- interrupts

-- a channel takes two, the first for received bytes, and a receive handle one
abbrev pub interrupts_of : Port → List ℕ
interrupts_of (Channel rx tx) = rx ∷ tx ∷ []
interrupts_of Send = []
interrupts_of (Receive irq) = irq ∷ []
interrupts_of (Manage part held private) = []

abbrev pub counts_up : ℕ → List ℕ → Bool
counts_up next [] = true
counts_up next (number ∷ numbers) = number == next && counts_up (next + 1) numbers

-- the interrupts of all handles, in their order, are 0, 1, 2 and so on
unfoldable pub are_numbered : List Port → Bool
are_numbered ports = counts_up 0 (flat_map interrupts_of ports)

-- ---- the start

unfoldable pub is_start_mapped : Desc → Bool
is_start_mapped desc = nat_lt desc.tree_at mapped_end && nat_lt desc.entry mapped_end && desc.entry % 4 == 0

-- The spin entry of a core other than the first (ePAPR 1.1, 5.5.2) stands near the end of the tree's window.
abbrev pub spin_at : Desc → ℕ → ℕ
spin_at desc core = (desc.tree_at + desc.tree_size + spin_step * core) - spin_room

unfoldable pub has_private_spin_entry : Desc → ℕ → Bool
has_private_spin_entry desc core =
    nat_le spin_room (desc.tree_at + desc.tree_size + spin_step * core) && is_private_range desc.regions (spin_at desc core) spin_size

unfoldable pub are_spin_entries_private : Desc → Bool
are_spin_entries_private desc = list_all (has_private_spin_entry desc) (range_with_len 1 (length desc.cores - 1))

abbrev pub is_private_piece : List Region → Piece → Bool
is_private_piece regions piece = is_private_range regions piece.at piece.len

-- ---- all of it

unfoldable pub is_sound : Desc → Bool
is_sound desc =
    are_regions_sound desc.regions
    && are_counts_kept desc
    && are_numbered desc.ports
    && is_start_mapped desc
    && are_spin_entries_private desc
    && list_all (is_private_piece desc.regions) desc.pieces

abbrev pub IsSound : Desc → Type 0
IsSound desc = is_sound desc ≡ true
