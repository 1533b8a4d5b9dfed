-- C15 to C17: the cores of a partition.
use Rattle.std.specs.Prelude.{ℕ, Bool, ◌&&◌, ◌||◌, not, ◌==◌, List, [], length, find, Option}
use Rattle.std.specs.List.{list_any, list_all}
use Rattle.std.specs.Option.{option_map}
use Rattle.hv_config.specs.declared.board.Cpu.{Cpu}
use Rattle.hv_config.specs.declared.config.PartDef.{PartDef}
use Rattle.machine_desc.specs.Ranges.{none_meets}
use Rattle.machine_desc.specs.Joined.{same_number}
use Rattle.config_checks.specs.Spot.{Spot, part_spot}
use Rattle.config_checks.specs.First.{first_from, found_if}

-- C15: until partitions of several cores are built, it has another number of them than one
abbrev pub is_miscounted : PartDef → Bool
is_miscounted part = not (length part.cpus == 1)

unfoldable pub miscounted_part : List PartDef → Option Spot
miscounted_part parts = option_map part_spot (find is_miscounted parts)

abbrev pub is_usable_as : ℕ → Cpu → Bool
is_usable_as core cpu = cpu.number == core && cpu.usable

abbrev pub is_usable : List Cpu → ℕ → Bool
is_usable cpus core = list_any (is_usable_as core) cpus

-- C16: the hardware lacks one of its cores, or it can't be used
abbrev pub is_coreless : List Cpu → PartDef → Bool
is_coreless cpus part = not (list_all (is_usable cpus) part.cpus)

unfoldable pub coreless_part : List Cpu → List PartDef → Option Spot
coreless_part cpus parts = option_map part_spot (find (is_coreless cpus) parts)

abbrev pub share_core : PartDef → PartDef → Bool
share_core part other = list_any (λ core. list_any (same_number core) other.cpus) part.cpus

-- C17: it names a core twice, or one of an earlier partition
abbrev pub takes_core : List PartDef → PartDef → Bool
takes_core before part = not (none_meets same_number [] part.cpus) || list_any (share_core part) before

abbrev pub taking_at : List PartDef → PartDef → Option Spot
taking_at before part = found_if (takes_core before part) (part_spot part)

unfoldable pub taking_part : List PartDef → Option Spot
taking_part parts = first_from taking_at [] parts
