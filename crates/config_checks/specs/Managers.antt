-- C21 and C22: handles that manage a partition.
use Rattle.std.specs.Prelude.{ℕ, Bool, true, false, ◌&&◌, ◌||◌, List, [], find, Option}
use Rattle.std.specs.List.{list_any}
use Rattle.std.specs.Option.{option_map}
use Rattle.std.specs.Str.{bytes_eq}
use Rattle.hv_config.specs.declared.form.Kind.{Kind}
use Rattle.hv_config.specs.declared.form.Kind.TheVariants.{Manage}
use Rattle.hv_config.specs.declared.config.HandleDef.{HandleDef}
use Rattle.hv_config.specs.declared.config.PartDef.{PartDef}
use Rattle.config_checks.specs.Spot.{Spot, handle_spot}
use Rattle.config_checks.specs.First.{first_from, found_if}

abbrev pub is_manage : Kind → Bool
is_manage Manage = true
is_manage _ = false

-- the handle manages the partition with that name
abbrev pub manages : List ℕ → HandleDef → Bool
manages name handle = is_manage handle.kind && bytes_eq handle.target name

abbrev pub has_manager : List ℕ → PartDef → Bool
has_manager name part = list_any (manages name) part.handles

-- C21: a handle manages its own partition
abbrev pub own_in : List PartDef → PartDef → Option Spot
own_in before part = option_map (handle_spot part) (find (manages part.name) part.handles)

unfoldable pub own_manager : List PartDef → Option Spot
own_manager parts = first_from own_in [] parts

-- C22: an earlier handle, of this partition or of an earlier one, manages the same partition
abbrev pub is_second : List PartDef → List HandleDef → HandleDef → Bool
is_second parts before handle =
    is_manage handle.kind && (list_any (manages handle.target) before || list_any (has_manager handle.target) parts)

abbrev pub second_at : List PartDef → PartDef → List HandleDef → HandleDef → Option Spot
second_at parts part before handle = found_if (is_second parts before handle) (handle_spot part handle)

abbrev pub second_in : List PartDef → PartDef → Option Spot
second_in before part = first_from (second_at before part) [] part.handles

unfoldable pub second_manager : List PartDef → Option Spot
second_manager parts = first_from second_in [] parts
