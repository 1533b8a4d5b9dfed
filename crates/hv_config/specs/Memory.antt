-- The ranges of memory (ePAPR 1.1, 3.4, and 2.3.6 on `reg`).
use Rattle.std.specs.Prelude.{ℕ, ◌+◌, ◌*◌, ◌/◌, ◌%◌, Bool, not, ◌==◌, if◌then◌else◌, List, [], map, filter, length, drop, codes, Option, Some, None, option_and_then, unwrap_or}
use Rattle.std.specs.List.{flat_map, range_with_len}
use Rattle.dt_model.specs.Node.{value_of}
use Rattle.hv_config.specs.declared.board.Range.{Range}
use Rattle.hv_config.specs.declared.cells.Cells.{Cells}
use Rattle.hv_config.specs.Cells.{number_in, width}
use Rattle.hv_config.specs.Device.{DeviceValue}

-- the pair of an address and a size at the front
abbrev pub range_at : Cells → Cells → List ℕ → Range
range_at address size bytes = record { at = number_in address bytes; size = number_in size (drop (width address) bytes) }

unfoldable pub item_at : Cells → Cells → List ℕ → ℕ → Range
item_at address size reg k = range_at address size (drop (k * (width address + width size)) reg)

unfoldable pub items_in : Cells → Cells → List ℕ → List Range
items_in address size reg = map (item_at address size reg) (range_with_len 0 (length reg / (width address + width size)))

-- a pair of no bytes is passed over
abbrev pub is_range : Range → Bool
is_range range = not (range.size == 0)

unfoldable pub ranges_in : Cells → Cells → List ℕ → List Range
ranges_in address size reg = filter is_range (items_in address size reg)

-- the ranges of a whole number of pairs
unfoldable pub whole_ranges : Cells → Cells → List ℕ → Option (List Range)
whole_ranges address size reg = if length reg % (width address + width size) == 0 then Some (ranges_in address size reg) else None

-- the ranges of a well-formed memory node
unfoldable pub ranges_of : DeviceValue → Option (List Range)
ranges_of device =
    if device.is_cpu then None
    else option_and_then (λ address. option_and_then (λ size. option_and_then (whole_ranges address size) (value_of device.node (codes "reg")))
    device.size) device.address

abbrev pub memory_of : DeviceValue → List Range
memory_of device = unwrap_or (ranges_of device) []

unfoldable pub memory_in : List DeviceValue → List Range
memory_in devices = flat_map memory_of devices
