-- Cell counts, and the numbers that they say the size of (ePAPR 1.1, 2.3.5 "#address-cells and #size-cells").
use Rattle.std.specs.Prelude.{ℕ, ◌==◌, if◌then◌else◌, List, Option, Some, None, option_and_then}
use Rattle.std.specs.Option.{option_map_or}
use Rattle.byteorder.specs.Endian.{big_number}
use Rattle.dt_model.specs.declared.tree.Node.{Node}
use Rattle.dt_model.specs.Node.{value_of}
use Rattle.dt_model.specs.Value.{u32_in}
use Rattle.hv_config.specs.declared.cells.Cells.{Cells}
use Rattle.hv_config.specs.declared.cells.Cells.TheVariants.{One, Two}

-- the bytes of a number
abbrev pub width : Cells → ℕ
width One = 4
width Two = 8

abbrev pub counted : ℕ → Option Cells
counted count = if count == 1 then Some One else if count == 2 then Some Two else None

-- the count that a node gives to its children, if it is a good one
unfoldable pub cells_of : Node → List ℕ → Cells → Option Cells
cells_of parent name default = option_map_or (λ value. option_and_then counted (u32_in value)) (value_of parent name) (Some default)

-- the number at the front
abbrev pub number_in : Cells → List ℕ → ℕ
number_in One bytes = big_number 4 bytes
number_in Two bytes = big_number 8 bytes
