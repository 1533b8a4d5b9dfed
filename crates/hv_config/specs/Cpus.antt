-- The cpus' numbers (ePAPR 1.1, 3.7.1), and which cpus can be used.
use Rattle.std.specs.Prelude.{ℕ, ◌%◌, Bool, true, false, ◌&&◌, ◌||◌, nat_lt, nat_le, ◌==◌, if◌then◌else◌, List, [], ◌∷◌, ◌++◌, length, codes, Option, Some, None, option_and_then}
use Rattle.std.specs.List.{list_any, filter_map}
use Rattle.std.specs.Option.{option_map_or}
use Rattle.std.specs.Str.{bytes_eq}
use Rattle.dt_model.specs.declared.tree.Node.{Node}
use Rattle.dt_model.specs.Node.{value_of}
use Rattle.dt_model.specs.Value.{text_in}
use Rattle.hv_config.specs.declared.board.Cpu.{Cpu}
use Rattle.hv_config.specs.declared.cells.Cells.{Cells}
use Rattle.hv_config.specs.Cells.{number_in, width}
use Rattle.hv_config.specs.Device.{DeviceValue}

-- the first of one or more whole numbers
abbrev pub first_number : Cells → List ℕ → Option ℕ
first_number cells reg = if nat_lt 0 (length reg) && (length reg % width cells == 0) then Some (number_in cells reg) else None

-- the number of a well-formed cpu
unfoldable pub number_of : DeviceValue → Option ℕ
number_of device =
    if device.is_cpu then option_and_then (λ cells. option_and_then (first_number cells) (value_of device.node (codes "reg"))) device.address
    else None

abbrev pub has_number : ℕ → DeviceValue → Bool
has_number number device = option_map_or (λ other. other == number) (number_of device) false

-- its number is over 31, or one of an earlier cpu's
abbrev pub is_odd : List DeviceValue → DeviceValue → Bool
is_odd earlier device = option_map_or (λ number. nat_lt 31 number || list_any (has_number number) earlier) (number_of device) false

abbrev pub first_odd : List DeviceValue → List DeviceValue → Option DeviceValue
first_odd earlier [] = None
first_odd earlier (device ∷ devices) = if is_odd earlier device then Some device else first_odd (earlier ++ device ∷ []) devices

-- what `status` says of a cpu that can be used
abbrev pub is_good_status : List ℕ → Bool
is_good_status text = bytes_eq text (codes "okay") || bytes_eq text (codes "ok") || bytes_eq text (codes "disabled")

-- A cpu without a status can be used. One that is disabled waits to be started (ePAPR 1.1, 2.3.4).
abbrev pub is_usable : Node → Bool
is_usable node = option_map_or (λ value. option_map_or is_good_status (text_in value) false) (value_of node (codes "status")) true

abbrev pub small_cpu : Node → ℕ → Option Cpu
small_cpu node number = if nat_le number 31 then Some (record { number = number; usable = is_usable node }) else None

unfoldable pub cpu_of : DeviceValue → Option Cpu
cpu_of device = option_and_then (small_cpu device.node) (number_of device)

abbrev pub cpus_in : List DeviceValue → List Cpu
cpus_in devices = filter_map cpu_of devices
