-- The hardware that a tree says, and the rules H1 to H4. All else in the tree is passed over.
use Rattle.std.specs.Prelude.{ℕ, Bool, nat_lt, ◌==◌, is_none, is_some, if◌then◌else◌, List, [], find, length, codes, Option, Some, None, count_by}
use Rattle.std.specs.Option.{option_map, option_or}
use Rattle.dt_model.specs.declared.tree.Tree.{Tree}
use Rattle.hv_config.specs.declared.board.Range.{Range}
use Rattle.hv_config.specs.declared.board.Board.{Board}
use Rattle.hv_config.specs.Rule.{Breach}
use Rattle.hv_config.specs.Device.{DeviceValue, devices_of}
use Rattle.hv_config.specs.Cpus.{number_of, first_odd, cpus_in}
use Rattle.hv_config.specs.Memory.{ranges_of, memory_in}

unfoldable pub board_in : List DeviceValue → Board
board_in devices = record { cpus = cpus_in devices; memory = memory_in devices }

abbrev pub board_of : Tree → Board
board_of tree = board_in (devices_of tree.root)

-- ---- the rules

abbrev pub broken_at : ℕ → List ℕ → Breach
broken_at number at = record { rule = record { letter = 0x48; number = number }; at = at }

abbrev pub device_breach : ℕ → DeviceValue → Breach
device_breach number device = broken_at number device.path

-- H1: there is no range of memory
unfoldable pub h1 : List Range → Option Breach
h1 memory = if length memory == 0 then Some (broken_at 1 (codes "/")) else None

-- H2: a well-formed cpu's number is over 31, or an earlier one's
unfoldable pub h2 : List DeviceValue → Option Breach
h2 devices = option_map (device_breach 2) (first_odd [] devices)

-- H3: there are over 16 ranges, or over 32 cpus. The second never decides, since 33 numbers break H2.
unfoldable pub h3 : List DeviceValue → List Range → Option Breach
h3 devices memory =
    if nat_lt 16 (length memory) then Some (broken_at 3 (codes "/"))
    else if nat_lt 32 (count_by (λ device. is_some (number_of device)) devices) then Some (broken_at 3 (codes "/cpus"))
    else None

-- it isn't well formed: no number of a cpu, no whole number of pairs of a memory
abbrev pub is_ill : DeviceValue → Bool
is_ill device = if device.is_cpu then is_none (number_of device) else is_none (ranges_of device)

-- H4: a node is ill
unfoldable pub h4 : List DeviceValue → Option Breach
h4 devices = option_map (device_breach 4) (find is_ill devices)

-- the least number, and of its nodes the first in document order
unfoldable pub first_broken_in : List DeviceValue → List Range → Option Breach
first_broken_in devices memory = option_or (h1 memory) (option_or (h2 devices) (option_or (h3 devices memory) (h4 devices)))

abbrev pub first_broken_hardware : Tree → Option Breach
first_broken_hardware tree = first_broken_in (devices_of tree.root) (memory_in (devices_of tree.root))
