-- The configuration and the hardware of so many partitions.
use Rattle.std.specs.Prelude.{ℕ, ◌+◌, ◌-◌, ◌*◌, ◌%◌, true, false, List, [], ◌∷◌, ◌++◌, map, codes, Some, None}
use Rattle.std.specs.List.{range_with_len}
use Rattle.hv_config.specs.declared.form.Kind.TheVariants as kind
use Rattle.hv_config.specs.declared.config.Config.{Config}
use Rattle.hv_config.specs.declared.config.AreaDef.{AreaDef}
use Rattle.hv_config.specs.declared.config.ChannelDef.{ChannelDef}
use Rattle.hv_config.specs.declared.config.GuestAreaDef.{GuestAreaDef}
use Rattle.hv_config.specs.declared.config.HandleDef.{HandleDef}
use Rattle.hv_config.specs.declared.config.PartDef.{PartDef}
use Rattle.hv_config.specs.declared.board.Cpu.{Cpu}
use Rattle.hv_config.specs.declared.board.Board.{Board}
use Rattle.gen_load.specs.Names.{area_name, console_name, image_name, console_channel, link_channel, part_name}

-- how large each area is, in bytes
abbrev pub area_size : ℕ
area_size = 0x100000

-- the areas lie one behind the other
abbrev pub area : ℕ → AreaDef
area place = record { name = area_name place; base = place * area_size; size = area_size }

abbrev pub with_console : ℕ → ChannelDef
with_console place = record { name = console_channel place; console = Some (console_name place) }

abbrev pub without_console : ℕ → ChannelDef
without_console place = record { name = link_channel place; console = None }

-- the whole of an area, from logical address 0 on
abbrev pub guest_area : ℕ → GuestAreaDef
guest_area place = record { name = codes "m"; area = area_name place; at = 0 }

abbrev pub handle : List ℕ → List ℕ → HandleDef
handle name target = record { name = name; kind = kind.Channel; target = target }

-- which of so many partitions comes before that one; before the first comes the last
abbrev pub place_before : ℕ → ℕ → ℕ
place_before count place = (place + count - 1) % count

-- a console, and the two links of a ring: out to the next partition, and in from the one before
abbrev pub handles : ℕ → ℕ → List HandleDef
handles count place =
    handle (codes "con") (console_channel place)
    ∷ handle (codes "out") (link_channel place)
    ∷ handle (codes "got") (link_channel (place_before count place))
    ∷ []

-- one of so many partitions
abbrev pub part : ℕ → ℕ → PartDef
part count place = record {
  name = part_name place;
  cpus = place ∷ [];
  image = image_name place;
  image_at = 0;
  tree_at = 0x8000;
  tree_size = 0x4000;
  held = false;
  bootargs = None;
  areas_at = 0;
  areas = guest_area place ∷ [];
  handles_at = 1;
  handles = handles count place;
}

-- something of each of so many places, from 0 on
abbrev pub each : {X : Type 0} → (ℕ → X) → ℕ → List X
each f count = map f (range_with_len 0 count)

unfoldable pub generated_config : ℕ → Config
generated_config count = record {
  areas_at = 0;
  areas = each area count;
  channels_at = 1;
  channels = each with_console count ++ each without_console count;
  bells_at = 0;
  bells = [];
  parts_at = 2;
  parts = each (part count) count;
}

abbrev pub cpu : ℕ → Cpu
cpu number = record { number = number; usable = true }

-- as many cpus, and 16 MiB of memory
unfoldable pub generated_board : ℕ → Board
generated_board count = record { cpus = each cpu count; memory = record { at = 0; size = 0x1000000 } ∷ [] }
