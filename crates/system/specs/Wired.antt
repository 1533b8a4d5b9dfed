-- What the handles of described partitions lead to, by their wiring.
use Rattle.std.specs.Prelude.{ℕ, ◌+◌, ◌<◌, ◌≤◌, Bool, false, not, slice_index_or, if◌then◌else◌, List, [], ◌∷◌, length, map, replicate, unwrap_or}
use Rattle.std.specs.List.{list_any, position, range_with_len}
use Rattle.byte_channel.specs.declared.side.Side.TheVariants.{A, B}
use Rattle.byte_channel.specs.Waiting.{empty_channel}
use Rattle.machine_desc.specs.declared.desc.Desc.{Desc}
use Rattle.machine_desc.specs.declared.desc.Region.{Region}
use Rattle.machine_desc.specs.declared.desc.Port.{Port}
use Rattle.machine_desc.specs.declared.desc.Port.TheVariants as described
use Rattle.machine_desc.specs.declared.wiring.PortRef.{PortRef}
use Rattle.machine_desc.specs.declared.wiring.End.{End}
use Rattle.machine_desc.specs.declared.wiring.End.TheVariants.{Part, Console}
use Rattle.machine_desc.specs.declared.wiring.Link.{Link}
use Rattle.machine_desc.specs.declared.wiring.Bell.{Bell}
use Rattle.machine_desc.specs.declared.wiring.Wiring.{Wiring}
use Rattle.machine_desc.specs.Joined.{same_ref}
use Rattle.network.specs.Network.{is_end, no_desc, ref_to}
use Rattle.system.specs.declared.wire.ChannelEnd.{ChannelEnd}
use Rattle.system.specs.declared.wire.Wire.{Wire}
use Rattle.system.specs.declared.wire.Wire.TheVariants.{Channel, Send, Receive, Manage}
use Rattle.system.specs.Board.{Lines}

-- Of these channels, from this number on, the first that has the end: its end a is side A.
abbrev pub side_from : ℕ → List Link → End → ChannelEnd
side_from number [] end = record { link = number; side = A }
side_from number (link ∷ links) end =
    if is_end end link.a then record { link = number; side = A } else if is_end end link.b then record { link = number; side = B } else side_from (number + 1) links end

abbrev pub channel_wire : ChannelEnd → Wire
channel_wire it = Channel it.link it.side

abbrev pub is_sender : PortRef → Bell → Bool
is_sender ref bell = list_any (same_ref ref) bell.senders

abbrev pub is_receiver : PortRef → Bell → Bool
is_receiver ref bell = list_any (same_ref ref) bell.receivers

-- the first doorbell that passes, and a number of none where none does
abbrev pub bell_with : (Bell → Bool) → List Bell → ℕ
bell_with test bells = unwrap_or (position test bells) (length bells)

-- by what the handle stands for
abbrev pub wire_of : Wiring → PortRef → Port → Wire
wire_of wiring ref (described.Channel rx tx) = channel_wire (side_from 0 wiring.links (Part ref))
wire_of wiring ref described.Send = Send (bell_with (is_sender ref) wiring.bells)
wire_of wiring ref (described.Receive irq) = Receive (bell_with (is_receiver ref) wiring.bells)
wire_of wiring ref (described.Manage part held private) = Manage part

-- the handles of a partition from this number on
abbrev pub wires_from : Wiring → ℕ → ℕ → List Port → List Wire
wires_from wiring part handle [] = []
wires_from wiring part handle (port ∷ ports) = wire_of wiring (ref_to part handle) port ∷ wires_from wiring part (handle + 1) ports

-- those of the partitions from this number on
abbrev pub all_wires : Wiring → ℕ → List Desc → List (List Wire)
all_wires wiring part [] = []
all_wires wiring part (desc ∷ descs) = wires_from wiring part 1 desc.ports ∷ all_wires wiring (part + 1) descs

-- of each console, its end of a channel
abbrev pub console_side : List Link → ℕ → ChannelEnd
console_side links console = side_from 0 links (Console console)

abbrev pub begins_running : Desc → Bool
begins_running desc = not desc.held

abbrev pub regions_of : Desc → List Region
regions_of desc = desc.regions

-- before the first turn
unfoldable pub opening_lines : List Desc → Wiring → Lines
opening_lines descs wiring = record {
  who = 0;
  wires = all_wires wiring 0 descs;
  channels = replicate (length wiring.links) empty_channel;
  running = map begins_running descs;
  consoles = map (console_side wiring.links) (range_with_len 0 (length wiring.consoles));
  maps = map regions_of descs;
  last = record { handle = 0; to_managed = false; entries = [] };
}

-- no partition has more handles than it may
pub record HaveFewHandles (descs : List Desc) : Type 0 where
  pub few : (part : ℕ) → part < length descs → length (slice_index_or descs part no_desc).ports ≤ 64
