-- What the handles of all partitions lead to, and what the machine of the one that it is lent to has of its own.
use Rattle.std.specs.Prelude.{◌≡◌, ◌≢◌, ℕ, ◌-◌, ◌<◌, ◌==◌, nat_lt, Bool, true, false, if◌then◌else◌, List, [], ◌∷◌, length, map, flat_map, slice_index_or, slice_set, Option, Some, None}
use Rattle.byte_channel.specs.declared.side.Side.TheVariants.{A}
use Rattle.byte_channel.specs.Waiting.{Waiting, most_waiting, waiting_at, other_side, empty_channel, after_send, after_receive, after_clear}
use Rattle.partition.specs.declared.kind.Kind.{Kind}
use Rattle.partition.specs.declared.kind.Kind.TheVariants as kind
use Rattle.machine_desc.specs.declared.desc.Region.{Region}
use Rattle.machine_desc.specs.declared.desc.Span.{Span}
use Rattle.copy_lists.specs.Moving.{bytes_in}
use Rattle.partition.specs.Port.{End, empty_end}
use Rattle.partition.specs.Copying.{Copy}
use Rattle.system.specs.declared.wire.ChannelEnd.{ChannelEnd}
use Rattle.system.specs.declared.wire.Wire.{Wire}
use Rattle.system.specs.declared.wire.Wire.TheVariants.{Channel, Send, Receive, Manage}

pub record Lines : Type 0 where
  -- the partition that they are lent to
  pub who : ℕ
  -- of each partition, what its handles lead to
  pub wires : List (List Wire)
  -- what waits in each channel
  pub channels : List Waiting
  -- whether each partition runs, as its manager knows
  pub running : List Bool
  -- of each console, its end of a channel
  pub consoles : List ChannelEnd
  -- of each partition, the regions of its memory
  pub maps : List (List Region)
  -- what was copied last
  pub last : Copy

-- ---- a handle

abbrev pub kind_of : Wire → Kind
kind_of (Channel link side) = kind.Channel
kind_of (Send bell) = kind.Send
kind_of (Receive bell) = kind.Receive
kind_of (Manage part) = kind.Manage

abbrev pub channel_at : List Waiting → ℕ → Waiting
channel_at channels link = slice_index_or channels link empty_channel

abbrev pub running_at : List Bool → ℕ → Bool
running_at running part = slice_index_or running part false

-- What the machine has of it: outstanding is what waits at the other end.
abbrev pub end_of : List Waiting → List Bool → Wire → End
end_of channels running (Channel link side) = record {
  received = waiting_at side (channel_at channels link);
  outstanding = length (waiting_at (other_side side) (channel_at channels link));
  runs = false;
}
end_of channels running (Manage part) = record empty_end { runs = running_at running part }
end_of channels running _ = empty_end

abbrev pub kinds_of : List Wire → List Kind
kinds_of wires = map kind_of wires

-- what it has of all its handles
abbrev pub ends_of : List Waiting → List Bool → List Wire → List End
ends_of channels running wires = map (end_of channels running) wires

-- where a list has no wire
abbrev pub no_wire : Wire
no_wire = Receive 0

abbrev pub wire_at : List Wire → ℕ → Wire
wire_at wires handle = slice_index_or wires (handle - 1) no_wire

abbrev pub wires_at : List (List Wire) → ℕ → List Wire
wires_at wires part = slice_index_or wires part []

-- ---- the partition that they are lent to

abbrev pub own_wires : Lines → List Wire
own_wires lines = wires_at lines.wires lines.who

abbrev pub own_wire : Lines → ℕ → Wire
own_wire lines handle = wire_at (own_wires lines) handle

abbrev pub own_kinds : Lines → List Kind
own_kinds lines = kinds_of (own_wires lines)

abbrev pub own_ends : Lines → List End
own_ends lines = ends_of lines.channels lines.running (own_wires lines)

-- ---- what is sent and taken

-- the channels after bytes were sent by a wire
abbrev pub sent_by : List Waiting → Wire → List ℕ → List Waiting
sent_by channels (Channel link side) bytes = slice_set channels link (after_send side bytes (channel_at channels link))
sent_by channels _ bytes = channels

-- after so many bytes were taken from it
abbrev pub taken_by : List Waiting → Wire → ℕ → List Waiting
taken_by channels (Channel link side) count = slice_set channels link (after_receive side count (channel_at channels link))
taken_by channels _ count = channels

-- after what waits at its end was dropped
abbrev pub cleared_by : List Waiting → Wire → List Waiting
cleared_by channels (Channel link side) = slice_set channels link (after_clear side (channel_at channels link))
cleared_by channels _ = channels

-- after all that waits at these ends was dropped
abbrev pub all_cleared : List Wire → List Waiting → List Waiting
all_cleared [] channels = channels
all_cleared (wire ∷ wires) channels = all_cleared wires (cleared_by channels wire)

-- after what waits at its far end was dropped
abbrev pub printed_by : List Waiting → Wire → List Waiting
printed_by channels (Channel link side) = slice_set channels link (after_clear (other_side side) (channel_at channels link))
printed_by channels _ = channels

-- after all that waits for a partition was dropped
abbrev pub emptied_lines : Lines → ℕ → Lines
emptied_lines lines part = record lines { channels = all_cleared (wires_at lines.wires part) lines.channels }

abbrev pub Sends : Lines → ℕ → List ℕ → Lines → Type 0
Sends old handle bytes new = new ≡ record old { channels = sent_by old.channels (own_wire old handle) bytes }

abbrev pub Takes : Lines → ℕ → ℕ → Lines → Type 0
Takes old handle count new = new ≡ record old { channels = taken_by old.channels (own_wire old handle) count }

-- ---- copies

-- the partition that a wire manages
abbrev pub managed_by : Wire → ℕ
managed_by (Manage part) = part
managed_by _ = 0

-- the wire of a handle, of which there is none with the number 0
abbrev pub handle_wire : Lines → ℕ → Wire
handle_wire lines handle = if handle == 0 then no_wire else own_wire lines handle

abbrev pub regions_at : List (List Region) → ℕ → List Region
regions_at maps part = slice_index_or maps part []

-- the regions of the partition that a wire manages, if it manages one
abbrev pub regions_by : List (List Region) → Wire → Option (List Region)
regions_by maps (Manage part) = Some (regions_at maps part)
regions_by maps _ = None

abbrev pub told_by : Lines → ℕ → Option (List Region)
told_by lines handle = regions_by lines.maps (handle_wire lines handle)

-- the bytes at these ranges of the logical addresses of the partition that a handle manages
abbrev pub fed_by : Lines → List (List ℕ) → ℕ → List Span → List ℕ
fed_by lines memory handle ranges =
    flat_map (λ (range : Span). bytes_in (regions_at lines.maps (managed_by (handle_wire lines handle))) memory range.at range.size) ranges

abbrev pub last_of : Lines → Copy
last_of lines = lines.last

-- a copy is noted
abbrev pub Copies : Lines → List (List ℕ) → Copy → Lines → Type 0
Copies old memory last new = new ≡ record old { last = last }

-- ---- consoles

-- where a list has none
abbrev pub no_side : ChannelEnd
no_side = record { link = 0; side = A }

abbrev pub console_at : List ChannelEnd → ℕ → ChannelEnd
console_at consoles console = slice_index_or consoles console no_side

-- how many more bytes may wait at the other end of its channel
abbrev pub console_room : Lines → ℕ → ℕ
console_room lines console =
    let it : ChannelEnd = console_at lines.consoles console in most_waiting - length (waiting_at (other_side it.side) (channel_at lines.channels it.link))

-- ---- what they keep

-- it leads to something that is there
abbrev pub is_tied : ℕ → ℕ → Wire → Bool
is_tied channels parts (Channel link side) = nat_lt link channels
is_tied channels parts (Manage part) = nat_lt part parts
is_tied channels parts _ = true

-- both lead to one channel
abbrev pub have_channel : Wire → Wire → Bool
have_channel (Channel link side) (Channel other other_end) = link == other
have_channel _ _ = false

-- the wires of one partition
pub record AreWires (channels parts : ℕ) (wires : List Wire) : Type 0 where
  pub tied : (k : ℕ) → k < length wires → is_tied channels parts (slice_index_or wires k no_wire) ≡ true
  pub apart : (k l : ℕ) → k < length wires → l < length wires → k ≢ l → have_channel (slice_index_or wires k no_wire) (slice_index_or wires l no_wire) ≡ false

pub record AreLines (lines : Lines) : Type 0 where
  pub running : length lines.running ≡ length lines.wires
  pub maps : length lines.maps ≡ length lines.wires
  pub each : (part : ℕ) → part < length lines.wires → AreWires (length lines.channels) (length lines.wires) (wires_at lines.wires part)
  pub consoles : (console : ℕ) → console < length lines.consoles → (console_at lines.consoles console).link < length lines.channels
