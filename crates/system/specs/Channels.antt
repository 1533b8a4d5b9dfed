-- What becomes of a channel's two ends where one of them sends or takes.
use Rattle.std.specs.Prelude.{◌≡◌, ◌≢◌, ℕ, ◌<◌, ◌==◌, Bool, if◌then◌else◌, List, length, Option, Some}
use Rattle.byte_channel.specs.Waiting.{Waiting}
use Rattle.machine_desc.specs.declared.wiring.End.{End as LinkEnd}
use Rattle.machine_desc.specs.declared.wiring.End.TheVariants.{Part, Console}
use Rattle.machine_desc.specs.Joined.{AreJoined}
use Rattle.partition.specs.declared.kind.Kind.TheVariants as kind
use Rattle.partition.specs.Port.{End, kind_at, come_on, freed_on}
use Rattle.network.specs.Network.{Network, far_end, far_of}
use Rattle.system.specs.declared.wire.Wire.{Wire}
use Rattle.system.specs.Board.{wire_at, wires_at, kinds_of, ends_of, sent_by, taken_by}
use Rattle.system.specs.Wired.{all_wires, channel_wire, console_side}

-- the wires of all partitions
abbrev pub wires_of : Network → List (List Wire)
wires_of network = all_wires network.wiring 0 network.descs

abbrev pub wire_for : Network → ℕ → ℕ → Wire
wire_for network part handle = wire_at (wires_at (wires_of network) part) handle

-- the ends of a partition where bytes came to the far end of a channel
abbrev pub come_far : Option LinkEnd → List ℕ → ℕ → List End → List End
come_far (Some (Part ref)) bytes part ends = if ref.part == part then come_on ends ref.handle bytes else ends
come_far _ bytes part ends = ends

-- where so many were taken there
abbrev pub freed_far : Option LinkEnd → ℕ → ℕ → List End → List End
freed_far (Some (Part ref)) count part ends = if ref.part == part then freed_on ends ref.handle count else ends
freed_far _ count part ends = ends

-- What a handle sends comes to the far end of its channel, if that is a partition's, and to no other.
abbrev pub SentBytesCome : Type 0
SentBytesCome =
    (network : Network) (channels : List Waiting) (running : List Bool) (part handle other : ℕ) (bytes : List ℕ) → AreJoined network.descs network.wiring
    → length channels ≡ length network.wiring.links → part < length network.descs → other < length network.descs → other ≢ part
    → kind_at (kinds_of (wires_at (wires_of network) part)) handle ≡ Some kind.Channel
    → ends_of (sent_by channels (wire_for network part handle) bytes) running (wires_at (wires_of network) other)
    ≡ come_far (far_of network part handle) bytes other (ends_of channels running (wires_at (wires_of network) other))

-- What it takes is no longer outstanding there.
abbrev pub TakenBytesAreFreed : Type 0
TakenBytesAreFreed =
    (network : Network) (channels : List Waiting) (running : List Bool) (part handle other count : ℕ) → AreJoined network.descs network.wiring
    → length channels ≡ length network.wiring.links → part < length network.descs → other < length network.descs → other ≢ part
    → kind_at (kinds_of (wires_at (wires_of network) part)) handle ≡ Some kind.Channel
    → ends_of (taken_by channels (wire_for network part handle) count) running (wires_at (wires_of network) other)
    ≡ freed_far (far_of network part handle) count other (ends_of channels running (wires_at (wires_of network) other))

-- What enters from a console comes to the far end of its channel, and to no other.
abbrev pub EnteredBytesCome : Type 0
EnteredBytesCome =
    (network : Network) (channels : List Waiting) (running : List Bool) (console other : ℕ) (bytes : List ℕ) → AreJoined network.descs network.wiring
    → length channels ≡ length network.wiring.links → console < length network.wiring.consoles → other < length network.descs
    → ends_of (sent_by channels (channel_wire (console_side network.wiring.links console)) bytes) running (wires_at (wires_of network) other)
    ≡ come_far (far_end network.wiring.links (Console console)) bytes other (ends_of channels running (wires_at (wires_of network) other))
