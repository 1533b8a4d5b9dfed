-- Which recordings a machine can follow.
use Rattle.std.specs.Prelude.{ℕ, ◌+◌, ◌*◌, ◌==◌, Bool, true, false, not, ◌&&◌, ◌||◌, nat_lt, nat_le, List, [], ◌∷◌, length, Option, Some}
use Rattle.machine_desc.specs.declared.desc.Desc.{Desc}
use Rattle.machine_desc.specs.Private.{is_private_range}
use Rattle.partition.specs.declared.kind.Kind.{Kind}
use Rattle.partition.specs.declared.kind.Kind.TheVariants as kind
use Rattle.partition.specs.Channels.{is_channel}
use Rattle.partition.specs.Port.{kinds_of, kind_at, end_at, channel_size}
use Rattle.partition.specs.Machine.{Machine, fresh}
use Rattle.partition.specs.Event.{Event, Bytes, Room, Ring, Tells, Start, Stop, Restart, CopyIn}
use Rattle.recording.specs.Recording.{Item, After, Feed, OnCore, Until}
use Rattle.recording.specs.Alone.{is_running, asked_size, Place, opening, rank_of, count_of, reached, next}

-- ---- events

-- a doorbell that the partition receives
abbrev pub is_receive : Option Kind → Bool
is_receive (Some kind.Receive) = true
is_receive _ = false

-- a partition that it manages
abbrev pub is_manage : Option Kind → Bool
is_manage (Some kind.Manage) = true
is_manage _ = false

-- what a handle is, if there is one of that number
abbrev pub kind_of : Desc → ℕ → Option Kind
kind_of desc handle = kind_at (kinds_of desc.ports) handle

-- Whether a machine may be given an event. Its handle must be of the event's kind. Bytes must find room, and what the other end of a
-- channel took must have been outstanding. Only what doesn't run is started, and only what runs is stopped or restarted. A manager
-- writes into private memory alone.
unfoldable pub allows : Desc → Event → Machine → Bool
allows desc (Bytes handle bytes) machine =
    is_channel (kind_of desc handle) && nat_le (length (end_at machine.ports handle).received + length bytes) channel_size
allows desc (Room handle count) machine = is_channel (kind_of desc handle) && nat_le count (end_at machine.ports handle).outstanding
allows desc (Ring handle) machine = is_receive (kind_of desc handle)
allows desc (Tells handle runs) machine = is_manage (kind_of desc handle)
allows desc (Start entry load) machine = not (is_running machine.inner.state)
allows desc Stop machine = is_running machine.inner.state
allows desc Restart machine = is_running machine.inner.state
allows desc (CopyIn piece) machine = is_private_range desc.regions piece.at (length piece.bytes)

-- ---- items

abbrev pub is_empty : List ℕ → Bool
is_empty [] = true
is_empty (byte ∷ bytes) = false

-- An item suits the machine, once the steps before it are done. A feed and a core are for the step that comes next. The feed has as many
-- bytes as that step asks for, and comes once. The core is one that there is, comes once, and before the feed.
abbrev pub suits : Desc → Item → Place → Bool
suits desc (After count event) place = allows desc event place.machine
suits desc (Feed step bytes) place =
    is_running place.machine.inner.state
    && (step == place.machine.inner.steps + 1 && (is_empty place.feed && length bytes == asked_size desc place.machine place.core))
suits desc (OnCore step core) place =
    (step == 0 || is_running place.machine.inner.state) && (nat_lt core (length desc.cores) && nat_le place.passed (2 * step))
suits desc (Until count) place = true

-- An item is right: it doesn't come before the one before it, the steps before it could be done, and it suits the machine.
abbrev pub is_right : Desc → Item → Place → Bool
is_right desc item place =
    nat_le place.passed (rank_of item + 1)
    && ((reached desc item place).machine.inner.steps == count_of item && suits desc item (reached desc item place))

-- so is each of the items, from this place on
abbrev pub fits_from : Desc → List Item → Place → Bool
fits_from desc [] place = true
fits_from desc (item ∷ items) place = is_right desc item place && fits_from desc items (next desc item place)

-- A machine of this description can follow the recording from its beginning.
unfoldable pub fits : Desc → List Item → Bool
fits desc items = fits_from desc items (opening (fresh desc))
