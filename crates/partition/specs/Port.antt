-- The partition's ends of what its handles name. Handles count from 1.
use Rattle.std.specs.Prelude.{ℕ, ◌+◌, ◌-◌, ◌==◌, Bool, false, not, List, [], ◌++◌, map, drop, Option, None, slice_get, slice_index_or, slice_set, if◌then◌else◌}
use Rattle.machine_desc.specs.declared.desc.Port.{Port}
use Rattle.machine_desc.specs.declared.desc.Port.TheVariants as described
use Rattle.partition.specs.declared.kind.Kind.{Kind}
use Rattle.partition.specs.declared.kind.Kind.TheVariants.{Channel, Send, Receive, Manage}

-- ---- what a handle names

abbrev pub kind_of : Port → Kind
kind_of (described.Channel rx tx) = Channel
kind_of described.Send = Send
kind_of (described.Receive irq) = Receive
kind_of (described.Manage part held private) = Manage

abbrev pub kinds_of : List Port → List Kind
kinds_of ports = map kind_of ports

-- none where there is no such handle
abbrev pub kind_at : List Kind → ℕ → Option Kind
kind_at kinds handle = if handle == 0 then None else slice_get kinds (handle - 1)

-- ---- the ends

pub record End : Type 0 where
  -- of a channel: the bytes that came and were not taken yet
  pub received : List ℕ
  -- of a channel: how many bytes it sent that the other end has not taken
  pub outstanding : ℕ
  -- of a managed partition: whether it runs
  pub runs : Bool

-- how many bytes may be outstanding on a channel
abbrev pub channel_size : ℕ
channel_size = 256

abbrev pub empty_end : End
empty_end = record { received = []; outstanding = 0; runs = false }

abbrev pub end_at : List End → ℕ → End
end_at ends handle = slice_index_or ends (handle - 1) empty_end

abbrev pub with_end : List End → ℕ → End → List End
with_end ends handle it = slice_set ends (handle - 1) it

-- how many more bytes a channel takes
abbrev pub room_at : List End → ℕ → ℕ
room_at ends handle = channel_size - (end_at ends handle).outstanding

-- after so many bytes went out
abbrev pub sent_on : List End → ℕ → ℕ → List End
sent_on ends handle count = with_end ends handle (record (end_at ends handle) { outstanding = (end_at ends handle).outstanding + count })

-- after so many received bytes were taken
abbrev pub taken_on : List End → ℕ → ℕ → List End
taken_on ends handle count = with_end ends handle (record (end_at ends handle) { received = drop count (end_at ends handle).received })

-- after these bytes came
abbrev pub come_on : List End → ℕ → List ℕ → List End
come_on ends handle bytes = with_end ends handle (record (end_at ends handle) { received = (end_at ends handle).received ++ bytes })

-- after the other end took so many bytes
abbrev pub freed_on : List End → ℕ → ℕ → List End
freed_on ends handle count = with_end ends handle (record (end_at ends handle) { outstanding = (end_at ends handle).outstanding - count })

-- where the managed partition runs now, or doesn't
abbrev pub told_on : List End → ℕ → Bool → List End
told_on ends handle runs = with_end ends handle (record (end_at ends handle) { runs = runs })

-- with no received bytes
abbrev pub emptied : List End → List End
emptied ends = map (λ (it : End). record it { received = [] }) ends

-- how an end begins: a managed partition runs unless it begins held
abbrev pub fresh_end : Port → End
fresh_end (described.Manage part held private) = record { received = []; outstanding = 0; runs = not held }
fresh_end _ = empty_end
