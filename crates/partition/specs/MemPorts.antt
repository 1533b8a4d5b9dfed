-- Ports in memory: a channel for each handle, whose end A is the partition's, and the bytes that a copy brings.
use Rattle.std.specs.Prelude.{◌≡◌, ℕ, ◌-◌, false, List, length, map, slice_index_or, slice_set, Option, None}
use Rattle.machine_desc.specs.declared.desc.Region.{Region}
use Rattle.machine_desc.specs.declared.desc.Span.{Span}
use Rattle.byte_channel.specs.Waiting.{Waiting, empty_channel, after_send, after_receive, after_clear}
use Rattle.byte_channel.specs.declared.side.Side.TheVariants.{A}
use Rattle.partition.specs.declared.kind.Kind.{Kind}
use Rattle.partition.specs.declared.kind.Kind.TheVariants.{Channel}
use Rattle.partition.specs.declared.mem_end.MemEnd.{MemEnd}
use Rattle.partition.specs.Port.{End}
use Rattle.partition.specs.Copying.{Copy}

pub record Held : Type 0 where
  -- by handle
  pub ends : List MemEnd
  -- what the partition gets that copies out of one that it manages
  pub feed : List ℕ
  -- the last copy
  pub last : Copy

-- what the machine has of a handle: what waits at the other end is outstanding
abbrev pub end_of : MemEnd → End
end_of it = record { received = it.channel.at_a; outstanding = length it.channel.at_b; runs = it.runs }

abbrev pub ends_of : List MemEnd → List End
ends_of ends = map end_of ends

abbrev pub sorts_of : List MemEnd → List Kind
sorts_of ends = map (λ (it : MemEnd). it.kind) ends

-- no end, for where the list has none
abbrev pub no_end : MemEnd
no_end = record { kind = Channel; channel = empty_channel; runs = false }

abbrev pub mem_end_at : List MemEnd → ℕ → MemEnd
mem_end_at ends handle = slice_index_or ends (handle - 1) no_end

-- the handle's channel is this one now
abbrev pub with_channel : List MemEnd → ℕ → Waiting → List MemEnd
with_channel ends handle channel = slice_set ends (handle - 1) (record (mem_end_at ends handle) { channel = channel })

-- nothing waits at the partition's end
abbrev pub emptied_end : MemEnd → MemEnd
emptied_end it = record it { channel = after_clear A it.channel }

-- what sending, taking and copying do
abbrev pub Sends : Held → ℕ → List ℕ → Held → Type 0
Sends old handle bytes new = new ≡ record old { ends = with_channel old.ends handle (after_send A bytes (mem_end_at old.ends handle).channel) }

abbrev pub Takes : Held → ℕ → ℕ → Held → Type 0
Takes old handle count new = new ≡ record old { ends = with_channel old.ends handle (after_receive A count (mem_end_at old.ends handle).channel) }

abbrev pub Copies : Held → List (List ℕ) → Copy → Held → Type 0
Copies old memory last new = new ≡ record old { last = last }

-- ---- what they are to the partition

abbrev pub held_kinds : Held → List Kind
held_kinds held = sorts_of held.ends

abbrev pub held_ends : Held → List End
held_ends held = ends_of held.ends

-- they know no other partition's memory
abbrev pub tells_none : Held → ℕ → Option (List Region)
tells_none held handle = None

abbrev pub held_feed : Held → List (List ℕ) → ℕ → List Span → List ℕ
held_feed held memory handle ranges = held.feed

abbrev pub held_last : Held → Copy
held_last held = held.last
